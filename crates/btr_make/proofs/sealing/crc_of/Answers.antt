use Rattle.std.proofs.Common.{◌≡◌, ◌∙◌, ◌+◌, sym, subst, arith}
use Rattle.btr_rack.specs.Memory.{named}
use Rattle.btr_make.specs.Seal.{IsRegisterAt}
use Rattle.btr_make.proofs.Registers.{register_goes_on, register_ends}
use Rattle.btr_make.proofs.sealing.crc_of.Goals as goal

pub loop-at-preserved : goal.loop-at-preserved
loop-at-preserved c =
    let image = named c.args.rack.now c.args.name.now in
    record {
      fits = omega arith;
      here = subst (λ register. IsRegisterAt register image c.args.begin c.args.end (c.loop-at.at + 1)) (sym c.crc_register-register.ensures.value)
          (register_goes_on c.loop-at.register c.in_ok-byte.byte c.args.begin c.args.end c.loop-at.at image c.loop-at.invariant.fits (omega arith)
          c.loop-at-test.true (sym c.byte.ensures ∙ c.in_ok-byte.was) c.loop-at.invariant.here);
    }

pub returns-clause-some : goal.returns-clause-some
returns-clause-some c =
    let image = named c.args.rack.now c.args.name.now in
    let end : c.loop-at.at ≡ c.args.end = omega arith in
    register_ends c.loop-at.register c.args.begin c.args.end image c.loop-at.invariant.fits c.requires
    (subst (λ at. IsRegisterAt c.loop-at.register image c.args.begin c.args.end at) end c.loop-at.invariant.here)
