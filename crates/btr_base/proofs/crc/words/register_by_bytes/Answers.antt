use Rattle.std.proofs.Common.{◌∙◌, ◌+◌, ap, drop, arith}
use Rattle.btr_base.specs.Crc.{register}
use Rattle.btr_base.proofs.Words.{register_more, register_all}
use Rattle.btr_base.proofs.crc.words.register_by_bytes.Goals as goal

pub loop-byte-preserved : goal.loop-byte-preserved
loop-byte-preserved c =
    let i = c.loop-byte.byte-index in
    let bytes = c.args.bytes.now in (
      c.take_byte-reg.type_inv,
      ap (λ reg. register reg (drop (i + 1) bytes)) c.take_byte-reg.ensures
          ∙ register_more c.loop-byte.reg i bytes c.loop-byte.invariant.0 c.loop-byte-test.true (omega (arith, c.type_inv.bytes i)) ∙ c.loop-byte.invariant.1,
    )

pub returns : goal.returns
returns c = register_all c.loop-byte.reg c.loop-byte.byte-index c.args.bytes.now c.loop-byte.invariant.0 c.loop-byte-test.false ∙ c.loop-byte.invariant.1
