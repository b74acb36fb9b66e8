use Rattle.std.proofs.Common.{◌∙◌, refl, arith}
use Rattle.btr_parity.specs.Field.{product, power}
use Rattle.btr_parity.proofs.Slicewise.{over_step, over_all, zip2_of_first}
use Rattle.btr_parity.proofs.tests.plain.scale.Goals as goal

pub loop-x-preserved : goal.loop-x-preserved
loop-x-preserved c = over_step (λ x y. product (power c.args.index) x) c.args.slice.now c.args.slice.now c.loop-x.slice c.loop-x.x-index _ refl
    c.loop-x-test.true c.loop-x.invariant c.times.ensures

pub returns : goal.returns
returns c =
    c.loop-x.invariant ∙ over_all (λ x y. product (power c.args.index) x) c.args.slice.now c.args.slice.now c.loop-x.x-index refl (omega arith)
    ∙ zip2_of_first (product (power c.args.index)) c.args.slice.now
