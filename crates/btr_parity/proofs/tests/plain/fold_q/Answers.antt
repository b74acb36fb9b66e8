use Rattle.std.proofs.Common.{◌∙◌, ap, arith, bit_xor}
use Rattle.btr_parity.specs.Field.{product, power}
use Rattle.btr_parity.proofs.Slicewise.{over_step, over_all, zip2-map_right}
use Rattle.btr_parity.proofs.tests.plain.fold_q.Goals as goal

pub loop-i-preserved : goal.loop-i-preserved
loop-i-preserved c = over_step (λ x y. bit_xor x (product (power c.args.index) y)) c.args.acc.now c.args.piece.now c.loop-i.acc c.loop-i.i _
    c.requires.same_length c.loop-i-test.true c.loop-i.invariant (ap (bit_xor _) c.times.ensures)

pub returns : goal.returns
returns c =
    c.loop-i.invariant ∙ over_all (λ x y. bit_xor x (product (power c.args.index) y)) c.args.acc.now c.args.piece.now c.loop-i.i
    c.requires.same_length (omega arith)
    ∙ zip2-map_right bit_xor (product (power c.args.index)) c.args.acc.now c.args.piece.now
