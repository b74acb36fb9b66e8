use Rattle.std.proofs.Common.{◌∙◌, ap, arith, bit_xor, get_or}
use Rattle.btr_parity.specs.Field.{product}
use Rattle.btr_parity.proofs.Slicewise.{over_step, over_all, zip2-map_left}
use Rattle.btr_parity.proofs.fold.double_and_add.Goals as goal

pub loop-i-preserved : goal.loop-i-preserved
loop-i-preserved c = over_step (λ x y. bit_xor (product 2 x) y) c.args.acc.now c.args.piece.now c.loop-i.acc c.loop-i.i _ c.requires
    c.loop-i-test.true c.loop-i.invariant (ap (λ x. bit_xor x (get_or c.args.piece.now c.loop-i.i 0)) c.doubled.ensures)

pub returns : goal.returns
returns c =
    c.loop-i.invariant ∙ over_all (λ x y. bit_xor (product 2 x) y) c.args.acc.now c.args.piece.now c.loop-i.i c.requires (omega arith)
    ∙ zip2-map_left bit_xor (product 2) c.args.acc.now c.args.piece.now
