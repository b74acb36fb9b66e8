use Rattle.std.proofs.Common.{◌∙◌, refl, arith, bit_xor}
use Rattle.btr_parity.proofs.Slicewise.{over_step, over_all}
use Rattle.btr_parity.proofs.fold.fold_p.Goals as goal

pub loop-i-preserved : goal.loop-i-preserved
loop-i-preserved c = over_step bit_xor c.args.acc.now c.args.piece.now c.loop-i.acc c.loop-i.i _ c.requires c.loop-i-test.true c.loop-i.invariant refl

pub returns : goal.returns
returns c = c.loop-i.invariant ∙ over_all bit_xor c.args.acc.now c.args.piece.now c.loop-i.i c.requires (omega arith)
