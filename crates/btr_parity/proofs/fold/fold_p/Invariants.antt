use Rattle.std.proofs.Common.{◌≡◌, bit_xor}
use Rattle.btr_parity.proofs.Slicewise.{over}
use Rattle.btr_parity.proofs.fold.fold_p.Given as goal

abbrev pub invariant-loop-i : goal.invariant-loop-i
invariant-loop-i l = l.acc ≡ over bit_xor l.i l.fn.acc l.piece
