use Rattle.std.proofs.Common.{arith}
use Rattle.btr_make.proofs.Spoils.{bytes_read}
use Rattle.btr_make.proofs.spoiling.bytes_of.Goals as goal

pub returns : goal.returns
returns c = bytes_read _ _ _ c.loop-i.invariant.whole (λ k lt. c.loop-i.invariant.read k (omega arith))
