use Rattle.std.proofs.Common.{◌≡◌, length}
use Rattle.btr_base.specs.Xxh64.{with_bytes}
use Rattle.btr_base.proofs.xxhash.add_bytes.Given as goal

-- the hash so far with what is left is that with all
abbrev pub invariant-loop-rest : goal.invariant-loop-rest
invariant-loop-rest l = with_bytes l.hash l.rest ≡ with_bytes l.fn.hash l.fn.bytes

abbrev pub decreases-loop-rest : goal.decreases-loop-rest
decreases-loop-rest l = length l.rest
