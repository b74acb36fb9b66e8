use Rattle.std.proofs.Common.{◌≡◌, ◌++◌, ◌-◌, ◌^◌, map}
use Rattle.btr_check_space.specs.Orders.{chunk_span}
use Rattle.btr_check_space.proofs.Nexts.{left_from}
use Rattle.btr_check_space.proofs.chunks.spans_of.Given as goal

-- what was met, and what is left, are all
abbrev pub invariant-loop-chunk : goal.invariant-loop-chunk
invariant-loop-chunk l = l.spans.items ++ map chunk_span (left_from l.from l.chunks) ≡ map chunk_span l.chunks

abbrev pub decreases-loop-chunk : goal.decreases-loop-chunk
decreases-loop-chunk l = 2 ^ 64 - l.from
