use Rattle.std.proofs.Common.{◌≡◌, length}
use Rattle.btr_chunk.specs.Table.{some_meet}
use Rattle.btr_chunk.proofs.stripes.Stripes.share.Given as goal

abbrev pub invariant-loop-first : goal.invariant-loop-first
invariant-loop-first l = some_meet l.length l.self ≡ some_meet l.length l.rest

abbrev pub decreases-loop-first : goal.decreases-loop-first
decreases-loop-first l = length l.rest
