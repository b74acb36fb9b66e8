use Rattle.std.proofs.Common.{◌≡◌, ◌+◌, length, take}
use Rattle.std.specs.Bool.{beq}
use Rattle.std.specs.List.{filter}
use Rattle.btr_read.specs.Candidates.{reads_older, ways}
use Rattle.btr_read.proofs.search.Search.way_among.Given as goal

abbrev pub invariant-loop-k : goal.invariant-loop-k
invariant-loop-k l = l.number + length (filter (λ candidate. beq (reads_older l.self candidate) l.older) (take l.k (ways l.self))) ≡ l.fn.number
