use Rattle.std.proofs.Common.{◌≡◌}
use Rattle.btr_rack.specs.Rack.{OnlyReads, Seen}
use Rattle.btr_read.specs.Writing.{OnlyWrites, StillKept}
use Rattle.btr_read.specs.Trial.{BeganAt, TriedSoFar}
use Rattle.btr_read.proofs.trying.try_from.Given as goal

abbrev pub invariant-loop-k : goal.invariant-loop-k
invariant-loop-k g l = record {
  reads : OnlyReads (g.R.Rack.seen l.fn.rack) (g.R.Rack.seen l.rack);
  writes : OnlyWrites l.loan l.fn.pool l.pool;
  still : StillKept l.fn.kept.wants l.kept.wants l.fn.pool l.pool;
  nodes : l.kept.nodes ≡ l.fn.kept.nodes;
  tried : (before : Seen) → BeganAt before (g.R.Rack.seen l.fn.rack) → TriedSoFar l.search before (g.R.Rack.seen l.fn.rack) l.fn.failed l.from
      → TriedSoFar l.search before (g.R.Rack.seen l.rack) l.failed l.k;
}
