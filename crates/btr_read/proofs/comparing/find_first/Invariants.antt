use Rattle.std.proofs.Common.{◌≡◌}
use Rattle.btr_rack.specs.Rack.{OnlyReads}
use Rattle.btr_read.specs.Comparing.{NonePass, ReadUpTo}
use Rattle.btr_read.specs.Writing.{OnlyWrites, StillKept}
use Rattle.btr_read.proofs.comparing.find_first.Given as goal

abbrev pub invariant-loop-k : goal.invariant-loop-k
invariant-loop-k g l = record {
  reads : OnlyReads (g.R.Rack.seen l.fn.rack) (g.R.Rack.seen l.rack);
  writes : OnlyWrites l.loan l.fn.pool l.pool;
  still : StillKept l.fn.kept.wants l.kept.wants l.fn.pool l.pool;
  nodes : l.kept.nodes ≡ l.fn.kept.nodes;
  so_far : ReadUpTo l.search (g.R.Rack.seen l.fn.rack) (g.R.Rack.seen l.rack) l.k (NonePass l.search);
}
