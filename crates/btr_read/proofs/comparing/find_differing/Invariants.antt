use Rattle.std.proofs.Common.{◌≡◌}
use Rattle.btr_rack.specs.Rack.{OnlyReads, Seen}
use Rattle.btr_read.specs.Comparing.{AreAlike, ReadUpTo}
use Rattle.btr_read.specs.Gathering.{front_for}
use Rattle.btr_read.specs.Writing.{OnlyWrites, StillKept}
use Rattle.btr_read.proofs.comparing.find_differing.Given as goal

abbrev pub invariant-loop-k : goal.invariant-loop-k
invariant-loop-k g l = record {
  reads : OnlyReads (g.R.Rack.seen l.fn.rack) (g.R.Rack.seen l.rack);
  writes : OnlyWrites l.other l.fn.pool l.pool;
  still : StillKept l.fn.kept.wants l.kept.wants l.fn.pool l.pool;
  nodes : l.kept.nodes ≡ l.fn.kept.nodes;
  so_far : (old : Seen) → old.held ≡ (g.R.Rack.seen l.fn.rack).held
      → ReadUpTo l.search old (g.R.Rack.seen l.fn.rack) l.from (AreAlike l.search (front_for l.search l.fn.pool l.first))
      → ReadUpTo l.search old (g.R.Rack.seen l.rack) l.k (AreAlike l.search (front_for l.search l.fn.pool l.first));
}
