use Rattle.std.proofs.Common.{[], ◌∷◌, take, IfSome}
use Rattle.btr_rack.specs.Rack.{OnlyReads, Seen}
use Rattle.btr_pool.specs.Slots.{bytes_at}
use Rattle.btr_read.specs.Candidates.{size_of}
use Rattle.btr_read.specs.Gathering.{AreSyndromes}
use Rattle.btr_read.specs.Trial.{BeganAt, TriedSoFar}
use Rattle.btr_read.specs.Writing.{OnlyWritesIn}
use Rattle.btr_read.proofs.syndromes.try_syndromes.Given as goal

abbrev pub invariant-loop-k : goal.invariant-loop-k
invariant-loop-k g l = record {
  reads : OnlyReads (g.R.Rack.seen l.fn.rack) (g.R.Rack.seen l.rack);
  writes : OnlyWritesIn (l.slots.q.now ∷ l.slots.spare.now ∷ l.slots.sought.now ∷ []) l.fn.pool l.pool;
  syndromes : IfSome (g.R.Rack.seen l.rack).held (λ images. AreSyndromes images l.search (take (size_of l.search) (bytes_at l.pool l.slots.p.now))
      (take (size_of l.search) (bytes_at l.pool l.slots.q.now)));
  tried : (before : Seen) → BeganAt before (g.R.Rack.seen l.fn.rack) → TriedSoFar l.search before (g.R.Rack.seen l.fn.rack) l.failed 1
      → TriedSoFar l.search before (g.R.Rack.seen l.rack) l.failed l.k;
}
