use Rattle.std.proofs.Common.{◌≡◌, ℕ, List, [], ◌∷◌, take, Some}
use Rattle.btr_rack.specs.Rack.{NoneFailed, OnlyReads}
use Rattle.btr_pool.specs.Slots.{bytes_at}
use Rattle.btr_read.specs.Candidates.{size_of}
use Rattle.btr_read.specs.Writing.{OnlyWritesIn}
use Rattle.btr_read.proofs.Sums.{GatheredSoFar}
use Rattle.btr_read.proofs.gathering.gather.Given as goal

abbrev pub invariant-loop-slice : goal.invariant-loop-slice
invariant-loop-slice g l = record {
  reads : OnlyReads (g.R.Rack.seen l.fn.rack) (g.R.Rack.seen l.rack);
  writes : OnlyWritesIn (l.spare ∷ l.sum ∷ []) l.fn.pool l.pool;
  unfailed : NoneFailed (g.R.Rack.seen l.fn.rack).account (g.R.Rack.seen l.rack).account;
  sum : (images : List (List ℕ)) → (g.R.Rack.seen l.fn.rack).held ≡ Some images
      → GatheredSoFar images l.search l.candidate l.parity l.slice (take (size_of l.search) (bytes_at l.pool l.sum));
}
