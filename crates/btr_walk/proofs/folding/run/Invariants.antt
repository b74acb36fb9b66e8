use Rattle.std.proofs.Common.{◌≡◌, ◌≤◌}
use Rattle.btr_rack.specs.Rack.{OnlyReads}
use Rattle.btr_read.specs.Store.{SameLoans, free_count}
use Rattle.btr_walk.specs.Reading.{Tells}
use Rattle.btr_walk.specs.ScanEnds.{IsScanReady, without_leaf, rank_of}
use Rattle.btr_walk.proofs.Turns.{Led}
use Rattle.btr_walk.proofs.folding.run.Given as goal

abbrev pub invariant-loop-out : goal.invariant-loop-out
invariant-loop-out g l = record {
  ready : IsScanReady (g.R.Rack.seen l.rack) l.store l.scan;
  reads : OnlyReads (g.R.Rack.seen l.fn.rack) (g.R.Rack.seen l.rack);
  others : SameLoans (without_leaf l.fn.store l.fn.scan) (without_leaf l.store l.scan);
  room : 4 ≤ free_count (without_leaf l.store l.scan);
  layout : l.store.layout ≡ l.fn.store.layout;
  lo : l.scan.lo ≡ l.fn.scan.lo;
  hi : l.scan.hi ≡ l.fn.scan.hi;
  tells : Tells l.fn.store.layout (g.R.Rack.seen l.fn.rack) (g.R.Rack.seen l.rack)
      (λ B. Led g.F.Folder.step g.F.Folder.answer B l.fn.store l.fn.scan l.fn.state l.store l.scan l.state);
}

abbrev pub decreases-loop-out : goal.decreases-loop-out
decreases-loop-out g l = rank_of l.scan
