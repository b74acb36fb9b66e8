use Rattle.std.proofs.Common.{◌≡◌, ◌≤◌}
use Rattle.btr_rack.specs.Rack.{OnlyReads}
use Rattle.btr_read.specs.Store.{SameLoans, free_count}
use Rattle.btr_walk.specs.Reading.{Tells}
use Rattle.btr_walk.specs.ScanEnds.{IsScanReady, without_leaf, rank_of}
use Rattle.btr_resolve.proofs.Cursors.{Gone}
use Rattle.btr_resolve.proofs.owners.find_owner.Given as goal

abbrev pub invariant-loop-owner : goal.invariant-loop-owner
invariant-loop-owner g l = record {
  ready : IsScanReady (g.R.Rack.seen l.rack) l.store l.scan;
  reads : OnlyReads (g.R.Rack.seen l.fn.rack) (g.R.Rack.seen l.rack);
  others : SameLoans (without_leaf l.fn.store l.fn.scan) (without_leaf l.store l.scan);
  room : 4 ≤ free_count (without_leaf l.store l.scan);
  layout : l.store.layout ≡ l.fn.store.layout;
  lo : l.scan.lo ≡ l.fn.scan.lo;
  hi : l.scan.hi ≡ l.fn.scan.hi;
  nearer : rank_of l.scan ≤ rank_of l.fn.scan;
  tells : Tells l.fn.store.layout (g.R.Rack.seen l.fn.rack) (g.R.Rack.seen l.rack)
      (λ B. Gone l.addr l.tree B l.fn.store l.fn.scan l.fn.met l.store l.scan l.met);
}

abbrev pub decreases-loop-owner : goal.decreases-loop-owner
decreases-loop-owner g l = rank_of l.scan
