use Rattle.std.proofs.Common.{◌≡◌, ◌≤◌}
use Rattle.std.specs.Prelude.{Contains}
use Rattle.btr_scrub.proofs.Common.{Chunk, IsList, scene, tree_behind, without_leaf}
use Rattle.btr_read.specs.Store.{free_count}
use Rattle.btr_walk.specs.ScanEnds.{IsScanReady, rank_of}
use Rattle.btr_scrub.specs.Extents.{span_of}
use Rattle.btr_scrub.specs.Scanning.{Underway}
use Rattle.btr_scrub.proofs.collecting.gather_items.Given as goal

abbrev pub invariant-loop-fault : goal.invariant-loop-fault
invariant-loop-fault g l = record {
  ready : IsScanReady (g.R.Rack.seen l.rack) l.vol.store l.scan;
  room : 5 ≤ free_count (without_leaf l.vol.store l.scan);
  sup : l.vol.sup ≡ l.fn.vol.sup;
  layout : l.vol.store.layout ≡ l.fn.vol.store.layout;
  is_list : IsList l.gathered.list;
  kind : l.gathered.list.kind ≡ l.fn.gathered.list.kind;
  underway : (chunk : Chunk) → l.fn.span ≡ span_of chunk → Contains l.fn.vol.store.layout.chunks chunk
      → Underway l.fn.vol.sup (tree_behind l.sums) chunk (scene (g.R.Rack.seen l.fn.rack) l.fn.vol l.fn.gathered)
      (scene (g.R.Rack.seen l.rack) l.vol l.gathered) l.fn.scan l.scan l.end;
}

abbrev pub decreases-loop-fault : goal.decreases-loop-fault
decreases-loop-fault g l = rank_of l.scan
