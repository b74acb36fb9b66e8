use Rattle.std.proofs.Common.{◌+◌, ◌-◌, ◌*◌, ◌≤◌}
use Rattle.btr_scrub.proofs.Common.{HasPassed, scene, tree_behind}
use Rattle.btr_scrub.specs.Units as units
use Rattle.btr_scrub.proofs.sectors.gather_sectors.Given as goal

abbrev pub invariant-loop-done : goal.invariant-loop-done
invariant-loop-done g l = record {
  few : l.done ≤ l.count;
  reaches : HasPassed (units.sectors l.fn.vol.sup (tree_behind l.sums) l.count l.addr)
      (units.sectors l.fn.vol.sup (tree_behind l.sums) (l.count - l.done) (l.addr + l.done * 4096))
      (scene (g.R.Rack.seen l.fn.rack) l.fn.vol l.fn.gathered) (scene (g.R.Rack.seen l.rack) l.vol l.gathered);
}

abbrev pub decreases-loop-done : goal.decreases-loop-done
decreases-loop-done g l = l.count - l.done
