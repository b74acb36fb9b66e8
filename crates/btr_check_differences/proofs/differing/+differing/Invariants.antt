use Rattle.std.proofs.Common.{◌*◌, ◌+◌, length}
use Rattle.btr_check_differences.specs.Ranges.{AreIn}
use Rattle.btr_check_differences.specs.Reading.{Read, world}
use Rattle.btr_check_differences.proofs.Differences.{LeftDecides}
use Rattle.btr_check_differences.proofs.differing.+differing.Given as goal

-- the level goes down
abbrev pub decreases-compare : goal.decreases-compare
decreases-compare g l = 2 * l.level + 1

abbrev pub decreases-compare_own : goal.decreases-compare_own
decreases-compare_own g l = 2 * l.level

-- what is left decides
abbrev pub invariant-compare-loop-at : goal.invariant-compare-loop-at
invariant-compare-loop-at g l = record {
  kept : AreIn l.fn.found.ranges.items l.found.ranges.items;
  read : Read (λ B. LeftDecides B l.level l.fn.before l.fn.after l.before l.after l.found.ranges.items) (world (g.R.Rack.seen l.fn.rack) l.fn.store)
      (world (g.R.Rack.seen l.rack) l.store);
}

abbrev pub decreases-compare-loop-at : goal.decreases-compare-loop-at
decreases-compare-loop-at g l = length l.before
