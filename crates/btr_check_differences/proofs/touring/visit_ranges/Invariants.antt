use Rattle.std.proofs.Common.{◌≡◌, fold, take}
use Rattle.btr_check_differences.specs.Law.{tours}
use Rattle.btr_check_differences.specs.Reading.{Read, world}
use Rattle.btr_check_differences.proofs.touring.visit_ranges.Given as goal

-- the ranges so far were visited
abbrev pub invariant-loop-range : goal.invariant-loop-range
invariant-loop-range g l = record {
  read : Read (λ B. l.visitor ≡ fold g.V.Visitor.step l.fn.visitor (tours B l.root (take l.range-index l.ranges)))
      (world (g.R.Rack.seen l.fn.rack) l.fn.store) (world (g.R.Rack.seen l.rack) l.store);
}
