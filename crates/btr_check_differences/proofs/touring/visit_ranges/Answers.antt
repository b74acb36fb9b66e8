use Rattle.std.proofs.Common.{◌≡◌, ◌+◌, ◌∙◌, fold, take, get_or, ap}
use Rattle.btr_tour.specs.Tour.{tour}
use Rattle.btr_check_differences.specs.declared.inode_range.InodeRange.{InodeRange}
use Rattle.btr_check_differences.specs.Law.{tours}
use Rattle.btr_check_differences.specs.Ranges.{high, low}
use Rattle.btr_check_differences.specs.Reading.{world}
use Rattle.btr_check_differences.proofs.Calls.{read_then}
use Rattle.btr_check_differences.proofs.Tours.{tours_more}
use Rattle.btr_check_differences.proofs.touring.visit_ranges.Goals as goal

pub loop-range-preserved : goal.loop-range-preserved
loop-range-preserved g c =
    let l = c.loop-range in
    let step = g.V.Visitor.step in
    let root = c.args.root.now in
    let ranges = c.args.ranges.now in
    let none : InodeRange = record { first = 0; last = 0 } in
    let here = get_or ranges l.range-index none in
    record {
      read = read_then (λ B. l.visitor ≡ fold step c.args.visitor.now (tours B root (take l.range-index ranges)))
          (λ B. c.visit_range.new.visitor ≡ fold step l.visitor (tour (low here) (high here) B root))
          (λ B. c.visit_range.new.visitor ≡ fold step c.args.visitor.now (tours B root (take (l.range-index + 1) ranges)))
          (world (g.R.Rack.seen c.args.rack.now) c.args.store.now) (world (g.R.Rack.seen l.rack) l.store)
          (world (g.R.Rack.seen c.visit_range.new.rack) c.visit_range.new.store) l.invariant.read c.in-Some.ensures.read
          (λ B had more. more ∙ ap (λ s. fold step s (tour (low here) (high here) B root)) had
          ∙ tours_more step c.args.visitor.now B root ranges l.range-index none c.loop-range-test.true);
    }
