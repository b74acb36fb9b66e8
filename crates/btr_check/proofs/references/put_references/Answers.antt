use Rattle.std.proofs.Common.{◌≡◌, ◌++◌, true, ◌∙◌}
use Rattle.btr_findings.specs.Findings.{Adds}
use Rattle.btr_check.specs.ExtentTree.{IsBegun}
use Rattle.btr_check.specs.Families.{found_on_groups}
use Rattle.btr_check.specs.Passes.{AreExtents, KnowsUses, IsWalked, ListExtents, ListsSound, AddsFindingsAnd}
use Rattle.btr_check.specs.Running.{world, filesystem, is_outside}
use Rattle.btr_check.specs.Uses.{found_on_counts, found_on_totals, found_on_uses, reference_findings}
use Rattle.btr_check.proofs.Passes.{unless_more}
use Rattle.btr_check.proofs.Referring.{adds_turned}
use Rattle.btr_check.proofs.Runs.{ran_stop_within, ran_then, stop_is}
use Rattle.btr_check.proofs.references.put_references.Goals as goal

pub returns-in_err-begun : goal.returns-in_err-begun
returns-in_err-begun g c =
    let x = world (g.R.Rack.seen c.args.rack.now) c.args.vol.now in
    let y = world (g.R.Rack.seen c.put_stored.new.rack) c.put_stored.new.vol in
    let listed = c.args.checked.listed.now in
    let trees = c.args.checked.trees.now in
    let stop = c.in_err-begun.field-0.0 in
    record {
      ran = rw (stop_is c.from_residual.result c.from_residual.ensures.1)
          (ran_stop_within (λ fs. ListsSound listed fs → is_outside stop ≡ true)
          (λ fs. IsWalked listed trees c.args.walk fs → is_outside stop ≡ true) x y stop c.in_err-begun.ensures.ran
          (λ B h known. h (record { lists = known.lists; sound = known.sound })) (λ B want w known. w known.lists));
    }

pub returns : goal.returns
returns g c =
    let x = world (g.R.Rack.seen c.args.rack.now) c.args.vol.now in
    let y = world (g.R.Rack.seen c.put_stored.new.rack) c.put_stored.new.vol in
    let z = world (g.R.Rack.seen c.put_counted.new.rack) c.put_counted.new.vol in
    let listed = c.args.checked.listed.now in
    let trees = c.args.checked.trees.now in
    let begun = c.in_ok-begun.begun in
    let places = c.into_places-places.result in
    let one = c.args.found.now in
    let two = c.put_stored.new.found in
    let three = c.put_counted.new.found in
    record {
      ran = ran_then (λ fs. ListsSound listed fs → IsBegun fs begun × Adds (found_on_totals fs ++ found_on_groups fs) one two)
          (AddsFindingsAnd (KnowsUses trees places.items begun) ListExtents (λ fs. found_on_counts fs ++ found_on_uses fs) two three c.put_counted.result)
          (AddsFindingsAnd (IsWalked listed trees c.args.walk) ListExtents (λ fs. reference_findings fs ++ found_on_groups fs) one three
          c.put_counted.result) x y z begun
          c.put_counted.result c.in_ok-begun.ensures.ran c.put_counted.ensures.ran
          (λ B p q known.
          let fs = filesystem c.args.vol.now B in
          let kept = p (record { lists = known.lists; sound = known.sound }) in
          unless_more (λ extents. AreExtents extents.items fs × Adds (found_on_counts fs ++ found_on_uses fs) two three)
          (λ extents. AreExtents extents.items fs × Adds (reference_findings fs ++ found_on_groups fs) one three) c.put_counted.result
          (λ extents h. (h.0, adds_turned (found_on_counts fs) (found_on_totals fs) (found_on_uses fs) (found_on_groups fs) one two three kept.1 h.1))
          (q (record { all = known.all; reached = c.into_places-places.ensures ∙ known.walked.places; kept = kept.0 })))
          (λ B p want w known.
          let kept = p (record { lists = known.lists; sound = known.sound }) in
          w (record { all = known.all; reached = c.into_places-places.ensures ∙ known.walked.places; kept = kept.0 }));
    }
