use Rattle.std.proofs.Common.{◌≡◌, ◌++◌, true, Ok, Err, refl, ◌∙◌}
use Rattle.btr_findings.specs.Findings.{Adds}
use Rattle.btr_volume.specs.declared.stop.Stop.TheVariants.{Memory as NoMemory}
use Rattle.btr_check.specs.Counting.{UsesCount}
use Rattle.btr_check.specs.Passes.{AreExtents, KnowsUses}
use Rattle.btr_check.specs.Running.{world, filesystem, is_outside}
use Rattle.btr_check.specs.Uses.{found_on_counts, found_on_uses}
use Rattle.btr_check.proofs.Passes.{ran_no_memory}
use Rattle.btr_check.proofs.Referring.{extents_left, uses_are, uses_put, uses_stop_here}
use Rattle.btr_check.proofs.Runs.{ran_stop_within, ran_value, stop_is}
use Rattle.btr_check.proofs.Wanting.{all_wanted, places_wanted}
use Rattle.btr_check.proofs.references.put_counted.Goals as goal

pub returns-in_err-forward : goal.returns-in_err-forward
returns-in_err-forward g c =
    let x = world (g.R.Rack.seen c.args.rack.now) c.args.vol.now in
    let y = world (g.R.Rack.seen c.count_uses.new.rack) c.count_uses.new.vol in
    let trees = c.args.trees.now in
    let places = c.as_slice.result.now in
    let begun = c.args.begun in
    let stop = c.in_err-forward.field-0.0 in
    record {
      ran = rw (stop_is c.from_residual.result c.from_residual.ensures.1)
          (ran_stop_within (λ fs. UsesCount fs.blocks begun.forward trees places begun.full (Err stop))
          (λ fs. KnowsUses trees c.args.places.items begun fs → is_outside stop ≡ true) x y stop c.in_err-forward.ensures.ran
          (λ B h known. uses_stop_here (filesystem c.args.vol.now B) trees places begun stop (c.as_slice.ensures.value ∙ known.reached) known.kept h)
          (λ B want w known.
          let fs = filesystem c.args.vol.now B in
          all_wanted fs trees want known.all (places_wanted fs trees places want (c.as_slice.ensures.value ∙ known.reached) w)));
    }

pub returns-in-Ok : goal.returns-in-Ok
returns-in-Ok g c =
    let x = world (g.R.Rack.seen c.args.rack.now) c.args.vol.now in
    let y = world (g.R.Rack.seen c.count_uses.new.rack) c.count_uses.new.vol in
    let trees = c.args.trees.now in
    let places = c.as_slice.result.now in
    let begun = c.args.begun in
    let forward = c.in_ok-forward.forward in
    let extents = c.in-Ok.extents in
    let a = c.args.found.now in
    let b = c.put_uses.new.found in
    record {
      ran = ran_value (λ fs. UsesCount fs.blocks begun.forward trees places begun.full (Ok forward))
          (λ fs. KnowsUses trees c.args.places.items begun fs → AreExtents extents.items fs
          × Adds (found_on_counts fs ++ found_on_uses fs) a b) x y forward extents c.in_ok-forward.ensures.ran
          (λ B h known.
          let fs = filesystem c.args.vol.now B in
          let is = uses_are fs trees places begun forward known.all (c.as_slice.ensures.value ∙ known.reached) known.kept h in (
            extents_left fs forward is extents.items c.in-Ok.ensures.extents,
            uses_put fs forward is a b c.in-Ok.ensures.found,
          ));
    }

pub returns : goal.returns
returns g c =
    let x = world (g.R.Rack.seen c.args.rack.now) c.args.vol.now in
    let y = world (g.R.Rack.seen c.count_uses.new.rack) c.count_uses.new.vol in
    let begun = c.args.begun in
    record {
      ran = ran_no_memory (λ fs. UsesCount fs.blocks begun.forward c.args.trees.now c.as_slice.result.now begun.full (Ok c.in_ok-forward.forward))
          (λ fs. KnowsUses c.args.trees.now c.args.places.items begun fs → is_outside NoMemory ≡ true) x y c.in_ok-forward.forward c.in_ok-forward.ensures.ran
          (λ B known. refl);
    }
