use Rattle.std.proofs.Common.{◌≡◌, inl, true, false, None, Some, Err, refl, ◌∙◌}
use Rattle.btr_findings.specs.Findings.{HasJust, FoundSet}
use Rattle.btr_volume.specs.declared.stop.Stop.TheVariants.{Memory as NoMemory}
use Rattle.btr_check.specs.Before.{refusal}
use Rattle.btr_check.specs.Findings.{all_findings, findings}
use Rattle.btr_check.specs.Passes.{Lists}
use Rattle.btr_check.specs.Running.{world, filesystem, is_outside}
use Rattle.btr_check.specs.Trees.{listed}
use Rattle.btr_check.proofs.Passes.{ran_no_memory}
use Rattle.btr_check.proofs.Runs.{nothing, ran_both, ran_stop, ran_stop_within, ran_then, ran_value, stop_is}
use Rattle.btr_check.proofs.Wholes.{findings_are, outside_only}
use Rattle.btr_check.proofs.checking.check.Goals as goal

pub returns-in_err-trees : goal.returns-in_err-trees
returns-in_err-trees g c =
    let x = world (g.R.Rack.seen c.args.rack.now) c.args.vol.now in
    let y = world (g.R.Rack.seen c.read_trees.new.rack) c.read_trees.new.vol in
    let stop = c.in_err-trees.field-0.0 in
    record {
      ran = rw (stop_is c.from_residual.result c.from_residual.ensures.1)
          (ran_stop_within (λ fs. is_outside stop ≡ false → refusal fs ≡ Some stop)
          (λ fs. is_outside stop ≡ false → refusal fs ≡ Some stop) x y stop c.in_err-trees.ensures.ran (λ B h. h) (λ B want w. inl w));
    }

pub returns-in_err-found : goal.returns-in_err-found
returns-in_err-found g c =
    let x = world (g.R.Rack.seen c.args.rack.now) c.args.vol.now in
    let y = world (g.R.Rack.seen c.read_trees.new.rack) c.read_trees.new.vol in
    let z = world (g.R.Rack.seen c.find_all.new.rack) c.find_all.new.vol in
    let trees = c.in_ok-trees.trees in
    let stop = c.in_err-found.field-0.0 in
    record {
      ran = rw (stop_is c.from_residual-in_err-found.result c.from_residual-in_err-found.ensures.1)
          (ran_stop {A = FoundSet} (λ fs. is_outside stop ≡ false → refusal fs ≡ Some stop) (λ fs. is_outside stop ≡ false → refusal fs ≡ Some stop) x z stop
          (ran_then {C = FoundSet} (λ fs. (refusal fs ≡ None) × (trees.items ≡ listed fs.sup fs.blocks))
          (λ fs. Lists c.deref.result.now fs → is_outside stop ≡ true) (λ fs. is_outside stop ≡ false → refusal fs ≡ Some stop) x y z trees
          (Err stop) c.in_ok-trees.ensures.ran c.in_err-found.ensures.ran
          (λ B p q inside. outside_only (is_outside stop) _ (q (c.deref.ensures.value ∙ p.1)) inside)
          (λ B p want w. w (c.deref.ensures.value ∙ p.1)))
          (λ B h. h));
    }

pub returns-in-Ok : goal.returns-in-Ok
returns-in-Ok g c =
    let x = world (g.R.Rack.seen c.args.rack.now) c.args.vol.now in
    let y = world (g.R.Rack.seen c.read_trees.new.rack) c.read_trees.new.vol in
    let z = world (g.R.Rack.seen c.find_all.new.rack) c.find_all.new.vol in
    let trees = c.in_ok-trees.trees in
    let found = c.in_ok-found.found in
    let all = c.in-Ok.all in
    let both = ran_both {U = nothing} (λ fs. (refusal fs ≡ None) × (trees.items ≡ listed fs.sup fs.blocks))
    (λ fs. Lists c.deref.result.now fs → HasJust (all_findings c.args.read_data fs) found)
    (λ fs. (refusal fs ≡ None) × HasJust (all_findings c.args.read_data fs) found) x y z trees found c.in_ok-trees.ensures.ran c.in_ok-found.ensures.ran
    (λ B p q. (p.0, q (c.deref.ensures.value ∙ p.1))) in
    record {
      ran = ran_value (λ fs. (refusal fs ≡ None) × HasJust (all_findings c.args.read_data fs) found)
          (λ fs. (refusal fs ≡ None) × (all ≡ findings c.args.read_data fs)) x z found all both
          (λ B h. (
            h.0,
            findings_are c.args.read_data (filesystem c.args.vol.now B) all
                (c.in-Ok.ensures (all_findings c.args.read_data (filesystem c.args.vol.now B)) h.1),
          ));
    }

pub returns : goal.returns
returns g c =
    let x = world (g.R.Rack.seen c.args.rack.now) c.args.vol.now in
    let y = world (g.R.Rack.seen c.read_trees.new.rack) c.read_trees.new.vol in
    let z = world (g.R.Rack.seen c.find_all.new.rack) c.find_all.new.vol in
    let trees = c.in_ok-trees.trees in
    let found = c.in_ok-found.found in
    let both = ran_both {U = nothing} (λ fs. (refusal fs ≡ None) × (trees.items ≡ listed fs.sup fs.blocks))
    (λ fs. Lists c.deref.result.now fs → HasJust (all_findings c.args.read_data fs) found)
    (λ fs. (refusal fs ≡ None) × HasJust (all_findings c.args.read_data fs) found) x y z trees found c.in_ok-trees.ensures.ran c.in_ok-found.ensures.ran
    (λ B p q. (p.0, q (c.deref.ensures.value ∙ p.1))) in
    record {
      ran = ran_no_memory (λ fs. (refusal fs ≡ None) × HasJust (all_findings c.args.read_data fs) found)
          (λ fs. is_outside NoMemory ≡ false → refusal fs ≡ Some NoMemory) x z found both (λ B inside. outside_only (is_outside NoMemory) _ refl inside);
    }
