use Rattle.std.proofs.Common.{◌≡◌, inl, true, Err, refl, sym, ◌∙◌}
use Rattle.std.specs.Bool.{⊤}
use Rattle.btr_findings.specs.Findings.{Adds, HasJust}
use Rattle.btr_volume.specs.declared.stop.Stop.TheVariants.{Memory as NoMemory}
use Rattle.btr_check.specs.Findings.{all_findings, rule_findings}
use Rattle.btr_check.specs.Passes.{IsWalked, Lists}
use Rattle.btr_check.specs.Running.{world, filesystem, is_outside}
use Rattle.btr_check.specs.Walking.{IsWalkOf}
use Rattle.btr_check.proofs.Passes.{ran_memory, ran_no_memory}
use Rattle.btr_check.proofs.Runs.{nothing, ran_both, ran_stop, ran_stop_within, ran_then, ran_value, stop_is}
use Rattle.btr_check.proofs.Wanting.{all_wanted}
use Rattle.btr_check.proofs.Wholes.{all_are, is_walked, rules_just, walk_just}
use Rattle.btr_check.proofs.checking.find_all.Goals as goal

pub returns-in-Err : goal.returns-in-Err
returns-in-Err g c =
    let x = world (g.R.Rack.seen c.args.rack.now) c.args.vol.now in
    record {
      ran = ran_memory (λ fs. Lists c.args.listed.now fs → is_outside NoMemory ≡ true) x c.requires.ready (λ B lists. refl);
    }

pub returns-in_err-walk : goal.returns-in_err-walk
returns-in_err-walk g c =
    let x = world (g.R.Rack.seen c.args.rack.now) c.args.vol.now in
    let y = world (g.R.Rack.seen c.walk_trees.new.rack) c.walk_trees.new.vol in
    let stop = c.in_err-walk.field-0.0 in
    record {
      ran = rw (stop_is c.from_residual.result c.from_residual.ensures.1)
          (ran_stop_within (λ fs. ⊤) (λ fs. Lists c.args.listed.now fs → is_outside stop ≡ true) x y stop c.in_err-walk.ensures.ran
          (λ B h lists. c.in_err-walk.ensures.outside)
          (λ B want w lists.
          let fs = filesystem c.args.vol.now B in
          inl (all_wanted fs c.as_slice-trees.result.now want
          (all_are fs c.args.listed.now c.as_slice-trees.result.now lists (c.as_slice-trees.ensures.value ∙ c.in-Ok.ensures)) w)));
    }

pub returns-in_err-put_rules : goal.returns-in_err-put_rules
returns-in_err-put_rules g c =
    let x = world (g.R.Rack.seen c.args.rack.now) c.args.vol.now in
    let y = world (g.R.Rack.seen c.walk_trees.new.rack) c.walk_trees.new.vol in
    let z = world (g.R.Rack.seen c.put_rules.new.rack) c.put_rules.new.vol in
    let trees = c.as_slice-trees.result.now in
    let walk = c.in_ok-walk.walk in
    let stop = c.in_err-put_rules.field-0.0 in
    record {
      ran = rw (stop_is c.from_residual-in_err-put_rules.result c.from_residual-in_err-put_rules.ensures.1)
          (ran_stop {A = Unit {0}} (λ fs. Lists c.args.listed.now fs → is_outside stop ≡ true)
          (λ fs. Lists c.args.listed.now fs → is_outside stop ≡ true) x z stop
          (ran_then {C = Unit {0}} (λ fs. IsWalkOf fs trees walk) (λ fs. IsWalked c.args.listed.now trees walk fs → is_outside stop ≡ true)
          (λ fs. Lists c.args.listed.now fs → is_outside stop ≡ true) x y z walk (Err stop) c.in_ok-walk.ensures.ran c.in_err-put_rules.ensures.ran
          (λ B p q lists. q (is_walked (filesystem c.args.vol.now B) c.args.listed.now trees lists (c.as_slice-trees.ensures.value ∙ c.in-Ok.ensures) walk p
          (sym c.is_sound.ensures ∙ c.if-is_sound.true)))
          (λ B p want w lists. w (is_walked (filesystem c.args.vol.now B) c.args.listed.now trees lists
          (c.as_slice-trees.ensures.value ∙ c.in-Ok.ensures) walk p
          (sym c.is_sound.ensures ∙ c.if-is_sound.true))))
          (λ B h. h));
    }

pub returns-then-is_sound : goal.returns-then-is_sound
returns-then-is_sound g c =
    let x = world (g.R.Rack.seen c.args.rack.now) c.args.vol.now in
    let y = world (g.R.Rack.seen c.walk_trees.new.rack) c.walk_trees.new.vol in
    let z = world (g.R.Rack.seen c.put_rules.new.rack) c.put_rules.new.vol in
    let trees = c.as_slice-trees.result.now in
    let walk = c.in_ok-walk.walk in
    let found = c.put_rules.new.found in
    let both = ran_both {C = Unit {0}} {U = nothing} (λ fs. IsWalkOf fs trees walk)
    (λ fs. IsWalked c.args.listed.now trees walk fs → Adds (rule_findings c.args.read_data fs) c.new-found.result found)
    (λ fs. Lists c.args.listed.now fs → HasJust (all_findings c.args.read_data fs) found) x y z walk
    tt c.in_ok-walk.ensures.ran c.in_ok-put_rules.ensures.ran
    (λ B p q lists.
    let fs = filesystem c.args.vol.now B in
    let are = c.as_slice-trees.ensures.value ∙ c.in-Ok.ensures in
    let known = is_walked fs c.args.listed.now trees lists are walk p (sym c.is_sound.ensures ∙ c.if-is_sound.true) in
    rules_just fs c.args.listed.now trees lists are c.args.read_data walk c.new-found.result found c.new-found.ensures known (q known)) in
    record {
      ran = ran_value {A = Unit {0}} (λ fs. Lists c.args.listed.now fs → HasJust (all_findings c.args.read_data fs) found)
          (λ fs. Lists c.args.listed.now fs → HasJust (all_findings c.args.read_data fs) found) x z tt found both (λ B h. h);
    }

pub returns-in-Ok-put_walk_findings : goal.returns-in-Ok-put_walk_findings
returns-in-Ok-put_walk_findings g c =
    let x = world (g.R.Rack.seen c.args.rack.now) c.args.vol.now in
    let y = world (g.R.Rack.seen c.walk_trees.new.rack) c.walk_trees.new.vol in
    let trees = c.as_slice-trees.result.now in
    let walk = c.in_ok-walk.walk in
    let found = c.put_walk_findings.new.found in
    record {
      ran = ran_value (λ fs. IsWalkOf fs trees walk) (λ fs. Lists c.args.listed.now fs → HasJust
          (all_findings c.args.read_data fs) found) x y walk found c.in_ok-walk.ensures.ran
          (λ B p lists. walk_just (filesystem c.args.vol.now B) c.args.listed.now trees lists
          (c.as_slice-trees.ensures.value ∙ c.in-Ok.ensures) c.args.read_data walk c.new-found.result found c.new-found.ensures p
          (sym c.is_sound.ensures ∙ c.if-is_sound.false) c.in-Ok-put_walk_findings.ensures);
    }

pub returns : goal.returns
returns g c =
    let x = world (g.R.Rack.seen c.args.rack.now) c.args.vol.now in
    let y = world (g.R.Rack.seen c.walk_trees.new.rack) c.walk_trees.new.vol in
    record {
      ran = ran_no_memory (λ fs. IsWalkOf fs c.as_slice-trees.result.now c.in_ok-walk.walk)
          (λ fs. Lists c.args.listed.now fs → is_outside NoMemory ≡ true) x y c.in_ok-walk.walk c.in_ok-walk.ensures.ran (λ B lists. refl);
    }
