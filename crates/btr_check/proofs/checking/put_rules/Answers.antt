use Rattle.std.proofs.Common.{◌≡◌, inl, true, List, ◌++◌, Err}
use Rattle.btr_findings.proofs.Adding.{adds_then}
use Rattle.btr_findings.specs.declared.finding.Finding.{Finding}
use Rattle.btr_findings.specs.Findings.{Adds}
use Rattle.btr_check.specs.Families.{IsRunsOf, found_on_extents, found_on_devices, found_on_files}
use Rattle.btr_check.specs.Filesystem.{Filesystem}
use Rattle.btr_check.specs.Findings.{data_if, rule_findings}
use Rattle.btr_check.specs.Passes.{IsWalked, Lists, AddsFindings}
use Rattle.btr_check.specs.Running.{world, filesystem, is_outside}
use Rattle.btr_check.proofs.Passes.{unless_more}
use Rattle.btr_check.proofs.Runs.{nothing, ran_both, ran_stop_within, ran_then, stop_is}
use Rattle.btr_check.proofs.checking.put_rules.Goals as goal

pub returns-in_err-runs : goal.returns-in_err-runs
returns-in_err-runs g c =
    let x = world (g.R.Rack.seen c.args.rack.now) c.args.vol.now in
    let y = world (g.R.Rack.seen c.put_extents.new.rack) c.put_extents.new.vol in
    let known : Filesystem → Type 0 = IsWalked c.args.checked.listed.now c.args.checked.trees.now c.args.walk in
    record {
      ran = rw (stop_is c.from_residual.result c.from_residual.ensures.1)
          (ran_stop_within (λ fs. known fs → is_outside c.in_err-runs.field-0.0 ≡ true)
          (λ fs. known fs → is_outside c.in_err-runs.field-0.0 ≡ true) x y c.in_err-runs.field-0.0 c.in_err-runs.ensures.ran (λ B h. h)
          (λ B want w k. inl (w k)));
    }

pub returns-in_err-put_devices : goal.returns-in_err-put_devices
returns-in_err-put_devices g c =
    let x = world (g.R.Rack.seen c.args.rack.now) c.args.vol.now in
    let y = world (g.R.Rack.seen c.put_extents.new.rack) c.put_extents.new.vol in
    let z = world (g.R.Rack.seen c.put_devices.new.rack) c.put_devices.new.vol in
    let known : Filesystem → Type 0 = IsWalked c.args.checked.listed.now c.args.checked.trees.now c.args.walk in
    let runs = c.in_ok-runs.runs in
    let stop = c.in_err-put_devices.field-0.0 in
    record {
      ran = rw (stop_is c.from_residual-in_err-put_devices.result c.from_residual-in_err-put_devices.ensures.1)
          (ran_then (λ fs. known fs → IsRunsOf fs runs × Adds (found_on_extents fs) c.args.found.now c.put_extents.new.found)
          (λ fs. Lists c.args.checked.listed.now fs → is_outside stop ≡ true) (λ fs. known fs → is_outside stop ≡ true)
          x y z runs (Err stop) c.in_ok-runs.ensures.ran c.in_err-put_devices.ensures.ran (λ B p q k. q k.lists)
          (λ B p want w k. inl (w k.lists)));
    }

pub returns : goal.returns
returns g c =
    let x = world (g.R.Rack.seen c.args.rack.now) c.args.vol.now in
    let y = world (g.R.Rack.seen c.put_extents.new.rack) c.put_extents.new.vol in
    let z = world (g.R.Rack.seen c.put_devices.new.rack) c.put_devices.new.vol in
    let w = world (g.R.Rack.seen c.put_contents.new.rack) c.put_contents.new.vol in
    let known : Filesystem → Type 0 = IsWalked c.args.checked.listed.now c.args.checked.trees.now c.args.walk in
    let runs = c.in_ok-runs.runs in
    let one = c.args.found.now in
    let two = c.put_extents.new.found in
    let three = c.put_devices.new.found in
    let four = c.put_contents.new.found in
    let rest : Filesystem → List Finding = λ fs. data_if c.args.checked.read_data fs ++ found_on_files fs in
    let to_three = ran_both {C = Unit {0}} {U = nothing} (λ fs. known fs → IsRunsOf fs runs × Adds (found_on_extents fs) one two)
    (λ fs. Lists c.args.checked.listed.now fs → Adds (found_on_devices fs) two three)
    (λ fs. known fs → IsRunsOf fs runs × Adds (found_on_extents fs ++ found_on_devices fs) one three) x y z runs
    tt c.in_ok-runs.ensures.ran c.in_ok-put_devices.ensures.ran
    (λ B p q k. (
      (p k).0,
      adds_then (found_on_extents (filesystem c.args.vol.now B)) (found_on_devices (filesystem c.args.vol.now B)) one two three (p k).1
          (q k.lists),
    )) in
    record {
      ran = ran_then {A = Unit {0}} {C = Unit {0}} (λ fs. known fs → IsRunsOf fs runs × Adds (found_on_extents fs ++ found_on_devices fs) one three)
          (AddsFindings (λ fs. Lists c.args.checked.listed.now fs × IsRunsOf fs runs) rest three four c.put_contents.result)
          (AddsFindings known (rule_findings c.args.checked.read_data) one four c.put_contents.result) x z w tt c.put_contents.result to_three
          c.put_contents.ensures.ran
          (λ B p q k. unless_more (λ u. Adds (rest (filesystem c.args.vol.now B)) three four)
          (λ u. Adds (rule_findings c.args.checked.read_data (filesystem c.args.vol.now B)) one four) c.put_contents.result
          (λ u h. adds_then (found_on_extents (filesystem c.args.vol.now B) ++ found_on_devices (filesystem c.args.vol.now B))
          (rest (filesystem c.args.vol.now B)) one three four (p k).1 h)
          (q (k.lists, (p k).0)))
          (λ B p want w k. w (k.lists, (p k).0));
    }
