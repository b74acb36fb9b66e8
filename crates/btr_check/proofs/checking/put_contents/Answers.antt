use Rattle.std.proofs.Common.{◌≡◌, true, ◌++◌, inl, map, refl, ◌∙◌, subst}
use Rattle.btr_findings.proofs.Adding.{adds_then}
use Rattle.btr_findings.specs.Findings.{Adds}
use Rattle.btr_check_space.specs.AddressRanges.{HoldSame}
use Rattle.btr_check_sums.specs.Sums.{run_range}
use Rattle.btr_volume.specs.declared.stop.Stop.TheVariants.{Memory as NoMemory}
use Rattle.btr_check.specs.Families.{AreSumRanges, IsRunsOf, found_on_files}
use Rattle.btr_check.specs.Findings.{data_if}
use Rattle.btr_check.specs.Passes.{Lists, AddsFindings}
use Rattle.btr_check.specs.Running.{world, filesystem, is_outside}
use Rattle.btr_check.proofs.Passes.{unless_more, ran_no_memory}
use Rattle.btr_check.proofs.Runs.{ran_stop, ran_then, stop_is}
use Rattle.btr_check.proofs.checking.put_contents.Goals as goal

pub returns-in_err-put_data_if : goal.returns-in_err-put_data_if
returns-in_err-put_data_if g c =
    let x = world (g.R.Rack.seen c.args.rack.now) c.args.vol.now in
    let y = world (g.R.Rack.seen c.put_data_if.new.rack) c.put_data_if.new.vol in
    let stop = c.in_err-put_data_if.field-0.0 in
    record {
      ran = rw (stop_is c.from_residual.result c.from_residual.ensures.1)
          (ran_stop (λ fs. Lists c.args.checked.listed.now fs × IsRunsOf fs c.args.runs → is_outside stop ≡ true)
          (λ fs. Lists c.args.checked.listed.now fs × IsRunsOf fs c.args.runs → is_outside stop ≡ true) x y stop c.in_err-put_data_if.ensures.ran (λ B h. h));
    }

pub returns : goal.returns
returns g c =
    let x = world (g.R.Rack.seen c.args.rack.now) c.args.vol.now in
    let y = world (g.R.Rack.seen c.put_data_if.new.rack) c.put_data_if.new.vol in
    record {
      ran = ran_no_memory {A = Unit {0}} (λ fs. Lists c.args.checked.listed.now fs × IsRunsOf fs c.args.runs
          → Adds (data_if c.args.checked.read_data fs) c.args.found.now c.put_data_if.new.found)
          (λ fs. Lists c.args.checked.listed.now fs × IsRunsOf fs c.args.runs → is_outside NoMemory ≡ true)
          x y tt c.in_ok-put_data_if.ensures.ran (λ B known. refl);
    }

pub returns-in-Ok : goal.returns-in-Ok
returns-in-Ok g c =
    let x = world (g.R.Rack.seen c.args.rack.now) c.args.vol.now in
    let y = world (g.R.Rack.seen c.put_data_if.new.rack) c.put_data_if.new.vol in
    let z = world (g.R.Rack.seen c.put_files.new.rack) c.put_files.new.vol in
    let sums = c.in-Ok.sums in
    let listed = c.args.checked.listed.now in
    let read_data = c.args.checked.read_data in
    let one = c.args.found.now in
    let two = c.put_data_if.new.found in
    let three = c.put_files.new.found in
    record {
      ran = ran_then {A = Unit {0}} {C = Unit {0}} (λ fs. Lists listed fs × IsRunsOf fs c.args.runs → Adds (data_if read_data fs) one two)
          (AddsFindings (λ fs. Lists listed fs × AreSumRanges fs sums) found_on_files two three c.put_files.result)
          (AddsFindings (λ fs. Lists listed fs × IsRunsOf fs c.args.runs)
          (λ fs. data_if read_data fs ++ found_on_files fs) one three c.put_files.result) x y z tt c.put_files.result c.in_ok-put_data_if.ensures.ran
          c.put_files.ensures.ran
          (λ B p q known. unless_more (λ u. Adds (found_on_files (filesystem c.args.vol.now B)) two three)
          (λ u. Adds (data_if read_data (filesystem c.args.vol.now B) ++ found_on_files (filesystem c.args.vol.now B)) one three) c.put_files.result
          (λ u h. adds_then (data_if read_data (filesystem c.args.vol.now B)) (found_on_files (filesystem c.args.vol.now B)) one two three (p known) h)
          (q (known.0, subst (λ l. HoldSame (map run_range l) sums) (c.as_slice.ensures ∙ known.1) c.in-Ok.ensures)))
          (λ B p want w known. inl (w known.0));
    }
