use Rattle.std.proofs.Common.{◌≡◌, true, fold, refl, ◌∙◌}
use Rattle.btr_findings.specs.Findings.{Adds}
use Rattle.btr_check_sums.specs.Items.{runs_step}
use Rattle.btr_volume.specs.declared.stop.Stop.TheVariants.{Memory as NoMemory}
use Rattle.btr_check.specs.Families.{IsRunsOf, found_on_sums}
use Rattle.btr_check.specs.Passes.{AreExtents, Lists, marks_if}
use Rattle.btr_check.specs.Running.{world, filesystem, is_outside}
use Rattle.btr_check.proofs.Passes.{ran_no_memory}
use Rattle.btr_check.proofs.Runs.{ran_stop_within, ran_value, stop_is}
use Rattle.btr_check.proofs.Wanting.{last_wanted}
use Rattle.btr_check.proofs.Summing.{runs_are, sums_put}
use Rattle.btr_check.proofs.sums.put_sums.Goals as goal

pub returns-in_err-runs : goal.returns-in_err-runs
returns-in_err-runs g c =
    let x = world (g.R.Rack.seen c.args.rack.now) c.args.vol.now in
    let y = world (g.R.Rack.seen c.collect.new.rack) c.collect.new.vol in
    record {
      ran = rw (stop_is c.from_residual.result c.from_residual.ensures.1)
          (ran_stop_within (λ fs. is_outside c.in_err-runs.field-0.0 ≡ true)
          (λ fs. Lists c.args.listed.now fs × AreExtents c.args.extents.now fs → is_outside c.in_err-runs.field-0.0 ≡ true) x y
          c.in_err-runs.field-0.0 c.in_err-runs.ensures.ran
          (λ B h known. h)
          (λ B want w lists. last_wanted (filesystem c.args.vol.now B) c.args.listed.now 7 c.last_of-tree.result want c.last_of-tree.ensures lists w));
    }

pub returns-in-Ok : goal.returns-in-Ok
returns-in-Ok g c =
    let x = world (g.R.Rack.seen c.args.rack.now) c.args.vol.now in
    let y = world (g.R.Rack.seen c.collect.new.rack) c.collect.new.vol in
    record {
      ran = ran_value (λ fs. c.in_ok-runs.runs ≡ fold runs_step c.new-nothing.result (marks_if fs.blocks c.last_of-tree.result))
          (λ fs. Lists c.args.listed.now fs × AreExtents c.args.extents.now fs → IsRunsOf fs c.in_ok-runs.runs
          × Adds (found_on_sums fs) c.args.found.now c.put_sum_findings.new.found) x y c.in_ok-runs.runs c.in_ok-runs.runs c.in_ok-runs.ensures.ran
          (λ B met known. (
            runs_are (filesystem c.args.vol.now B) c.keeps_law.ensures.runs c.args.listed.now c.last_of-tree.result c.kind_of.result c.new-nothing.result
                c.in_ok-runs.runs known.0 c.last_of-tree.ensures c.kind_of.ensures c.new-nothing.ensures met,
            sums_put (filesystem c.args.vol.now B) c.as_slice.result.now c.args.extents.now c.args.found.now c.put_sum_findings.new.found
                (c.as_slice.ensures ∙ runs_are (filesystem c.args.vol.now B) c.keeps_law.ensures.runs c.args.listed.now c.last_of-tree.result c.kind_of.result
                c.new-nothing.result c.in_ok-runs.runs known.0 c.last_of-tree.ensures c.kind_of.ensures c.new-nothing.ensures met) known.1
                c.in-Ok.ensures,
          ));
    }

pub returns-in-Err : goal.returns-in-Err
returns-in-Err g c =
    let x = world (g.R.Rack.seen c.args.rack.now) c.args.vol.now in
    let y = world (g.R.Rack.seen c.collect.new.rack) c.collect.new.vol in
    record {
      ran = ran_no_memory (λ fs. c.in_ok-runs.runs ≡ fold runs_step c.new-nothing.result (marks_if fs.blocks c.last_of-tree.result))
          (λ fs. Lists c.args.listed.now fs × AreExtents c.args.extents.now fs → is_outside NoMemory ≡ true) x y c.in_ok-runs.runs c.in_ok-runs.ensures.ran
          (λ B known. refl);
    }
