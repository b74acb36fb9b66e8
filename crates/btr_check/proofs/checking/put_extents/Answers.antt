use Rattle.std.proofs.Common.{◌≡◌, true, ◌++◌, ◌∙◌}
use Rattle.btr_findings.proofs.Adding.{adds_then}
use Rattle.btr_findings.specs.Findings.{Adds}
use Rattle.btr_check.specs.Counting.{Unless}
use Rattle.btr_check.specs.Families.{IsRunsOf, found_on_groups, found_on_sums, found_on_extents}
use Rattle.btr_check.specs.Filesystem.{Filesystem}
use Rattle.btr_check.specs.Passes.{AreExtents, IsWalked, Lists}
use Rattle.btr_check.specs.Running.{world, filesystem, is_outside}
use Rattle.btr_check.specs.Uses.{reference_findings}
use Rattle.btr_check.proofs.Passes.{unless_more}
use Rattle.btr_check.proofs.Runs.{ran_stop, ran_then, stop_is}
use Rattle.btr_check.proofs.checking.put_extents.Goals as goal

pub returns-in_err-extents : goal.returns-in_err-extents
returns-in_err-extents g c =
    let x = world (g.R.Rack.seen c.args.rack.now) c.args.vol.now in
    let y = world (g.R.Rack.seen c.put_references.new.rack) c.put_references.new.vol in
    let known : Filesystem → Type 0 = IsWalked c.args.checked.listed.now c.args.checked.trees.now c.args.walk in
    let stop = c.in_err-extents.field-0.0 in
    record {
      ran = rw (stop_is c.from_residual.result c.from_residual.ensures.1)
          (ran_stop (λ fs. known fs → is_outside stop ≡ true) (λ fs. known fs → is_outside stop ≡ true) x y stop c.in_err-extents.ensures.ran (λ B h. h));
    }

pub returns : goal.returns
returns g c =
    let x = world (g.R.Rack.seen c.args.rack.now) c.args.vol.now in
    let y = world (g.R.Rack.seen c.put_references.new.rack) c.put_references.new.vol in
    let z = world (g.R.Rack.seen c.put_sums.new.rack) c.put_sums.new.vol in
    let listed = c.args.checked.listed.now in
    let known : Filesystem → Type 0 = IsWalked listed c.args.checked.trees.now c.args.walk in
    let extents = c.in_ok-extents.extents in
    let all = c.as_slice.result.now in
    let one = c.args.found.now in
    let two = c.put_references.new.found in
    let three = c.put_sums.new.found in
    record {
      ran = ran_then (λ fs. known fs → AreExtents extents.items fs × Adds (reference_findings fs ++ found_on_groups fs) one two)
          (λ fs. Lists listed fs × AreExtents all fs → Unless (λ runs. IsRunsOf fs runs × Adds (found_on_sums fs) two three) c.put_sums.result)
          (λ fs. known fs → Unless (λ runs. IsRunsOf fs runs × Adds (found_on_extents fs) one three) c.put_sums.result) x y z extents c.put_sums.result
          c.in_ok-extents.ensures.ran c.put_sums.ensures.ran
          (λ B p q k. unless_more _ _ c.put_sums.result
          (λ runs h. (
            h.0,
            adds_then (reference_findings (filesystem c.args.vol.now B) ++ found_on_groups (filesystem c.args.vol.now B))
                (found_on_sums (filesystem c.args.vol.now B)) one two three (p k).1 h.1,
          ))
          (q (k.lists, c.as_slice.ensures.value ∙ (p k).0)))
          (λ B p want w k. w k.lists);
    }
