use Rattle.std.proofs.Common.{◌≡◌, true, [], Err, refl, sym, ◌∙◌, subst}
use Rattle.btr_check_names.specs.Subvolumes.{subvolumes_in, subvolume_findings}
use Rattle.btr_findings.specs.Findings.{Adds}
use Rattle.btr_volume.specs.declared.stop.Stop.TheVariants.{Memory as NoMemory}
use Rattle.btr_check.specs.Data.{sum_runs}
use Rattle.btr_check.specs.Families.{AreSumRanges, found_on_files}
use Rattle.btr_check.specs.Filesystem.{root_items}
use Rattle.btr_check.specs.FileTrees.{Treats}
use Rattle.btr_check.specs.Passes.{Lists}
use Rattle.btr_check.specs.Running.{world, filesystem, is_outside}
use Rattle.btr_check.specs.SoundTrees.{AreKept, TreatsAll}
use Rattle.btr_check.proofs.FileTrees.{files_put}
use Rattle.btr_check.proofs.Passes.{on_done, ran_put, ran_memory}
use Rattle.btr_check.proofs.Runs.{nothing, ran_both, ran_stop_within, ran_then, stop_is}
use Rattle.btr_check.proofs.Wanting.{files_wanted}
use Rattle.btr_check.proofs.file_trees.put_files.Goals as goal

pub returns-in-Err : goal.returns-in-Err
returns-in-Err g c =
    let x = world (g.R.Rack.seen c.args.rack.now) c.args.vol.now in
    record {
      ran = ran_memory (λ fs. Lists c.args.listed.now fs × AreSumRanges fs c.args.sums.now → is_outside NoMemory ≡ true) x c.requires.ready (λ B known. refl);
    }

pub returns-in_err-subvolumes : goal.returns-in_err-subvolumes
returns-in_err-subvolumes g c =
    let x = world (g.R.Rack.seen c.args.rack.now) c.args.vol.now in
    let y = world (g.R.Rack.seen c.read_subvolumes.new.rack) c.read_subvolumes.new.vol in
    let stop = c.in_err-subvolumes.field-0.0 in
    record {
      ran = rw (stop_is c.from_residual.result c.from_residual.ensures.1)
          (ran_stop_within (λ fs. is_outside stop ≡ true) (λ fs. Lists c.args.listed.now fs × AreSumRanges fs c.args.sums.now
          → is_outside stop ≡ true) x y stop c.in_err-subvolumes.ensures.ran (λ B h known. h)
          (λ B want w lists. w));
    }

pub returns-in_err-put_file_trees : goal.returns-in_err-put_file_trees
returns-in_err-put_file_trees g c =
    let x = world (g.R.Rack.seen c.args.rack.now) c.args.vol.now in
    let y = world (g.R.Rack.seen c.read_subvolumes.new.rack) c.read_subvolumes.new.vol in
    let z = world (g.R.Rack.seen c.put_file_trees.new.rack) c.put_file_trees.new.vol in
    let stop = c.in_err-put_file_trees.field-0.0 in
    let names = c.in_ok-subvolumes.subvolumes in
    record {
      ran = rw (stop_is c.from_residual-in_err-put_file_trees.result c.from_residual-in_err-put_file_trees.ensures.1)
          (ran_then {C = Unit {0}} (λ fs. names ≡ subvolumes_in (root_items fs) [])
          (λ fs. AreSumRanges fs c.args.sums.now → AreKept fs c.new.result.items → is_outside stop ≡ true)
          (λ fs. Lists c.args.listed.now fs × AreSumRanges fs c.args.sums.now → is_outside stop ≡ true)
          x y z names (Err stop) c.in_ok-subvolumes.ensures.ran c.in_err-put_file_trees.ensures.ran
          (λ B p q known. q known.1 (subst (AreKept (filesystem c.args.vol.now B)) (sym c.new.ensures.items) tt))
          (λ B p want w lists. files_wanted (filesystem c.args.vol.now B) c.args.listed.now c.deref.result.now want lists
          (c.deref.ensures.value ∙ c.in-Ok.ensures) w));
    }

pub returns : goal.returns
returns g c =
    let x = world (g.R.Rack.seen c.args.rack.now) c.args.vol.now in
    let y = world (g.R.Rack.seen c.read_subvolumes.new.rack) c.read_subvolumes.new.vol in
    let z = world (g.R.Rack.seen c.put_file_trees.new.rack) c.put_file_trees.new.vol in
    let names = c.in_ok-subvolumes.subvolumes in
    let kept = c.put_file_trees.new.kept in
    let names' = kept.subvolumes in
    let files = c.deref.result.now in
    let found = c.args.found.now in
    let found' = c.put_file_trees.new.found in
    let both = ran_both {C = Unit {0}} {U = nothing} (λ fs. names ≡ subvolumes_in (root_items fs) [])
    (λ fs. AreSumRanges fs c.args.sums.now → AreKept fs c.new.result.items → TreatsAll fs files found found' names names' kept.sound.items)
    (λ fs. (names ≡ subvolumes_in (root_items fs) [])
    × (AreSumRanges fs c.args.sums.now → Treats fs.blocks fs.chunks (sum_runs fs) files found found' names names'))
    x y z names tt c.in_ok-subvolumes.ensures.ran c.in_ok-put_file_trees.ensures.ran
    (λ B p q. (p, λ same. (q same (subst (AreKept (filesystem c.args.vol.now B)) (sym c.new.ensures.items) tt)).treats)) in
    record {
      ran = ran_put {A = Unit {0}} (λ fs. (names ≡ subvolumes_in (root_items fs) [])
          × (AreSumRanges fs c.args.sums.now → Treats fs.blocks fs.chunks (sum_runs fs) files found found' names names'))
          (λ fs. Lists c.args.listed.now fs × AreSumRanges fs c.args.sums.now)
          (λ fs. Adds (found_on_files fs) found c.put_subvolume_findings.new.found) x z tt c.put_subvolume_findings.result c.or_memory.result both
          c.or_memory.ensures
          (λ B p known. on_done (Adds (subvolume_findings names') found' c.put_subvolume_findings.new.found)
          (Adds (found_on_files (filesystem c.args.vol.now B)) found c.put_subvolume_findings.new.found) c.put_subvolume_findings.result
          (files_put (filesystem c.args.vol.now B) c.args.listed.now files found found' c.put_subvolume_findings.new.found names names' known.0
          (c.deref.ensures.value ∙ c.in-Ok.ensures) p.0 (p.1 known.1))
          c.put_subvolume_findings.ensures);
    }
