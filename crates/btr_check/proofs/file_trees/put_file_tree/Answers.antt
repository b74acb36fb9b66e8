use Rattle.std.proofs.Common.{◌≡◌, true, [], ◌∷◌, refl, sym, subst}
use Rattle.btr_volume.specs.declared.stop.Stop.TheVariants.{Memory as NoMemory}
use Rattle.btr_volume.specs.declared.root.TreeRoot.{TreeRoot}
use Rattle.btr_check_names.specs.Subvolumes.{Subvolumes}
use Rattle.btr_check.specs.Counting.{Unless}
use Rattle.btr_check.specs.Data.{sum_runs}
use Rattle.btr_check.specs.Families.{AreSumRanges}
use Rattle.btr_check.specs.FileTrees.{Treats}
use Rattle.btr_check.specs.Running.{world, filesystem, is_outside}
use Rattle.btr_check.specs.SoundTrees.{AreBelow, AreKept, PassesTree, TreatsAll}
use Rattle.btr_check.specs.Wanted.{OfTree}
use Rattle.btr_check.specs.declared.sound_tree.RootedTree.{RootedTree}
use Rattle.btr_check.proofs.Passes.{ran_no_memory}
use Rattle.btr_check.proofs.Runs.{ran_stop, ran_then, ran_value, stop_is}
use Rattle.btr_check.proofs.file_trees.put_file_tree.Goals as goal

pub returns-in_err-rooted : goal.returns-in_err-rooted
returns-in_err-rooted g c =
    let x = world (g.R.Rack.seen c.args.rack.now) c.args.vol.now in
    let y = world (g.R.Rack.seen c.read_rooted.new.rack) c.read_rooted.new.vol in
    record {
      ran = rw (stop_is c.from_residual.result c.from_residual.ensures.1)
          (ran_stop (λ fs. is_outside c.in_err-rooted.field-0.0 ≡ true)
          (λ fs. AreSumRanges fs c.args.sums.now → AreKept fs c.args.kept.now.sound.items → is_outside c.in_err-rooted.field-0.0 ≡ true) x y
          c.in_err-rooted.field-0.0
          c.in_err-rooted.ensures.ran (λ B h same kept. h));
    }

pub returns-in-Err : goal.returns-in-Err
returns-in-Err g c =
    let x = world (g.R.Rack.seen c.args.rack.now) c.args.vol.now in
    let y = world (g.R.Rack.seen c.read_rooted.new.rack) c.read_rooted.new.vol in
    record {
      ran = ran_no_memory {A = RootedTree} (λ fs. AreBelow fs c.args.tree.now c.in_ok-rooted.rooted.children.items)
          (λ fs. AreSumRanges fs c.args.sums.now → AreKept fs c.args.kept.now.sound.items → is_outside NoMemory ≡ true) x y c.in_ok-rooted.rooted
          c.in_ok-rooted.ensures.ran (λ B known kept. refl);
    }

pub returns-in-Ok-true : goal.returns-in-Ok-true
returns-in-Ok-true g c =
    let x = world (g.R.Rack.seen c.args.rack.now) c.args.vol.now in
    let y = world (g.R.Rack.seen c.read_rooted.new.rack) c.read_rooted.new.vol in
    let rooted = c.in_ok-rooted.rooted in
    let tree = c.args.tree.now in
    let found = c.args.found.now in
    let old = c.args.kept.now in
    let new = c.pass_like.new.subvolumes in
    record {
      ran = ran_value {A = RootedTree} {C = Unit {0}} (λ fs. AreBelow fs tree rooted.children.items)
          (λ fs. AreSumRanges fs c.args.sums.now → AreKept fs old.sound.items
          → TreatsAll fs (tree ∷ []) found found old.subvolumes new old.sound.items) x y rooted tt c.in_ok-rooted.ensures.ran
          (λ B below same kept.
          let fs = filesystem c.args.vol.now B in
          record {
            treats = subst (λ (t : TreeRoot). Treats B fs.chunks (sum_runs fs) (t ∷ []) found found old.subvolumes new) c.in_ok-rooted.ensures.tree
                (subst (PassesTree c.as_slice.result.now rooted old.subvolumes new) c.in-Ok-true.field-0-test c.in-Ok-true.ensures fs found
                (subst (AreKept fs) (sym c.as_slice.ensures.value) kept)
                (subst (λ (t : TreeRoot). AreBelow fs t rooted.children.items) (sym c.in_ok-rooted.ensures.tree) below));
            kept = kept;
          });
    }

pub returns-in-Ok-false : goal.returns-in-Ok-false
returns-in-Ok-false g c =
    let x = world (g.R.Rack.seen c.args.rack.now) c.args.vol.now in
    let y = world (g.R.Rack.seen c.read_rooted.new.rack) c.read_rooted.new.vol in
    let z = world (g.R.Rack.seen c.put_unlike.new.rack) c.put_unlike.new.vol in
    let rooted = c.in_ok-rooted.rooted in
    let tree = c.args.tree.now in
    let found = c.args.found.now in
    let found' = c.put_unlike.new.found in
    let old = c.args.kept.now in
    let mid = c.pass_like.new.subvolumes in
    let new = c.put_unlike.new.kept in
    let r = c.put_unlike.result in
    record {
      ran = ran_then {A = RootedTree} {C = Unit {0}} (λ fs. AreBelow fs tree rooted.children.items)
          (λ fs. AreSumRanges fs c.args.sums.now → AreKept fs old.sound.items → AreBelow fs rooted.tree rooted.children.items
          → Unless (λ u. TreatsAll fs (rooted.tree ∷ []) found found' mid new.subvolumes new.sound.items) r)
          (λ fs. AreSumRanges fs c.args.sums.now → AreKept fs old.sound.items
          → Unless (λ u. TreatsAll fs (tree ∷ []) found found' old.subvolumes new.subvolumes new.sound.items) r) x y z rooted r
          c.in_ok-rooted.ensures.ran c.put_unlike.ensures.ran
          (λ B below h same kept.
          let fs = filesystem c.args.vol.now B in
          subst (λ (t : TreeRoot). Unless (λ u. TreatsAll fs (t ∷ []) found found' old.subvolumes new.subvolumes new.sound.items) r) c.in_ok-rooted.ensures.tree
          (subst (λ (n : Subvolumes). Unless (λ u. TreatsAll fs (rooted.tree ∷ []) found found' n new.subvolumes new.sound.items) r)
          (subst (PassesTree c.as_slice.result.now rooted old.subvolumes mid) c.in-Ok-false.field-0-test c.in-Ok-false.ensures)
          (h same kept (subst (λ (t : TreeRoot). AreBelow fs t rooted.children.items) (sym c.in_ok-rooted.ensures.tree) below))))
          (λ B p want w. subst (λ (t : TreeRoot). OfTree t.place (filesystem c.args.vol.now B) want) c.in_ok-rooted.ensures.tree w);
    }
