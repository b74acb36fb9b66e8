use Rattle.std.proofs.Common.{◌≡◌, ◌+◌, true, [], ◌∷◌, take, get_or, Err}
use Rattle.std.proofs.lemmas.List.Elements.{Contains-get_or}
use Rattle.btr_volume.specs.declared.root.TreeRoot.{TreeRoot}
use Rattle.btr_check.specs.Data.{sum_runs}
use Rattle.btr_check.specs.Families.{AreSumRanges}
use Rattle.btr_check.specs.Running.{world, filesystem, is_outside}
use Rattle.btr_check.specs.SoundTrees.{AreKept, TreatsAll}
use Rattle.btr_check.proofs.FileTrees.{treats_none, treats_next, treats_all}
use Rattle.btr_check.proofs.Runs.{ran_both, ran_none, ran_then, ran_value, stop_is}
use Rattle.btr_check.proofs.file_trees.put_file_trees.Goals as goal

pub loop-tree-init : goal.loop-tree-init
loop-tree-init g c =
    let found = c.args.found.now in
    let kept = c.args.kept.now in
    record {
      ran = ran_none (λ fs. AreSumRanges fs c.args.sums.now → AreKept fs kept.sound.items → TreatsAll fs [] found found kept.subvolumes kept.subvolumes
          kept.sound.items) (world (g.R.Rack.seen c.args.rack.now) c.args.vol.now) tt c.requires.ready
          (λ B same all. record {
            treats = treats_none B c.args.vol.now.store.layout.chunks (sum_runs (filesystem c.args.vol.now B)) found kept.subvolumes;
            kept = all;
          });
    }

pub loop-tree-preserved : goal.loop-tree-preserved
loop-tree-preserved g c =
    let l = c.loop-tree in
    let none : TreeRoot = record { id = 0; offset = 0; place = record { addr = 0; generation = 0; level = 0 }; dirid = 0; refs = 0 } in
    let files = c.args.files.now in
    let first = c.args.kept.now in
    let old = l.kept in
    let new = c.put_file_tree.new.kept in
    let found' = c.put_file_tree.new.found in
    record {
      ran = ran_both {A = Unit {0}} {C = Unit {0}}
          (λ fs. AreSumRanges fs c.args.sums.now → AreKept fs first.sound.items → TreatsAll fs
          (take l.tree-index files) c.args.found.now l.found first.subvolumes old.subvolumes old.sound.items)
          (λ fs. AreSumRanges fs c.args.sums.now → AreKept fs old.sound.items → TreatsAll fs
          (get_or files l.tree-index none ∷ []) l.found found' old.subvolumes new.subvolumes new.sound.items)
          (λ fs. AreSumRanges fs c.args.sums.now → AreKept fs first.sound.items → TreatsAll fs
          (take (l.tree-index + 1) files) c.args.found.now found' first.subvolumes new.subvolumes new.sound.items)
          (world (g.R.Rack.seen c.args.rack.now) c.args.vol.now) (world (g.R.Rack.seen l.rack) l.vol)
          (world (g.R.Rack.seen c.put_file_tree.new.rack) c.put_file_tree.new.vol) tt tt l.invariant.ran c.in_ok-put_file_tree.ensures.ran
          (λ B p q same all.
          let before = p same all in
          let here = q same before.kept in
          record {
            treats = treats_next B c.args.vol.now.store.layout.chunks (sum_runs (filesystem c.args.vol.now B)) files l.tree-index none c.args.found.now
                l.found found' first.subvolumes old.subvolumes new.subvolumes c.loop-tree-test.true before.treats here.treats;
            kept = here.kept;
          });
    }

pub returns-in_err-put_file_tree : goal.returns-in_err-put_file_tree
returns-in_err-put_file_tree g c =
    let l = c.loop-tree in
    let none : TreeRoot = record { id = 0; offset = 0; place = record { addr = 0; generation = 0; level = 0 }; dirid = 0; refs = 0 } in
    let first = c.args.kept.now in
    let old = l.kept in
    record {
      ran = rw (stop_is c.from_residual.result c.from_residual.ensures.1)
          (ran_then {A = Unit {0}} {C = Unit {0}}
          (λ fs. AreSumRanges fs c.args.sums.now → AreKept fs first.sound.items → TreatsAll fs
          (take l.tree-index c.args.files.now) c.args.found.now l.found first.subvolumes old.subvolumes old.sound.items)
          (λ fs. AreSumRanges fs c.args.sums.now → AreKept fs old.sound.items → is_outside c.in_err-put_file_tree.field-0.0 ≡ true)
          (λ fs. AreSumRanges fs c.args.sums.now → AreKept fs first.sound.items → is_outside c.in_err-put_file_tree.field-0.0 ≡ true)
          (world (g.R.Rack.seen c.args.rack.now) c.args.vol.now) (world (g.R.Rack.seen l.rack) l.vol)
          (world (g.R.Rack.seen c.put_file_tree.new.rack) c.put_file_tree.new.vol) tt
          (Err c.in_err-put_file_tree.field-0.0) l.invariant.ran c.in_err-put_file_tree.ensures.ran
          (λ B p q same all. q same (p same all).kept)
          (λ B p want w. (get_or c.args.files.now l.tree-index none, Contains-get_or c.args.files.now l.tree-index none c.loop-tree-test.true, w)));
    }

pub returns : goal.returns
returns g c =
    let l = c.loop-tree in
    let first = c.args.kept.now in
    record {
      ran = ran_value {A = Unit {0}} {C = Unit {0}} (λ fs. AreSumRanges fs c.args.sums.now → AreKept fs first.sound.items → TreatsAll fs
          (take l.tree-index c.args.files.now) c.args.found.now l.found first.subvolumes l.kept.subvolumes l.kept.sound.items)
          (λ fs. AreSumRanges fs c.args.sums.now → AreKept fs first.sound.items → TreatsAll fs
          c.args.files.now c.args.found.now l.found first.subvolumes l.kept.subvolumes l.kept.sound.items)
          (world (g.R.Rack.seen c.args.rack.now) c.args.vol.now) (world (g.R.Rack.seen l.rack) l.vol) tt tt l.invariant.ran
          (λ B p same all.
          let before = p same all in
          record {
            treats = treats_all B c.args.vol.now.store.layout.chunks (sum_runs (filesystem c.args.vol.now B)) c.args.files.now l.tree-index
                c.args.found.now l.found first.subvolumes l.kept.subvolumes c.loop-tree-test.false before.treats;
            kept = before.kept;
          });
    }
