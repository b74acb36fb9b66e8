use Rattle.std.proofs.Common.{[], ◌∷◌, ◌++◌, ◌+◌, List, Err, take, get_or}
use Rattle.std.proofs.lemmas.List.Elements.{Contains-get_or}
use Rattle.std.specs.Bool.{⊤}
use Rattle.btr_volume.specs.declared.root.TreeRoot.{TreeRoot}
use Rattle.btr_check.specs.Passing.{Knows}
use Rattle.btr_check.specs.Running.{world, filesystem}
use Rattle.btr_check.specs.Walking.{HasWalked}
use Rattle.btr_check.proofs.Runs.{ran_both, ran_none, ran_then, stop_is}
use Rattle.btr_check.proofs.Treading.{walked_next}
use Rattle.btr_check.proofs.walking.walk_more.Goals as goal

pub loop-tree-init : goal.loop-tree-init
loop-tree-init g c =
    let known = c.args.subtrees.now.known.entries in
    record {
      ran = ran_none (λ fs. HasWalked fs [] c.args.walk.now → Knows fs c.args.walk.now known → HasWalked fs [] c.args.walk.now × Knows fs c.args.walk.now known)
          (world (g.R.Rack.seen c.args.rack.now) c.args.vol.now) tt c.requires.ready (λ B h k. (h, k));
    }

pub loop-tree-preserved : goal.loop-tree-preserved
loop-tree-preserved g c =
    let l = c.loop-tree in
    let x = world (g.R.Rack.seen c.args.rack.now) c.args.vol.now in
    let y = world (g.R.Rack.seen l.rack) l.vol in
    let z = world (g.R.Rack.seen c.walk_tree.new.rack) c.walk_tree.new.vol in
    let none : TreeRoot = record { id = 0; offset = 0; place = record { addr = 0; generation = 0; level = 0 }; dirid = 0; refs = 0 } in
    let first = c.args.subtrees.now.known.entries in
    let known = l.subtrees.known.entries in
    let after = c.walk_tree.new.subtrees.known.entries in
    record {
      ran = ran_both {A = Unit {0}} {C = Unit {0}}
          (λ fs. HasWalked fs [] c.args.walk.now → Knows fs c.args.walk.now first → HasWalked fs (take l.tree-index c.args.trees.now) l.walk
          × Knows fs l.walk known)
          (λ fs. (before : List TreeRoot) → HasWalked fs before l.walk → Knows fs l.walk known
          → HasWalked fs (before ++ get_or c.args.trees.now l.tree-index none ∷ []) c.walk_tree.new.walk × Knows fs c.walk_tree.new.walk after)
          (λ fs. HasWalked fs [] c.args.walk.now → Knows fs c.args.walk.now first
          → HasWalked fs (take (l.tree-index + 1) c.args.trees.now) c.walk_tree.new.walk × Knows fs c.walk_tree.new.walk after) x y z tt
          tt l.invariant.ran c.in_ok-walk_tree.ensures.ran
          (λ B p q had knows.
          let both = p had knows in
          let more = q (take l.tree-index c.args.trees.now) both.0 both.1 in
          (walked_next (filesystem c.args.vol.now B) c.args.trees.now l.tree-index none c.walk_tree.new.walk c.loop-tree-test.true more.0, more.1));
    }

pub returns-in_err-walk_tree-clause-ran : goal.returns-in_err-walk_tree-clause-ran
returns-in_err-walk_tree-clause-ran g c =
    let l = c.loop-tree in
    let none : TreeRoot = record { id = 0; offset = 0; place = record { addr = 0; generation = 0; level = 0 }; dirid = 0; refs = 0 } in
    let first = c.args.subtrees.now.known.entries in
    rw (stop_is c.from_residual.result c.from_residual.ensures.1)
    (ran_then {A = Unit {0}} {C = Unit {0}}
    (λ fs. HasWalked fs [] c.args.walk.now → Knows fs c.args.walk.now first → HasWalked fs (take l.tree-index c.args.trees.now) l.walk
    × Knows fs l.walk l.subtrees.known.entries)
    (λ fs. (before : List TreeRoot) → HasWalked fs before l.walk → Knows fs l.walk l.subtrees.known.entries → ⊤)
    (λ fs. HasWalked fs [] c.args.walk.now → Knows fs c.args.walk.now first → ⊤)
    (world (g.R.Rack.seen c.args.rack.now) c.args.vol.now) (world (g.R.Rack.seen l.rack) l.vol)
    (world (g.R.Rack.seen c.walk_tree.new.rack) c.walk_tree.new.vol) tt (Err c.in_err-walk_tree.field-0.0) l.invariant.ran c.in_err-walk_tree.ensures.ran
    (λ B p q had knows. tt)
    (λ B p want w. (get_or c.args.trees.now l.tree-index none, Contains-get_or c.args.trees.now l.tree-index none c.loop-tree-test.true, w)))
