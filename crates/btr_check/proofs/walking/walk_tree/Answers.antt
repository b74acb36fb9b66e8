use Rattle.std.proofs.Common.{[], ◌∷◌, ◌++◌, List, Ok, Option, ap}
use Rattle.std.specs.Bool.{⊤}
use Rattle.btr_volume.specs.declared.root.TreeRoot.{TreeRoot}
use Rattle.btr_walk.specs.Le.{root_pointer}
use Rattle.btr_check.specs.declared.subtrees.Edges.{Edges}
use Rattle.btr_check.specs.Passing.{Knows, Walks, subtree_marks}
use Rattle.btr_check.specs.Running.{world, filesystem}
use Rattle.btr_check.specs.Walking.{HasWalked}
use Rattle.btr_check.proofs.Runs.{ran_stop, ran_value, stop_is}
use Rattle.btr_check.proofs.Treading.{tree_walked}
use Rattle.btr_check.proofs.walking.walk_tree.Goals as goal

pub returns : goal.returns
returns g c =
    let x = world (g.R.Rack.seen c.args.rack.now) c.args.vol.now in
    let y = world (g.R.Rack.seen c.walk_block.new.rack) c.walk_block.new.vol in
    let tree = c.args.tree.now in
    let first = c.args.subtrees.now.known.entries in
    let known = c.begin-2.new.self.known.entries in
    let after = c.walk_block.new.subtrees.known.entries in
    record {
      outside = tt;
      ran = ran_value {C = Unit {0}}
          (λ fs. Walks fs (subtree_marks fs tree.place.level (root_pointer tree.place)) c.begin.new.self c.walk_block.new.walk known after
          (Ok c.in_ok-walk_block.field-0))
          (λ fs. (before : List TreeRoot) → HasWalked fs before c.args.walk.now → Knows fs c.args.walk.now first
          → HasWalked fs (before ++ tree ∷ []) c.walk_block.new.walk × Knows fs c.walk_block.new.walk after) x y c.in_ok-walk_block.field-0 tt
          c.in_ok-walk_block.ensures.ran
          (λ B walks before had knows. tree_walked (filesystem c.args.vol.now B) before tree c.args.walk.now c.begin.new.self c.walk_block.new.walk
          first known after c.in_ok-walk_block.field-0 c.begin.ensures (ap (λ m. m.entries) c.begin-2.ensures.known) had knows walks);
    }

pub returns-in_err-walk_block : goal.returns-in_err-walk_block
returns-in_err-walk_block g c =
    let x = world (g.R.Rack.seen c.args.rack.now) c.args.vol.now in
    let y = world (g.R.Rack.seen c.walk_block.new.rack) c.walk_block.new.vol in
    record {
      outside = rw (stop_is c.from_residual.result c.from_residual.ensures.1) c.in_err-walk_block.ensures.outside;
      ran = rw (stop_is c.from_residual.result c.from_residual.ensures.1)
          (ran_stop {A = Option Edges} {C = Unit {0}} (λ fs. ⊤)
          (λ fs. (before : List TreeRoot) → HasWalked fs before c.args.walk.now → Knows fs c.args.walk.now c.args.subtrees.now.known.entries → ⊤) x y
          c.in_err-walk_block.field-0.0
          c.in_err-walk_block.ensures.ran (λ B h before had knows. tt));
    }
