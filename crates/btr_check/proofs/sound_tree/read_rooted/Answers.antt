use Rattle.std.proofs.Common.{◌≡◌, true, refl, sym, subst}
use Rattle.std.specs.Bool.{⊤}
use Rattle.btr_walk.specs.Le.{root_pointer}
use Rattle.btr_check.specs.Passing.{Opens}
use Rattle.btr_check.specs.Running.{world, filesystem, is_outside}
use Rattle.btr_check.specs.SoundTrees.{AreBelow}
use Rattle.btr_check.specs.declared.opening.Opened.{Opened}
use Rattle.btr_check.specs.declared.sound_tree.RootedTree.{RootedTree}
use Rattle.btr_check.proofs.Openings.{AreChildren}
use Rattle.btr_check.proofs.Runs.{ran_stop_within, ran_value, stop_is}
use Rattle.btr_check.proofs.Wanting.{here_wanted}
use Rattle.btr_check.proofs.SoundTrees.{opens_below}
use Rattle.btr_check.proofs.sound_tree.read_rooted.Goals as goal

pub returns-in_err-open_block-clause-ran : goal.returns-in_err-open_block-clause-ran
returns-in_err-open_block-clause-ran g c =
    rw (stop_is c.from_residual.result c.from_residual.ensures.1)
    (ran_stop_within {A = Opened} {C = RootedTree} (λ fs. ⊤) (λ fs. is_outside c.in_err-open_block.field-0.0 ≡ true)
    (world (g.R.Rack.seen c.args.rack.now) c.args.vol.now)
    (world (g.R.Rack.seen c.open_block.new.rack) c.open_block.new.vol) c.in_err-open_block.field-0.0 c.in_err-open_block.ensures.ran
    (λ B h. c.in_err-open_block.ensures.outside)
    (λ B want w. here_wanted (filesystem c.args.vol.now B) c.args.tree.now.place.level (root_pointer c.args.tree.now.place) want w))

pub returns-clause-ran : goal.returns-clause-ran
returns-clause-ran g c =
    let tree = c.args.tree.now in
    let opened = c.in_ok-open_block.field-0 in
    let children = c.in-Children.children in
    let old = c.new-walk.result in
    let new = c.open_block.new.walk in
    let rooted : RootedTree = record { tree = tree; children = children } in
    let are : AreChildren opened children.items = subst (λ o. AreChildren o children.items) (sym c.in-Children.is) refl in
    ran_value {A = Opened} {C = RootedTree} (λ fs. Opens fs tree.place.level (root_pointer tree.place) old new opened) (λ fs. AreBelow fs tree children.items)
    (world (g.R.Rack.seen c.args.rack.now) c.args.vol.now) (world (g.R.Rack.seen c.open_block.new.rack) c.open_block.new.vol) opened rooted
    c.in_ok-open_block.ensures.ran
    (λ B h. opens_below (filesystem c.args.vol.now B) tree old new opened children.items h are)
