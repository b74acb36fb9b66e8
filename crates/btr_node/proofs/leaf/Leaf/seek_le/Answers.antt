use Rattle.std.proofs.Common.{◌+◌, ◌<◌, ◌≤◌, length, ap, arith}
use Rattle.std.proofs.lemmas.Option.{IfSome_then}
use Rattle.btr_base.specs.declared.key.Key.{Key}
use Rattle.btr_base.specs.Key.{key_number}
use Rattle.btr_node.specs.Block.{Item, entry_key}
use Rattle.btr_node.proofs.Leaves.{leaf_fits, leaf_ascends, length-items, key_seen}
use Rattle.btr_node.proofs.Places.{IfNone_then, All_seen, All_seen-take, All_seen-drop}
use Rattle.btr_node.proofs.leaf.Leaf.seek_le.Goals as goal

pub last_up_to-requires-clause-fits : goal.last_up_to-requires-clause-fits
last_up_to-requires-clause-fits c =
    let block = c.self.inside.block.now in
    omega (arith, leaf_fits block c.self.invariant.0 c.self.invariant.1, length-items block, ap length c.self.view_is)

pub last_up_to-requires-clause-ascending : goal.last_up_to-requires-clause-ascending
last_up_to-requires-clause-ascending c i j less within =
    let block = c.self.inside.block.now in
    leaf_ascends block c.self.invariant.1 i j less (omega (arith, length-items block, ap length c.self.view_is))

pub returns-clause-none : goal.returns-clause-none
returns-clause-none c =
    let block = c.self.inside.block.now in
    IfNone_then c.last_up_to.result c.last_up_to.ensures.none
    (λ above. All_seen (λ (item : Item). item.key) (entry_key 25 block) c.args.self.now (λ (key : Key). key_number c.args.key < key_number key)
    (key_seen block c.args.self.now c.self.view_is) (λ i within. above i (omega arith)))

pub returns-clause-before : goal.returns-clause-before
returns-clause-before c =
    let block = c.self.inside.block.now in
    IfSome_then c.last_up_to.result c.last_up_to.ensures.before
    (λ last upto. All_seen-take (λ (item : Item). item.key) (entry_key 25 block) c.args.self.now
    (λ (key : Key). key_number key ≤ key_number c.args.key) (last + 1) (key_seen block c.args.self.now c.self.view_is) (λ i below. upto i (omega arith)))

pub returns-clause-behind : goal.returns-clause-behind
returns-clause-behind c =
    let block = c.self.inside.block.now in
    IfSome_then c.last_up_to.result c.last_up_to.ensures.behind
    (λ last above. All_seen-drop (λ (item : Item). item.key) (entry_key 25 block) c.args.self.now
    (λ (key : Key). key_number c.args.key < key_number key) (last + 1) (key_seen block c.args.self.now c.self.view_is)
    (λ i behind within. above i (omega arith) (omega arith)))
