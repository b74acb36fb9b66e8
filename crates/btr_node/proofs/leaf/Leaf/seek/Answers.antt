use Rattle.std.proofs.Common.{◌<◌, ◌≤◌, length, ap, arith}
use Rattle.btr_base.specs.declared.key.Key.{Key}
use Rattle.btr_base.specs.Key.{key_number}
use Rattle.btr_node.specs.Block.{Item, entry_key}
use Rattle.btr_node.proofs.Leaves.{leaf_fits, leaf_ascends, length-items, key_seen}
use Rattle.btr_node.proofs.Places.{All_seen-take, All_seen-drop}
use Rattle.btr_node.proofs.leaf.Leaf.seek.Goals as goal

pub first_from-requires-clause-fits : goal.first_from-requires-clause-fits
first_from-requires-clause-fits c =
    let block = c.self.inside.block.now in
    omega (arith, leaf_fits block c.self.invariant.0 c.self.invariant.1, length-items block, ap length c.self.view_is)

pub first_from-requires-clause-ascending : goal.first_from-requires-clause-ascending
first_from-requires-clause-ascending c i j less within =
    let block = c.self.inside.block.now in
    leaf_ascends block c.self.invariant.1 i j less (omega (arith, length-items block, ap length c.self.view_is))

pub returns-clause-before : goal.returns-clause-before
returns-clause-before c =
    let block = c.self.inside.block.now in
    All_seen-take (λ (item : Item). item.key) (entry_key 25 block) c.args.self.now (λ (key : Key). key_number key < key_number c.args.key)
    c.first_from.result (key_seen block c.args.self.now c.self.view_is) c.first_from.ensures.before

pub returns-clause-behind : goal.returns-clause-behind
returns-clause-behind c =
    let block = c.self.inside.block.now in
    All_seen-drop (λ (item : Item). item.key) (entry_key 25 block) c.args.self.now (λ (key : Key). key_number c.args.key ≤ key_number key)
    c.first_from.result (key_seen block c.args.self.now c.self.view_is) (λ i behind within. c.first_from.ensures.behind i behind (omega arith))
