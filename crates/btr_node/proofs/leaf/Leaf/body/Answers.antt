use Rattle.std.proofs.Common.{◌+◌, ◌-◌, ◌<◌, ◌≤◌, length, drop, ◌∙◌, ap, arith, length-take, length-drop}
use Rattle.btr_node.specs.Block.{Item, entry_count, item_at}
use Rattle.btr_node.proofs.Leaves.{leaf_fits, leaf_item_fits, length-items, item_seen, item_body}
use Rattle.btr_node.proofs.leaf.Leaf.body.Goals as goal

pub item_offset-requires : goal.item_offset-requires
item_offset-requires c =
    let block = c.self.inside.block.now in
    omega (arith, leaf_fits block c.self.invariant.0 c.self.invariant.1, length-items block, ap length c.self.view_is)

pub item_size-size-requires : goal.item_size-size-requires
item_size-size-requires c =
    let block = c.self.inside.block.now in
    omega (arith, leaf_fits block c.self.invariant.0 c.self.invariant.1, length-items block, ap length c.self.view_is)

pub slice_bounds-result-end : goal.slice_bounds-result-end
slice_bounds-result-end c =
    let block = c.self.inside.block.now in
    let within : c.args.i < entry_count block = omega (arith, length-items block, ap length c.self.view_is) in
    omega (arith, leaf_item_fits block c.self.invariant.0 c.self.invariant.1 c.args.i within)

pub returns-clause-bytes : goal.returns-clause-bytes
returns-clause-bytes c = λ d.
    let block = c.self.inside.block.now in
    ap (λ (item : Item). item.body) ((item_seen block c.args.self.now c.self.view_is).at c.args.i d c.requires)
    ∙ item_body block c.args.i c.item_offset.result c.item_size-size.result c.item_offset.ensures c.item_size-size.ensures

pub returns-clause-size : goal.returns-clause-size
returns-clause-size c = λ d.
    let block = c.self.inside.block.now in
    let within : c.args.i < entry_count block = omega (arith, length-items block, ap length c.self.view_is) in
    let fits : 101 + (item_at block c.args.i).offset + (item_at block c.args.i).size ≤ length block =
    leaf_item_fits block c.self.invariant.0 c.self.invariant.1 c.args.i within in
    let begin = 101 + c.item_offset.result in
    ap (λ (item : Item). item.size) ((item_seen block c.args.self.now c.self.view_is).at c.args.i d c.requires)
    ∙ omega (arith, length-take (begin + c.item_size-size.result - begin) (drop begin block), length-drop begin block)
