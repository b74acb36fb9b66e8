use Rattle.std.proofs.Common.{length, sym, ◌∙◌, ap, arith}
use Rattle.btr_node.proofs.Leaves.{leaf_fits, length-items, key_seen}
use Rattle.btr_node.proofs.leaf.Leaf.key.Goals as goal

pub entry_key-requires-clause-fits : goal.entry_key-requires-clause-fits
entry_key-requires-clause-fits c =
    let block = c.self.inside.block.now in
    omega (arith, leaf_fits block c.self.invariant.0 c.self.invariant.1, length-items block, ap length c.self.view_is)

pub returns : goal.returns
returns c = λ d. (key_seen c.self.inside.block.now c.args.self.now c.self.view_is).at c.args.i d c.requires ∙ sym c.entry_key.ensures
