use Rattle.std.proofs.Common.{length, sym, ◌∙◌, ap, arith}
use Rattle.btr_node.proofs.Inners.{inner_fits, length-pointers, key_seen}
use Rattle.btr_node.proofs.inner.Inner.key.Goals as goal

pub entry_key-requires-clause-fits : goal.entry_key-requires-clause-fits
entry_key-requires-clause-fits c =
    let block = c.self.inside.block.now in
    omega (arith, inner_fits block c.self.invariant.1, length-pointers block, ap length c.self.view_is)

pub returns : goal.returns
returns c = λ d. (key_seen c.self.inside.block.now c.args.self.now c.self.view_is).at c.args.i d c.requires ∙ sym c.entry_key.ensures
