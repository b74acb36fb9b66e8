use Rattle.std.proofs.Common.{length, sym, ◌∙◌, ap, arith}
use Rattle.btr_node.specs.Block.{KeyPointer}
use Rattle.btr_node.proofs.Inners.{inner_fits, length-pointers, pointer_seen}
use Rattle.btr_node.proofs.inner.Inner.child.Goals as goal

pub pointer_at-requires : goal.pointer_at-requires
pointer_at-requires c =
    let block = c.self.inside.block.now in
    omega (arith, inner_fits block c.self.invariant.1, length-pointers block, ap length c.self.view_is)

pub returns-clause-addr : goal.returns-clause-addr
returns-clause-addr c = λ d. ap (λ (pointer : KeyPointer). pointer.addr)
    ((pointer_seen c.self.inside.block.now c.args.self.now c.self.view_is).at c.args.i d c.requires) ∙ sym c.pointer_at.ensures.addr

pub returns-clause-generation : goal.returns-clause-generation
returns-clause-generation c = λ d. ap (λ (pointer : KeyPointer). pointer.generation)
    ((pointer_seen c.self.inside.block.now c.args.self.now c.self.view_is).at c.args.i d c.requires) ∙ sym c.pointer_at.ensures.generation
