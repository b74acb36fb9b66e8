use Rattle.std.proofs.Common.{sym, ◌∙◌, ap, List, map, length, arith}
use Rattle.btr_node.specs.Block.{KeyPointer, ascends}
use Rattle.btr_node.proofs.Inners.{length-pointers, inner_some, ascends-pointers}
use Rattle.btr_node.proofs.inner.Inner.count.Goals as goal

pub returns-clause-all : goal.returns-clause-all
returns-clause-all c = c.entry_count.ensures.count ∙ sym (length-pointers c.self.inside.block.now) ∙ ap length c.self.view_is

pub returns-clause-ascending : goal.returns-clause-ascending
returns-clause-ascending c = ap (λ (list : List KeyPointer). ascends (map (λ pointer. pointer.key) list)) (sym c.self.view_is)
    ∙ ascends-pointers c.self.inside.block.now c.self.invariant.1

pub returns-clause-some : goal.returns-clause-some
returns-clause-some c = omega (arith, inner_some c.self.inside.block.now c.self.invariant.1)
