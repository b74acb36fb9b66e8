use Rattle.std.proofs.Common.{◌≡◌, ◌∙◌, ℕ, Bool, sym, ap, subst, fold, OnOk, Some}
use Rattle.btr_node.specs.Node.{node_of}
use Rattle.btr_node.specs.declared.node.Node.TheVariants.{Leaf}
use Rattle.btr_refs.specs.declared.forward.Origin.{Origin}
use Rattle.btr_refs.specs.Forward.{tally_with, node_uses}
use Rattle.btr_refs.proofs.forward.Forward.add_block.Goals as goal

abbrev origin : Bool → ℕ → ℕ → Origin
origin by_address addr owner = record { addr = addr; owner = owner; by_address = by_address }

pub returns-in-Ok-Leaf : goal.returns-in-Ok-Leaf
returns-in-Ok-Leaf c =
    let at : node_of c.args.block.now ≡ Some (Leaf c.in-Ok-Leaf.leaf) = sym c.in-Ok-Leaf.ensures.answer ∙ ap Some c.in-Ok-Leaf.field-0-is in
    subst (λ owner. OnOk c.add_items.result (c.add_items.new.forward
    ≡ fold tally_with c.args.self.now (node_uses (origin c.args.by_address c.args.addr owner) c.args.level (node_of c.args.block.now)))) c.u64_at.ensures
    (subst (λ node. OnOk c.add_items.result (c.add_items.new.forward
    ≡ fold tally_with c.args.self.now (node_uses (origin c.args.by_address c.args.addr c.u64_at.result) c.args.level node))) (sym at) c.add_items.ensures)
