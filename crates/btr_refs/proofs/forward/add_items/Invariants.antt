use Rattle.std.proofs.Common.{◌≡◌, fold, flat_map}
use Rattle.btr_node.specs.Block.{Item}
use Rattle.btr_refs.specs.Forward.{tally_with, item_uses}
use Rattle.btr_refs.proofs.forward.add_items.Given as goal

-- those that are left, and what was counted, are all
abbrev pub invariant-loop-item : goal.invariant-loop-item
invariant-loop-item l = fold tally_with l.forward (flat_map (λ (item : Item). item_uses l.from item.key item.body) l.item-iterator)
    ≡ fold tally_with l.fn.forward (flat_map (λ (item : Item). item_uses l.from item.key item.body) l.leaf)
