use Rattle.std.proofs.Common.{◌≡◌, ◌+◌, ◌<◌, ℕ, List, ◌∷◌, drop, drop-cons, get_or, length, sym, ap, ◌∙◌, subst, add-one, arith}
use Rattle.btr_node.specs.Block.{Item, items}
use Rattle.btr_node.specs.LeafItem.{item_of}
use Rattle.btr_node.proofs.items.ItemsIterator.next.Goals as goal

-- a list from a place on begins with the item there
from_place : (list : List Item) (i : ℕ) (item : Item) → i < length list → get_or list i item ≡ item → drop i list ≡ item ∷ drop (i + 1) list
from_place list i item within is =
    let cut : drop i list ≡ get_or list i item ∷ drop (i + 1) list = rw (add-one, drop-cons list i item) in
    cut ∙ ap (λ (first : Item). first ∷ drop (i + 1) list) is

pub returns-clause-steps : goal.returns-clause-steps
returns-clause-steps c =
    let list = items c.self.inside.block.now in
    let next = c.self.inside.next in
    let item = item_of c.item-item.result in
    let within : next < length list = omega (arith, c.self.invariant.2, c.if-self-count.false, c.count.ensures.all, ap length c.of-leaf.ensures) in
    sym c.self.view_is ∙ from_place list next item within (subst (λ (l : List Item). get_or l next item ≡ item) c.of-leaf.ensures (c.item-item.ensures item))
