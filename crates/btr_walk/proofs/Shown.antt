-- What a lookup shows of the item that it found.
use Rattle.std.proofs.Common.{◌≡◌, ℕ, List, [], get_or, Option, Some, None, Result, Ok, Err, sym, ◌∙◌, subst}
use Rattle.btr_base.specs.declared.key.Key.{Key}
use Rattle.btr_node.specs.Block.{Item, items}
use Rattle.btr_prog.specs.Prog.{exec}
use Rattle.btr_prog.specs.Answers.{Follows, no_part}
use Rattle.btr_rack.specs.Rack.{Seen}
use Rattle.btr_read.specs.Serves.{Serves}
use Rattle.btr_read.specs.declared.want.Want.{Want}
use Rattle.btr_read.specs.Layout.{Layout}
use Rattle.btr_read.specs.Store.{Blocks, Lent, block_of}
use Rattle.btr_walk.specs.declared.place.RootPlace.{RootPlace}
use Rattle.btr_walk.specs.declared.fault.TreeFault.{TreeFault}
use Rattle.btr_walk.specs.declared.finding.Sighted.{Sighted}
use Rattle.btr_walk.specs.declared.found.Found.{Found}
use Rattle.btr_walk.specs.Le.{TreeItem, tree_item, le}
use Rattle.btr_walk.specs.Reading.{Map, UnreadBlock, Tells, answer_of}
use Rattle.btr_walk.specs.Finding.{ShowsFound, Finds, LendsItem, LendsItemAt}
use Rattle.btr_walk.specs.Showing.{item_of, FindsItem}
use Rattle.btr_walk.specs.Lending.{IsLentOnly}
use Rattle.btr_walk.proofs.Joined.{drawn, block_is}

module _ (Is : UnreadBlock → Want → Type 0) (root : RootPlace) (key : Key) (store : Blocks) (sighted : Sighted) (found : Found) (block : List ℕ)
    (is : block_of store sighted.loan ≡ Some block) (at : (d : Item) → tree_item sighted.leaf (get_or (items block) sighted.at d) ≡ item_of found) where
  -- an item at a place of the lent block is the one that the lookup's program answers
  shown_as : (B : Map) (shown : Result (Option TreeItem) TreeFault) → ShowsFound store (Ok (Some sighted)) shown
      → Follows {S = ⊥} Is no_part [] (exec B (le root key)) [] (answer_of shown) → FindsItem Is B root key (Ok (Some found))
  shown_as B (Ok (Some item)) s f =
      let d : Item = record { key = key; offset = 0; size = 0; body = [] } in
      let here : tree_item sighted.leaf (get_or (items block) sighted.at d) ≡ item =
      block_is store sighted.loan block (λ b. (e : Item) → tree_item sighted.leaf (get_or (items b) sighted.at e) ≡ item) is s d in
      let same : item ≡ item_of found = sym here ∙ at d in
      subst (λ (x : TreeItem). Follows {S = ⊥} Is no_part [] (exec B (le root key)) [] (Ok (Some x))) same f
  shown_as B (Ok None) s f = absurd s
  shown_as B (Err e) s f = absurd s

  -- a lookup that found the place of an item shows that item
  pub shown_is : (B : Map) → Finds Is B root key store (Ok (Some sighted)) → FindsItem Is B root key (Ok (Some found))
  shown_is B f = shown_as B f.0 f.1 f.2

  -- so far as the calls were steady, a lookup that found the place of an item shows that item
  pub shows_item : (layout : Layout) (a b : Seen) (o : Option Sighted) → o ≡ Some sighted → Tells layout a b (λ B. Finds Is B root key store (Ok o))
      → Tells layout a b (λ B. FindsItem Is B root key (Ok (Some found)))
  shows_item layout a b o e h =
      drawn layout (λ B. Finds Is B root key store (Ok (Some sighted))) (λ B. FindsItem Is B root key (Ok (Some found))) shown_is
      (subst (λ x. Tells layout a b (λ B. Finds Is B root key store (Ok x))) e h)

-- the loan of the leaf of the item is live, and but for it the loans are as they were
pub lent_only : (rack : Seen) (old new : Blocks) (sighted : Sighted) (o : Option Lent) → Serves rack new → LendsItemAt old new sighted.loan sighted.at → o
    ≡ Some sighted.loan → IsLentOnly rack old new o
lent_only rack old new sighted o serves t e = subst (IsLentOnly rack old new) (sym e) (record {
  same = t.others;
  live = t.live;
  serves = serves;
})

-- there is one loan that is kept
pub same_lent : (a b : Lent) (o : Option Lent) → o ≡ Some a → o ≡ Some b → a ≡ b
same_lent a b o e f = let g : Some a ≡ Some b = sym e ∙ f in cc

-- where an item was found, the loan of its leaf is new
pub lends_is : (old new : Blocks) (o : Option Sighted) (sighted : Sighted) → o ≡ Some sighted → LendsItem old new (Ok o)
    → LendsItemAt old new sighted.loan sighted.at
lends_is old new o sighted e h = subst (λ x. LendsItem old new (Ok x)) e h
