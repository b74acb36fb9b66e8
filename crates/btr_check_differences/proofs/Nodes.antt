-- The children of a node, and what stands below them.
use Rattle.std.proofs.Common.{◌≡◌, ◌∙◌, ℕ, zero, suc, ◌+◌, ◌-◌, ◌<◌, ◌≤◌, List, [], ◌∷◌, ◌++◌, length, take, take_all, get_or, drop, filter, flat_map, Option}
use Rattle.std.proofs.Common.{Some, Ok, append_assoc, append-nil, refl, sym, ap, arith}
use Rattle.std.proofs.lemmas.List.{take_more}
use Rattle.std.proofs.lemmas.List.Elements.{filter-append}
use Rattle.btr_base.specs.Key.{last_key}
use Rattle.btr_base.specs.declared.key.Key.{Key}
use Rattle.btr_node.specs.Block.{KeyPointer, pointers}
use Rattle.btr_node.specs.declared.node.Node.TheVariants.{Inner}
use Rattle.btr_tour.proofs.Seeking.{length-block_pointers, some_pointer, some_block_pointer, child_pointer_at}
use Rattle.btr_tour.specs.Tour.{Mark, Block, Child, Item, Left, first_key, child_pointers, child_tour, meets_keys, node_tour, block_tour, tour_at, items_met}
use Rattle.btr_walk.specs.declared.block_pointer.BlockPointer.{BlockPointer}
use Rattle.btr_walk.specs.Le.{TreeItem, below, up_of, want_of}
use Rattle.btr_walk.specs.Reading.{Map}
use Rattle.btr_walk.specs.BlockPointer.{judged}
use Rattle.btr_check_differences.specs.Differing.{items_at, items_below}

-- one child more
pub child_more : (ps : List KeyPointer) (up : Option Key) (i : ℕ) (pointer : BlockPointer) (first old new : List BlockPointer) → i < length ps
    → ((d : KeyPointer) → pointer ≡ below (get_or ps i d) (up_of (drop (i + 1) ps) up))
    → old ≡ first ++ filter (meets_keys first_key last_key) (take i (child_pointers ps up)) → new ≡ old ++ filter (meets_keys first_key last_key) (pointer ∷ [])
    → new ≡ first ++ filter (meets_keys first_key last_key) (take (i + 1) (child_pointers ps up))
child_more ps up i pointer first old new lt at had is =
    let test = meets_keys first_key last_key in
    let all = child_pointers ps up in
    let same : pointer ≡ get_or all i some_block_pointer = at some_pointer ∙ sym (child_pointer_at ps up i some_pointer some_block_pointer lt) in
    let more : filter test (take (i + 1) all) ≡ filter test (take i all) ++ filter test (pointer ∷ []) =
    ap (filter test) (take_more all i some_block_pointer (omega (arith, lt, length-block_pointers ps up)))
    ∙ filter-append test (take i all) (get_or all i some_block_pointer ∷ [])
    ∙ ap (λ s. filter test (take i all) ++ filter test (s ∷ [])) (sym same) in
    is ∙ ap (λ l. l ++ filter test (pointer ∷ [])) had ∙ append_assoc first (filter test (take i all)) (filter test (pointer ∷ []))
    ∙ ap (λ l. first ++ l) (sym more)

-- all of them
pub children_all : (ps : List KeyPointer) (up : Option Key) (i : ℕ) → length ps ≤ i
    → filter (meets_keys first_key last_key) (take i (child_pointers ps up)) ≡ filter (meets_keys first_key last_key) (child_pointers ps up)
children_all ps up i all = ap (filter (meets_keys first_key last_key)) (take_all i (child_pointers ps up) (omega (arith, length-block_pointers ps up, all)))

-- the items that two tours meet, one after the other, are those of each
pub items_then : (xs ys : List Mark) → items_met (xs ++ ys) ≡ items_met xs ++ items_met ys
items_then [] ys = refl
items_then (Block place block ∷ xs) ys = items_then xs ys
items_then (Child addr place ∷ xs) ys = items_then xs ys
items_then (Item item ∷ xs) ys = ap (λ l. item ∷ l) (items_then xs ys)
items_then (Left fault ∷ xs) ys = items_then xs ys

-- what stands below blocks, one list behind another
pub below_then : (B : Map) (level : ℕ) (xs ys : List BlockPointer) → items_below B level (xs ++ ys) ≡ items_below B level xs ++ items_below B level ys
below_then B level [] ys = refl
below_then B level (x ∷ xs) ys =
    ap (λ l. items_at B level x ++ l) (below_then B level xs ys) ∙ sym (append_assoc (items_at B level x) (items_below B level xs) (items_below B level ys))

module _ (B : Map) (pointer : BlockPointer) where
  -- what the tours of children meet is what stands below them
  below_children : (n addr level : ℕ) (block_pointers : List BlockPointer)
      → items_met (flat_map (child_tour first_key last_key (tour_at first_key last_key B n) addr level) block_pointers) ≡ items_below B n block_pointers
  below_children n addr level [] = refl
  below_children n addr level (s ∷ block_pointers) =
      items_then (tour_at first_key last_key B n s) (flat_map (child_tour first_key last_key (tour_at first_key last_key B n) addr level) block_pointers)
      ∙ ap (λ l. items_at B n s ++ l) (below_children n addr level block_pointers)

  -- below a node stands what stands below its children
  pub node_items : (level : ℕ) (block : List ℕ) → (level ≡ 0 → ⊥) → B (want_of level pointer) ≡ Ok block
      → judged level pointer block ≡ Some (Inner (pointers block))
      → items_at B level pointer ≡ items_below B (level - 1) (filter (meets_keys first_key last_key) (child_pointers (pointers block) pointer.up))
  node_items zero block high came good = absurd (high refl)
  node_items (suc n) block high came good =
      let same : n ≡ suc n - 1 = omega arith in
      let block_pointers = filter (meets_keys first_key last_key) (child_pointers (pointers block) pointer.up) in
      ap (λ r. items_met (block_tour first_key last_key (tour_at first_key last_key B n) (suc n) pointer r)) came
      ∙ ap (λ o. items_met (node_tour first_key last_key (tour_at first_key last_key B n) (suc n) pointer block o)) good
      ∙ below_children n pointer.addr (suc n - 1) block_pointers ∙ ap (λ m. items_below B m block_pointers) same

  -- the children of one more node
  pub node_more : (level : ℕ) (block : List ℕ) (old new : List BlockPointer) → (level ≡ 0 → ⊥) → B (want_of level pointer) ≡ Ok block
      → judged level pointer block ≡ Some (Inner (pointers block))
      → new ≡ old ++ filter (meets_keys first_key last_key) (child_pointers (pointers block) pointer.up)
      → items_below B (level - 1) new ≡ items_below B (level - 1) old ++ items_at B level pointer
  node_more level block old new high came good is =
      let block_pointers = filter (meets_keys first_key last_key) (child_pointers (pointers block) pointer.up) in
      ap (items_below B (level - 1)) is ∙ below_then B (level - 1) old block_pointers
      ∙ ap (λ l. items_below B (level - 1) old ++ l) (sym (node_items level block high came good))

-- the children of some nodes, one more
pub nodes_more : (B : Map) (level : ℕ) (block_pointers : List BlockPointer) (i : ℕ) (d : BlockPointer) (old new : List TreeItem) → i < length block_pointers
    → old ≡ items_below B level (take i block_pointers) → new ≡ old ++ items_at B level (get_or block_pointers i d) → new
    ≡ items_below B level (take (i + 1) block_pointers)
nodes_more B level block_pointers i d old new lt had is =
    let pointer = get_or block_pointers i d in
    is ∙ ap (λ l. l ++ items_at B level pointer) had ∙ ap (λ l. items_below B level (take i block_pointers) ++ l) (sym (append-nil (items_at B level pointer)))
    ∙ sym (below_then B level (take i block_pointers) (pointer ∷ [])) ∙ ap (items_below B level) (sym (take_more block_pointers i d lt))
