-- What a tour over some keys meets of what the whole tour meets.
use Rattle.std.proofs.Common.{◌≡◌, ◌∙◌, ℕ, zero, suc, ◌-◌, ◌<◌, ◌≤◌, Bool, true, false, cond, ◌&&◌, ltb, leb, List, [], ◌∷◌, ◌++◌, filter}
use Rattle.std.proofs.Common.{inl, inr, append-nil, not, flat_map, map, Option, Some, None, Result, Ok, Err, refl, sym, ap, subst, arith}
use Rattle.std.specs.List.{AllByRecursion, list_all}
use Rattle.std.specs.Option.{is_some}
use Rattle.std.proofs.lemmas.Bool.{and_parts, ltb-true, leb-true, le-leb, lt-ltb}
use Rattle.std.proofs.lemmas.List.Elements.{filter-append}
use Rattle.btr_base.specs.Key.{key_le, key_lt, key_number, last_key}
use Rattle.btr_base.specs.declared.key.Key.{Key}
use Rattle.btr_node.proofs.Leaves.{ascends-items}
use Rattle.btr_node.proofs.Inners.{ascends-pointers}
use Rattle.btr_node.specs.Block.{Item as NodeItem, KeyPointer, ascends, items, pointers}
use Rattle.btr_node.specs.declared.node.Node.{Node}
use Rattle.btr_node.specs.declared.node.Node.TheVariants.{Leaf, Inner}
use Rattle.btr_read.specs.Fate.{Fault}
use Rattle.btr_tour.specs.Tour.{Mark, begins_by, block_tour, child_pointers, child_tour, first_key, items_met, meets_keys, node_tour, tour_at}
use Rattle.btr_walk.proofs.Ways.{judged_is}
use Rattle.btr_walk.specs.declared.block_pointer.BlockPointer.{BlockPointer}
use Rattle.btr_walk.specs.Le.{TreeItem, below, tree_item, want_of}
use Rattle.btr_walk.specs.Range.{is_within, items_within}
use Rattle.btr_walk.specs.Reading.{Map}
use Rattle.btr_walk.specs.BlockPointer.{begins, is_below, item_keys, judged, keys_of, pointer_keys}
use Rattle.btr_check_differences.proofs.Chains.{Chain, UpTo, between, chain_from, chain_then, from_of, leaf_chain, none_above, none_below}
use Rattle.btr_check_differences.proofs.Differences.{items_all, judged_fits, some_node}
use Rattle.btr_check_differences.proofs.Nodes.{items_then}

-- what is below pointers is what their tours meet
kids : (lo hi : Key) (tour : BlockPointer → List Mark) (addr level : ℕ) (block_pointers : List BlockPointer)
    → items_met (flat_map (child_tour lo hi tour addr level) block_pointers) ≡ flat_map (λ pointer. items_met (tour pointer)) block_pointers
kids lo hi tour addr level [] = refl
kids lo hi tour addr level (pointer ∷ block_pointers) =
    items_then (tour pointer) (flat_map (child_tour lo hi tour addr level) block_pointers)
    ∙ ap (λ l. items_met (tour pointer) ++ l) (kids lo hi tour addr level block_pointers)

-- the keys of a good leaf ascend
leaf_ascends : (level : ℕ) (pointer : BlockPointer) (block : List ℕ) (xs : List NodeItem) → judged level pointer block ≡ Some (Leaf xs)
    → ascends (item_keys xs) ≡ true
leaf_ascends level pointer block xs is = elim (judged_is level pointer block (ap is_some is)) [
  | inl leaf ↦ ap (λ n. ascends (keys_of n)) (sym (some_node (Leaf (items block)) (Leaf xs) (sym leaf.is ∙ is))) ∙ ascends-items block leaf.good
  | inr inner ↦ absurd (let e : Some (Inner (pointers block)) ≡ Some (Leaf xs) = sym inner.is ∙ is in cc)
]

-- the keys of a good node that is no leaf ascend
inner_ascends : (level : ℕ) (pointer : BlockPointer) (block : List ℕ) (ps : List KeyPointer) → judged level pointer block ≡ Some (Inner ps)
    → ascends (pointer_keys ps) ≡ true
inner_ascends level pointer block ps is = elim (judged_is level pointer block (ap is_some is)) [
  | inl leaf ↦ absurd (let e : Some (Leaf (items block)) ≡ Some (Inner ps) = sym leaf.is ∙ is in cc)
  | inr inner ↦ ap (λ n. ascends (keys_of n)) (sym (some_node (Inner (pointers block)) (Inner ps) (sym inner.is ∙ is))) ∙ ascends-pointers block inner.good
]

-- a pointer ends behind its first key
abbrev pub Ends : BlockPointer → Type 0
Ends pointer = UpTo (from_of pointer.first) pointer.up

-- a key below a bound isn't above it
up_to : (up : Option Key) (key : Key) → is_below up key ≡ true → UpTo (key_number key) up
up_to None key e = tt
up_to (Some up) key e = let less : key_number key < key_number up = ltb-true _ _ e in omega (arith, less)

-- where the keys of a node ascend below a bound, each child's pointer ends behind its first key
pointers_end : (ps : List KeyPointer) (up : Option Key) → ascends (pointer_keys ps) ≡ true → list_all (is_below up) (pointer_keys ps) ≡ true
    → AllByRecursion Ends (child_pointers ps up)
pointers_end [] up asc under = tt
pointers_end (p ∷ []) up asc under = (up_to up p.key (and_parts (is_below up p.key) true under).0, tt)
pointers_end (p ∷ q ∷ ps) up asc under =
    let parts = and_parts (key_lt p.key q.key) (ascends (pointer_keys (q ∷ ps))) asc in
    let here = and_parts (is_below up p.key) (list_all (is_below up) (pointer_keys (q ∷ ps))) under in
    let less : key_number p.key < key_number q.key = ltb-true _ _ parts.0 in
    (omega (arith, less), pointers_end (q ∷ ps) up parts.1 here.1)

-- ---- the items of a tour are a chain

-- what is made of each pointer is in order, from its first key on up to its bound
abbrev IsChain : (BlockPointer → List TreeItem) → Type 0
IsChain f = (pointer : BlockPointer) → Ends pointer → Chain (from_of pointer.first) (f pointer) pointer.up

module _ (f : BlockPointer → List TreeItem) (are : IsChain f) (test : BlockPointer → Bool) where
  -- what is made of the last pointer, met or not, is in order up to the bound
  last_by : (p : KeyPointer) (up : Option Key) (b : Bool) → UpTo (key_number p.key) up
      → Chain (key_number p.key) (flat_map f (cond b (below p up ∷ []) [])) up
  last_by p up false h = h
  last_by p up true h = subst (λ l. Chain (key_number p.key) l up) (sym (append-nil (f (below p up)))) (are (below p up) h)

  -- with one pointer more in front, met or not, what is made of them is in order
  more_by : (p q : KeyPointer) (rest : List BlockPointer) (up : Option Key) (b : Bool) → key_number p.key < key_number q.key
      → Chain (key_number q.key) (flat_map f rest) up
      → Chain (key_number p.key) (flat_map f (cond b (below p (Some q.key) ∷ rest) rest)) up
  more_by p q rest up false less h = chain_from (key_number p.key) (key_number q.key) (flat_map f rest) up (omega (arith, less)) h
  more_by p q rest up true less h =
      chain_then (key_number p.key) (f (below p (Some q.key))) q.key (flat_map f rest) up (are (below p (Some q.key)) (omega (arith, less))) h

  -- what is made of the children of a node is in order, from its first key on up to the bound
  children_chain : (p : KeyPointer) (ps : List KeyPointer) (up : Option Key) → ascends (pointer_keys (p ∷ ps)) ≡ true
      → list_all (is_below up) (pointer_keys (p ∷ ps)) ≡ true → Chain (key_number p.key) (flat_map f (filter test (child_pointers (p ∷ ps) up))) up
  children_chain p [] up asc under = last_by p up (test (below p up)) (up_to up p.key (and_parts (is_below up p.key) true under).0)
  children_chain p (q ∷ ps) up asc under =
      let parts = and_parts (key_lt p.key q.key) (ascends (pointer_keys (q ∷ ps))) asc in
      let here = and_parts (is_below up p.key) (list_all (is_below up) (pointer_keys (q ∷ ps))) under in
      more_by p q (filter test (child_pointers (q ∷ ps) up)) up (test (below p (Some q.key))) (ltb-true _ _ parts.0) (children_chain q ps up parts.1 here.1)

-- where keys begin as a pointer says, the pointer's first key isn't above the first
begins_at : (first : Option Key) (key : Key) (keys : List Key) → begins first (key ∷ keys) ≡ true → from_of first ≤ key_number key
begins_at None key keys h = omega arith
begins_at (Some first) key keys h =
    not_above (key_number first) (key_number key) (and_parts (not (key_lt key first)) (not (key_lt first key)) h).0
  where
    not_above : (a b : ℕ) → not (ltb b a) ≡ true → a ≤ b
    not_above a b e = grind arith

module _ (tour : BlockPointer → List Mark) (are : IsChain (λ pointer. items_met (tour pointer))) (level : ℕ) (pointer : BlockPointer)
    (ends : Ends pointer) where
  -- the items met in a block at a pointer, good or not, are in order between the pointer's bounds
  node_chain : (block : List ℕ) (o : Option Node) → judged level pointer block ≡ o
      → Chain (from_of pointer.first) (items_met (node_tour first_key last_key tour level pointer block o)) pointer.up
  node_chain block None is = ends
  node_chain block (Some (Leaf [])) is = ends
  node_chain block (Some (Leaf (x ∷ xs))) is =
      let parts = and_parts (begins pointer.first (item_keys (x ∷ xs))) (list_all (is_below pointer.up) (item_keys (x ∷ xs)))
      (judged_fits level pointer block (Leaf (x ∷ xs)) is) in
      subst (λ l. Chain (from_of pointer.first) l pointer.up) (sym (items_all (items_within first_key last_key pointer.addr (x ∷ xs))))
      (leaf_chain first_key last_key pointer.addr (from_of pointer.first) x xs pointer.up (begins_at pointer.first x.key (item_keys xs) parts.0)
      (leaf_ascends level pointer block (x ∷ xs) is) parts.1)
  node_chain block (Some (Inner [])) is = ends
  node_chain block (Some (Inner (p ∷ ps))) is =
      let parts = and_parts (begins pointer.first (pointer_keys (p ∷ ps))) (list_all (is_below pointer.up) (pointer_keys (p ∷ ps)))
      (judged_fits level pointer block (Inner (p ∷ ps)) is) in
      let test = meets_keys first_key last_key in
      let block_pointers = filter test (child_pointers (p ∷ ps) pointer.up) in
      subst (λ l. Chain (from_of pointer.first) l pointer.up) (sym (kids first_key last_key tour pointer.addr (level - 1) block_pointers))
      (chain_from (from_of pointer.first) (key_number p.key) (flat_map (λ s. items_met (tour s)) block_pointers) pointer.up
      (begins_at pointer.first p.key (pointer_keys ps) parts.0)
      (children_chain (λ s. items_met (tour s)) are test p ps pointer.up (inner_ascends level pointer block (p ∷ ps) is) parts.1))

  -- the items met for what a read of a block came to are in order between the pointer's bounds
  block_chain : (r : Result (List ℕ) Fault) → Chain (from_of pointer.first) (items_met (block_tour first_key last_key tour level pointer r)) pointer.up
  block_chain (Err fault) = ends
  block_chain (Ok block) = node_chain block (judged level pointer block) refl

module _ (B : Map) where
  -- the items that the whole tour below a pointer meets are in order between its bounds
  pub tour_chain : (level : ℕ) → IsChain (λ pointer. items_met (tour_at first_key last_key B level pointer))
  tour_chain zero pointer ends = block_chain (λ child. []) (λ child h. h) 0 pointer ends (B (want_of 0 pointer))
  tour_chain (suc n) pointer ends = block_chain (tour_at first_key last_key B n) (tour_chain n) (suc n) pointer ends (B (want_of (suc n) pointer))

-- ---- and those of a tour over some keys are those between them

module _ (lo hi : Key) (top : key_number hi ≤ key_number last_key) where
  -- an item lies between the two keys
  abbrev here : TreeItem → Bool
  here = between lo hi

  -- what the keys of a pointer don't meet has none of them
  outside_first : (first up : Option Key) (xs : List TreeItem) → Chain (from_of first) xs up → begins_by lo hi first ≡ false → filter here xs ≡ []
  outside_first None up xs h e = cc
  outside_first (Some first) up xs h e = none_above lo hi (key_number first) xs up (not_le (key_number first) (key_number hi) e) h
    where
      not_le : (a b : ℕ) → leb a b ≡ false → b < a
      not_le a b e = grind arith

  outside_by : (first : Option Key) (up : Key) (xs : List TreeItem) (b : Bool) → key_lt lo up ≡ b → Chain (from_of first) xs (Some up)
      → (b && begins_by lo hi first) ≡ false → filter here xs ≡ []
  outside_by first up xs true less h e = outside_first first (Some up) xs h e
  outside_by first up xs false less h e = none_below lo hi (from_of first) xs up (not_lt (key_number lo) (key_number up) less) h
    where
      not_lt : (a b : ℕ) → ltb a b ≡ false → b ≤ a
      not_lt a b e = grind arith

  -- items in order between bounds that the two keys don't meet are none of those between these
  outside : (first up : Option Key) (xs : List TreeItem) → Chain (from_of first) xs up → (is_below up lo && begins_by lo hi first) ≡ false
      → filter here xs ≡ []
  outside first None xs h e = outside_first first None xs h e
  outside first (Some up) xs h e = outside_by first up xs (key_lt lo up) refl h e

  -- a bound above the lower key is above the first key of all
  wider_up : (up : Option Key) → is_below up lo ≡ true → is_below up first_key ≡ true
  wider_up None e = refl
  wider_up (Some up) e = let less : key_number lo < key_number up = ltb-true _ _ e in lt-ltb _ _ (omega (arith, less))

  -- what begins at the upper key or before it begins at the last key of all or before it
  wider_first : (first : Option Key) → begins_by lo hi first ≡ true → begins_by first_key last_key first ≡ true
  wider_first None e = refl
  wider_first (Some first) e = let le : key_number first ≤ key_number hi = leb-true _ _ e in le-leb _ _ (omega (arith, le, top))

  -- a pointer that meets the two keys is one that the whole tour meets
  wider : (pointer : BlockPointer) → meets_keys lo hi pointer ≡ true → meets_keys first_key last_key pointer ≡ true
  wider pointer e =
      let parts = and_parts (is_below pointer.up lo) (begins_by lo hi pointer.first) e in
      λ i. wider_up pointer.up parts.0 i && wider_first pointer.first parts.1 i

  module _ (f g : BlockPointer → List TreeItem) (are : IsChain g) (same : (pointer : BlockPointer) → Ends pointer → f pointer ≡ filter here (g pointer)) where
    -- one pointer more in front: what is met below it is what lies between the keys of what the whole tour meets
    pointer_by : (pointer : BlockPointer) (F G : List TreeItem) (m w : Bool) → meets_keys lo hi pointer ≡ m → meets_keys first_key last_key pointer ≡ w
        → Ends pointer
        → F ≡ filter here G → cond m (f pointer ++ F) F ≡ filter here (cond w (g pointer ++ G) G)
    pointer_by pointer F G true true e k ends rest = (λ i. same pointer ends i ++ rest i) ∙ sym (filter-append here (g pointer) G)
    pointer_by pointer F G true false e k ends rest = absurd (let h : true ≡ false = sym (wider pointer e) ∙ k in cc)
    pointer_by pointer F G false true e k ends rest =
        rest ∙ sym (ap (λ l. l ++ filter here G) (outside pointer.first pointer.up (g pointer) (are pointer ends) e)) ∙ sym (filter-append here (g pointer) G)
    pointer_by pointer F G false false e k ends rest = rest

    if_flat : (h : BlockPointer → List TreeItem) (pointer : BlockPointer) (block_pointers : List BlockPointer) (b : Bool)
        → flat_map h (cond b (pointer ∷ block_pointers) block_pointers) ≡ cond b (h pointer ++ flat_map h block_pointers) (flat_map h block_pointers)
    if_flat h pointer block_pointers true = refl
    if_flat h pointer block_pointers false = refl

    -- below pointers a tour meets what lies between the keys of what the whole tour meets
    pointers_within : (block_pointers : List BlockPointer) → AllByRecursion Ends block_pointers
        → flat_map f (filter (meets_keys lo hi) block_pointers) ≡ filter here (flat_map g (filter (meets_keys first_key last_key) block_pointers))
    pointers_within [] all = refl
    pointers_within (pointer ∷ block_pointers) all =
        let F = filter (meets_keys lo hi) block_pointers in
        let G = filter (meets_keys first_key last_key) block_pointers in
        if_flat f pointer F (meets_keys lo hi pointer)
        ∙ pointer_by pointer (flat_map f F) (flat_map g G) (meets_keys lo hi pointer) (meets_keys first_key last_key pointer) refl refl all.0
        (pointers_within block_pointers all.1)
        ∙ sym (ap (filter here) (if_flat g pointer G (meets_keys first_key last_key pointer)))

  item_by : (addr : ℕ) (x : NodeItem) (F G : List TreeItem) (m w : Bool) → is_within lo hi x ≡ m → is_within first_key last_key x ≡ w
      → F ≡ filter here G → cond m (tree_item addr x ∷ F) F ≡ filter here (cond w (tree_item addr x ∷ G) G)
  item_by addr x F G m true e k rest =
      ap (λ b. cond b (tree_item addr x ∷ F) F) (sym e) ∙ ap (λ l. cond (is_within lo hi x) (tree_item addr x ∷ l) l) rest
  item_by addr x F G true false e k rest =
      let parts = and_parts (key_le lo x.key) (key_le x.key hi) e in
      let le : key_number x.key ≤ key_number hi = leb-true _ _ parts.1 in
      let yes : key_le x.key last_key ≡ true = le-leb _ _ (omega (arith, le, top)) in
      let low : key_le first_key x.key ≡ true = le-leb _ _ (omega arith) in
      absurd (let h : true ≡ false = (λ i. sym low i && sym yes i) ∙ k in cc)
  item_by addr x F G false false e k rest = rest

  if_map : (addr : ℕ) (x : NodeItem) (xs : List NodeItem) (b : Bool)
      → map (tree_item addr) (cond b (x ∷ xs) xs) ≡ cond b (tree_item addr x ∷ map (tree_item addr) xs) (map (tree_item addr) xs)
  if_map addr x xs true = refl
  if_map addr x xs false = refl

  -- the items of a leaf between the two keys are those between them of all its items
  list_within : (addr : ℕ) (xs : List NodeItem) → items_within lo hi addr xs ≡ filter here (items_within first_key last_key addr xs)
  list_within addr [] = refl
  list_within addr (x ∷ xs) =
      if_map addr x (filter (is_within lo hi) xs) (is_within lo hi x)
      ∙ item_by addr x (items_within lo hi addr xs) (items_within first_key last_key addr xs) (is_within lo hi x) (is_within first_key last_key x) refl refl
      (list_within addr xs)
      ∙ sym (ap (filter here) (if_map addr x (filter (is_within first_key last_key) xs) (is_within first_key last_key x)))

  -- a tour meets of each pointer what lies between the keys
  abbrev IsWithin : (BlockPointer → List Mark) → (BlockPointer → List Mark) → Type 0
  IsWithin tour other = (pointer : BlockPointer) → Ends pointer → items_met (tour pointer) ≡ filter here (items_met (other pointer))

  module _ (tour other : BlockPointer → List Mark) (are : IsChain (λ pointer. items_met (other pointer))) (same : IsWithin tour other) (level : ℕ)
      (pointer : BlockPointer) where
    -- in a block, good or not, a tour meets those of the whole tour's items that lie between the keys
    node_within : (block : List ℕ) (o : Option Node) → judged level pointer block ≡ o
        → items_met (node_tour lo hi tour level pointer block o) ≡ filter here (items_met (node_tour first_key last_key other level pointer block o))
    node_within block None is = refl
    node_within block (Some (Leaf xs)) is =
        items_all (items_within lo hi pointer.addr xs) ∙ list_within pointer.addr xs
        ∙ sym (ap (filter here) (items_all (items_within first_key last_key pointer.addr xs)))
    node_within block (Some (Inner ps)) is =
        let under = (and_parts (begins pointer.first (pointer_keys ps)) (list_all (is_below pointer.up) (pointer_keys ps))
        (judged_fits level pointer block (Inner ps) is)).1 in
        let block_pointers = child_pointers ps pointer.up in
        kids lo hi tour pointer.addr (level - 1) (filter (meets_keys lo hi) block_pointers)
        ∙ pointers_within (λ s. items_met (tour s)) (λ s. items_met (other s)) are same block_pointers
        (pointers_end ps pointer.up (inner_ascends level pointer block ps is) under)
        ∙ sym (ap (filter here) (kids first_key last_key other pointer.addr (level - 1) (filter (meets_keys first_key last_key) block_pointers)))

    -- whatever a read of a block came to, a tour meets those of the whole tour's items that lie between the keys
    block_within : (r : Result (List ℕ) Fault)
        → items_met (block_tour lo hi tour level pointer r) ≡ filter here (items_met (block_tour first_key last_key other level pointer r))
    block_within (Err fault) = refl
    block_within (Ok block) = node_within block (judged level pointer block) refl

  -- below a pointer a tour meets those of the whole tour's items that lie between the keys
  pub tour_within : (B : Map) (level : ℕ) (pointer : BlockPointer) → Ends pointer
      → items_met (tour_at lo hi B level pointer) ≡ filter here (items_met (tour_at first_key last_key B level pointer))
  tour_within B zero pointer ends = block_within (λ child. []) (λ child. []) (λ child h. h) (λ child h. refl) 0 pointer (B (want_of 0 pointer))
  tour_within B (suc n) pointer ends =
      block_within (tour_at lo hi B n) (tour_at first_key last_key B n) (tour_chain B n) (tour_within B n) (suc n) pointer (B (want_of (suc n) pointer))
