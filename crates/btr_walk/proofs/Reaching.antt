-- How far the way to an item is the same for greater keys.
use Rattle.std.proofs.Common.{◌≡◌, ℕ, zero, suc, ◌+◌, ◌-◌, ◌<◌, ◌≤◌, Bool, true, false, cond, eqb, List, [], ◌∷◌, map, length, get_or, drop, All, Option, Some}
use Rattle.std.proofs.Common.{None, Ok, refl, sym, ap, ◌∙◌, subst, arith}
use Rattle.std.specs.List.{list_all}
use Rattle.std.specs.Option.{option_map}
use Rattle.std.proofs.lemmas.Bool.{and_parts, ltb-true, lt-ltb, leb-true, le-leb}
use Rattle.std.proofs.lemmas.List.Elements.{All-cons, All-nil}
use Rattle.btr_base.specs.declared.key.Key.{Key}
use Rattle.btr_base.specs.Key.{key_number, key_lt, key_le}
use Rattle.btr_node.specs.Block.{Item, KeyPointer, ascends, items, pointers, level_of}
use Rattle.btr_node.specs.Node.{node_of}
use Rattle.btr_node.specs.declared.node.Node.{Node}
use Rattle.btr_node.specs.declared.node.Node.TheVariants.{Leaf, Inner}
use Rattle.btr_node.proofs.Leaves.{ascends-items}
use Rattle.btr_node.proofs.Inners.{ascends-pointers}
use Rattle.btr_prog.specs.Prog.{Wants, Return, prepend, exec}
use Rattle.btr_walk.specs.declared.place.RootPlace.{RootPlace}
use Rattle.btr_walk.specs.declared.block_pointer.BlockPointer.{BlockPointer}
use Rattle.btr_walk.specs.Le.{tree_item, below, up_of, or_here, le_item, le_child, want_of, root_pointer}
use Rattle.btr_walk.specs.Reach.{next_key, SameUpTo}
use Rattle.btr_walk.specs.Reading.{Map}
use Rattle.btr_walk.specs.BlockPointer.{begins, is_below, fits, fitting, keys_of, judged}
use Rattle.btr_walk.proofs.Les.{none_child, none_item, some_le}
use Rattle.btr_walk.proofs.Ways.{IsLeafAt, IsInnerAt, at, at_leaf, down_at, nothing_at}

-- ---- lists of entries whose keys ascend

module _ {X : Type 0} (key_of : X → Key) where
  -- all entries stand above what the first stands above
  pub all_above : (other : Key) (x : X) (xs : List X) → ascends (map key_of (x ∷ xs)) ≡ true → key_number other < key_number (key_of x)
      → All (λ y. key_number other < key_number (key_of y)) (x ∷ xs)
  all_above other x [] up lt = All-cons (λ y. key_number other < key_number (key_of y)) x [] lt (All-nil (λ y. key_number other < key_number (key_of y)))
  all_above other x (y ∷ ys) up lt =
      let parts = and_parts (key_lt (key_of x) (key_of y)) (ascends (map key_of (y ∷ ys))) up in
      let step : key_number (key_of x) < key_number (key_of y) = ltb-true _ _ parts.0 in
      All-cons (λ z. key_number other < key_number (key_of z)) x (y ∷ ys) lt (all_above other y ys parts.1 (omega (arith, lt, step)))

  -- keys that ascend do so behind the first one
  ascends_behind : (x : X) (xs : List X) → ascends (map key_of (x ∷ xs)) ≡ true → ascends (map key_of xs) ≡ true
  ascends_behind x [] up = refl
  ascends_behind x (y ∷ ys) up = (and_parts (key_lt (key_of x) (key_of y)) (ascends (map key_of (y ∷ ys))) up).1

  -- keys that ascend do so from any place on
  ascends_from : (n : ℕ) (xs : List X) → ascends (map key_of xs) ≡ true → ascends (map key_of (drop n xs)) ≡ true
  ascends_from zero xs up = up
  ascends_from (suc n) [] up = up
  ascends_from (suc n) (x ∷ xs) up = ascends_from n xs (ascends_behind x xs up)

  -- keys that are below a bound are so from any place on
  below_from : (up : Option Key) (n : ℕ) (xs : List X) → list_all (is_below up) (map key_of xs) ≡ true → list_all (is_below up) (map key_of (drop n xs)) ≡ true
  below_from up zero xs all = all
  below_from up (suc n) [] all = all
  below_from up (suc n) (x ∷ xs) all = below_from up n xs (and_parts (is_below up (key_of x)) (list_all (is_below up) (map key_of xs)) all).1

-- a key below one that is below a bound
pub below_less : (up : Option Key) (a b : Key) → key_lt a b ≡ true → is_below up b ≡ true → is_below up a ≡ true
below_less None a b less e = refl
below_less (Some up) a b less e =
    let first : key_number a < key_number b = ltb-true _ _ less in
    let second : key_number b < key_number up = ltb-true _ _ e in
    lt-ltb _ _ (omega (arith, first, second))

-- what a judged block holds fits its pointer
pub fits_of : (pointer : BlockPointer) (node : Node) (b : Bool) (o : Option Node) → cond b (fitting pointer o) None ≡ Some node → fits pointer (keys_of node)
    ≡ true
fits_of pointer node true None e = absurd (cc e)
fits_of pointer node true (Some found) e = here (fits pointer (keys_of found)) refl e
  where
    here : (fit : Bool) → fits pointer (keys_of found) ≡ fit → cond fit (Some found) None ≡ Some node → fits pointer (keys_of node) ≡ true
    here true is same = let one : found ≡ node = cc same in ap (λ n. fits pointer (keys_of n)) (sym one) ∙ is
    here false is same = absurd (cc same)
fits_of pointer node false o e = absurd (cc e)

-- the keys of a good block are below its pointer's bound
all_below_up : (level : ℕ) (pointer : BlockPointer) (block : List ℕ) (node : Node) → judged level pointer block ≡ Some node
    → list_all (is_below pointer.up) (keys_of node) ≡ true
all_below_up level pointer block node is =
    (and_parts (begins pointer.first (keys_of node)) (list_all (is_below pointer.up) (keys_of node))
    (fits_of pointer node (eqb (level_of block) level) (node_of block) is)).1

-- ---- the child and the item of a greater key

module _ (key other : Key) (le : key_number key ≤ key_number other) where
  -- the key of a pointer
  abbrev pointer_key : KeyPointer → Key
  pointer_key p = p.key

  -- the key of an item
  abbrev item_key : Item → Key
  item_key i = i.key

  -- what is at or below the key is at or below the greater one
  at_or_below : (k : Key) → key_le k key ≡ true → key_le k other ≡ true
  at_or_below k e = let h : key_number k ≤ key_number key = leb-true _ _ e in le-leb _ _ (omega (arith, h, le))

  -- where a greater key is below the first pointer's, or below the bound, it leads to none of these children
  none_behind : (ps : List KeyPointer) (up : Option Key) → ascends (map pointer_key ps) ≡ true → is_below (up_of ps up) other ≡ true
      → le_child other ps up ≡ None
  none_behind [] up asc less = refl
  none_behind (q ∷ qs) up asc less = none_child other (q ∷ qs) up (all_above pointer_key other q qs asc (ltb-true _ _ less))

  -- a greater key below the child's bound leads to the same child
  same_child : (ps : List KeyPointer) (up : Option Key) (child : BlockPointer) → ascends (map pointer_key ps) ≡ true → le_child key ps up ≡ Some child
      → is_below child.up other ≡ true → le_child other ps up ≡ Some child
  same_child [] up child asc e less = absurd (cc e)
  same_child (p ∷ ps) up child asc e less = of (le_child key ps up) refl e (λ h. same_child ps up child (ascends_behind pointer_key p ps asc) h less)
    where
      here : (b : Bool) → key_le p.key key ≡ b → or_here None b (below p (up_of ps up)) ≡ Some child
          → or_here (le_child other ps up) (key_le p.key other) (below p (up_of ps up)) ≡ Some child
      here true is same =
          let one : below p (up_of ps up) ≡ child = cc same in
          let none : le_child other ps up ≡ None =
          none_behind ps up (ascends_behind pointer_key p ps asc) (ap (λ (s : BlockPointer). is_below s.up other) one ∙ less) in
          ap (λ o. or_here o (key_le p.key other) (below p (up_of ps up))) none ∙ ap (λ b. or_here None b (below p (up_of ps up))) (at_or_below p.key is) ∙ same
      here false is same = absurd (cc same)

      of : (o : Option BlockPointer) → le_child key ps up ≡ o → or_here o (key_le p.key key) (below p (up_of ps up)) ≡ Some child
          → (le_child key ps up ≡ Some child → le_child other ps up ≡ Some child)
          → or_here (le_child other ps up) (key_le p.key other) (below p (up_of ps up)) ≡ Some child
      of None is same rest = here (key_le p.key key) refl same
      of (Some later) is same rest =
          let one : later ≡ child = cc same in
          ap (λ o. or_here o (key_le p.key other) (below p (up_of ps up))) (rest (is ∙ ap Some one))

  -- a key below the first pointer's, or below the bound, is below the node's bound
  pointers_below : (ps : List KeyPointer) (up : Option Key) → list_all (is_below up) (map pointer_key ps) ≡ true → is_below (up_of ps up) other ≡ true
      → is_below up other ≡ true
  pointers_below [] up all less = less
  pointers_below (p ∷ ps) up all less =
      below_less up other p.key less (and_parts (is_below up p.key) (list_all (is_below up) (map pointer_key ps)) all).0

  -- a key below the child's bound is below the node's
  child_below : (ps : List KeyPointer) (up : Option Key) (child : BlockPointer) → list_all (is_below up) (map pointer_key ps) ≡ true → le_child key ps up
      ≡ Some child → is_below child.up other ≡ true → is_below up other ≡ true
  child_below [] up child all e less = absurd (cc e)
  child_below (p ∷ ps) up child all e less = of (le_child key ps up) refl e (λ h. child_below ps up child rest h less)
    where
      -- the pointers behind the first one are below the bound
      rest : list_all (is_below up) (map pointer_key ps) ≡ true
      rest = (and_parts (is_below up p.key) (list_all (is_below up) (map pointer_key ps)) all).1

      here : (b : Bool) → or_here None b (below p (up_of ps up)) ≡ Some child → is_below up other ≡ true
      here true same =
          let one : below p (up_of ps up) ≡ child = cc same in pointers_below ps up rest (ap (λ (s : BlockPointer). is_below s.up other) one ∙ less)
      here false same = absurd (cc same)

      of : (o : Option BlockPointer) → le_child key ps up ≡ o → or_here o (key_le p.key key) (below p (up_of ps up)) ≡ Some child
          → (le_child key ps up ≡ Some child → is_below up other ≡ true) → is_below up other ≡ true
      of None is same further = here (key_le p.key key) same
      of (Some later) is same further = let one : later ≡ child = cc same in further (is ∙ ap Some one)

  -- the item that is found is at or below the key
  pub found_le : (xs : List Item) (x : Item) → le_item key xs ≡ Some x → key_number x.key ≤ key_number key
  found_le [] x e = absurd (cc e)
  found_le (y ∷ ys) x e = of (le_item key ys) refl e (found_le ys x)
    where
      here : (b : Bool) → key_le y.key key ≡ b → or_here None b y ≡ Some x → key_number x.key ≤ key_number key
      here true is same = let one : y ≡ x = cc same in subst (λ (z : Item). key_number z.key ≤ key_number key) one (leb-true _ _ is)
      here false is same = absurd (cc same)

      of : (o : Option Item) → le_item key ys ≡ o → or_here o (key_le y.key key) y ≡ Some x → (le_item key ys ≡ Some x → key_number x.key ≤ key_number key)
          → key_number x.key ≤ key_number key
      of None is same rest = here (key_le y.key key) refl same
      of (Some later) is same rest = let one : later ≡ x = cc same in rest (is ∙ ap Some one)

  -- a greater key below the first item's, or below the bound, is below all these items
  behind_all : (xs : List Item) (up : Option Key) → ascends (map item_key xs) ≡ true → is_below (next_key xs up) other ≡ true
      → All (λ x. key_number other < key_number x.key) xs
  behind_all [] up asc less = All-nil (λ x. key_number other < key_number x.key)
  behind_all (x ∷ xs) up asc less = all_above item_key other x xs asc (ltb-true _ _ less)

  -- a greater key below the next item's, or below the bound, finds the same item
  same_item : (xs : List Item) (i : ℕ) (up : Option Key) → i < length xs → ascends (map item_key xs) ≡ true
      → ((d : Item) → le_item key xs ≡ Some (get_or xs i d)) → is_below (next_key (drop (i + 1) xs) up) other ≡ true → (d : Item) → le_item other xs
      ≡ Some (get_or xs i d)
  same_item xs i up lt asc some less d =
      some_le other xs i d lt (let h = found_le xs (get_or xs i d) (some d) in omega (arith, h, le))
      (behind_all (drop (i + 1) xs) up (ascends_from item_key (i + 1) xs asc) less)

  -- a key below the next item's, or below the bound, is below the leaf's bound
  leaf_below : (xs : List Item) (up : Option Key) → list_all (is_below up) (map item_key xs) ≡ true → is_below (next_key xs up) other ≡ true
      → is_below up other ≡ true
  leaf_below [] up all less = less
  leaf_below (x ∷ xs) up all less = below_less up other x.key less (and_parts (is_below up x.key) (list_all (is_below up) (map item_key xs)) all).0

-- the key of the item at a place
pub next_at : (xs : List Item) (n : ℕ) (up : Option Key) (key : Key) → n < length xs → ((d : Item) → (get_or xs n d).key ≡ key) → Some key
    ≡ next_key (drop n xs) up
next_at [] n up key lt h = absurd (omega (arith, lt))
next_at (x ∷ xs) zero up key lt h = ap Some (sym (h x))
next_at (x ∷ xs) (suc n) up key lt h = next_at xs n up key (omega (arith, lt)) h

-- ---- along a way

module _ (B : Map) (key : Key) (root : RootPlace) where
  -- where a greater key below the bound finds the same from here on, it finds the same from the root on
  abbrev pub Carries : ℕ → BlockPointer → Type 0
  Carries level pointer =
      (other : Key) → key_number key ≤ key_number other → is_below pointer.up other ≡ true → at B other level pointer ≡ at B key level pointer
      → at B other root.level (root_pointer root) ≡ at B key root.level (root_pointer root)

  -- on the way down to a child, greater keys that find the same from there on find the same from the root on
  pub carries_down : (level : ℕ) (pointer child : BlockPointer) (block : List ℕ) → Carries level pointer → IsInnerAt level pointer block
      → le_child key (pointers block) pointer.up ≡ Some child → B (want_of level pointer) ≡ Ok block → Carries (level - 1) child
  carries_down level pointer child block carries inner some came other le less same =
      let all = all_below_up level pointer block (Inner (pointers block)) inner.is in
      let too : le_child other (pointers block) pointer.up ≡ Some child =
      same_child key other le (pointers block) pointer.up child (ascends-pointers block inner.good) some less in
      carries other le (child_below key other le (pointers block) pointer.up child all some less)
      (down_at B other level pointer child block inner too came ∙ ap (prepend (Wants (want_of level pointer) ∷ [])) same
      ∙ sym (down_at B key level pointer child block inner some came))

  -- keys of which a leaf has the same last item at or below them find the same from this leaf on
  leaf_same : (level : ℕ) (pointer : BlockPointer) (block : List ℕ) (other : Key) → IsLeafAt level pointer block → le_item other (items block)
      ≡ le_item key (items block) → B (want_of level pointer) ≡ Ok block → at B other level pointer ≡ at B key level pointer
  leaf_same zero pointer block other leaf same came =
      at_leaf B other pointer block (Some (Leaf (items block))) came leaf.is
      ∙ ap (λ o. prepend (Wants (want_of 0 pointer) ∷ []) (exec B (Return (option_map (tree_item pointer.addr) o)))) same
      ∙ sym (at_leaf B key pointer block (Some (Leaf (items block))) came leaf.is)
  leaf_same (suc n) pointer block other leaf same came = let l = leaf.zero_level in absurd (omega (arith, l))

  -- where an item is found, greater keys find the same from the root on, up to the next item's, or to the leaf's bound
  pub carries_end : (level : ℕ) (pointer : BlockPointer) (block : List ℕ) (i : ℕ) → Carries level pointer → IsLeafAt level pointer block
      → i < length (items block)
      → ((d : Item) → le_item key (items block) ≡ Some (get_or (items block) i d)) → B (want_of level pointer) ≡ Ok block
      → SameUpTo B root key (next_key (drop (i + 1) (items block)) pointer.up)
  carries_end level pointer block i carries leaf lt some came other le less =
      let d : Item = record { key = key; offset = 0; size = 0; body = [] } in
      let all = all_below_up level pointer block (Leaf (items block)) leaf.is in
      let too = same_item key other le (items block) i pointer.up lt (ascends-items block leaf.good) some less d in
      carries other le (leaf_below key other le (drop (i + 1) (items block)) pointer.up
      (below_from (λ (x : Item). x.key) pointer.up (i + 1) (items block) all) less)
      (leaf_same level pointer block other leaf (too ∙ sym (some d)) came)

  -- where no item is at or below the key, none is at or below a greater one, up to the first item
  pub carries_none : (level : ℕ) (pointer : BlockPointer) (block : List ℕ) → Carries level pointer → IsLeafAt level pointer block → le_item key (items block)
      ≡ None
      → B (want_of level pointer) ≡ Ok block → SameUpTo B root key (next_key (items block) pointer.up)
  carries_none level pointer block carries leaf none came other le less =
      let all = all_below_up level pointer block (Leaf (items block)) leaf.is in
      let too = none_item other (items block) (behind_all key other le (items block) pointer.up (ascends-items block leaf.good) less) in
      carries other le (leaf_below key other le (items block) pointer.up all less) (leaf_same level pointer block other leaf (too ∙ sym none) came)

  -- the same where no child is, up to the first child
  pub carries_nothing : (level : ℕ) (pointer : BlockPointer) (block : List ℕ) → Carries level pointer → IsInnerAt level pointer block
      → le_child key (pointers block) pointer.up ≡ None → B (want_of level pointer) ≡ Ok block → SameUpTo B root key (up_of (pointers block) pointer.up)
  carries_nothing level pointer block carries inner none came other le less =
      let all = all_below_up level pointer block (Inner (pointers block)) inner.is in
      let too = none_behind key other le (pointers block) pointer.up (ascends-pointers block inner.good) less in
      carries other le (pointers_below key other le (pointers block) pointer.up all less)
      (nothing_at B other level pointer block inner too came ∙ sym (nothing_at B key level pointer block inner none came))
