-- The items by which two lists of blocks differ.
use Rattle.std.proofs.Common.{◌≡◌, ◌∙◌, ℕ, zero, suc, ◌+◌, ◌-◌, ◌<◌, ◌≤◌, Bool, true, false, not, cond, ◌&&◌, ◌||◌, eqb, List, [], ◌∷◌, ◌++◌, length}
use Rattle.std.proofs.Common.{take, get_or, drop, ltb, leb, filter, flat_map, map, Option, Some, None, Result, Ok, Err, refl, sym, ap, subst, arith}
use Rattle.std.specs.List.{list_all, list_any, AllByRecursion}
use Rattle.std.specs.Option.{is_some}
use Rattle.std.proofs.lemmas.Bool.{and_parts, ltb-true, leb-true, le-leb}
use Rattle.std.proofs.lemmas.List.{drop_more}
use Rattle.std.proofs.lemmas.List.Folds.{list_any-append}
use Rattle.std.proofs.lemmas.List.Elements.{filter-append}
use Rattle.btr_base.specs.Key.{key_le, key_lt, key_number, last_key}
use Rattle.btr_base.specs.declared.key.Key.{Key}
use Rattle.btr_node.proofs.Leaves.{ascends-items}
use Rattle.btr_node.specs.Block.{Item as NodeItem, ascends, items, level_of}
use Rattle.btr_node.specs.Node.{node_of}
use Rattle.btr_node.specs.declared.node.Node.{Node}
use Rattle.btr_node.specs.declared.node.Node.TheVariants.{Leaf, Inner}
use Rattle.btr_read.specs.Fate.{Fault}
use Rattle.btr_tour.specs.Tour.{Item, first_key, block_tour, child_pointers, child_tour, meets_keys, node_tour, items_met}
use Rattle.btr_walk.proofs.Ways.{leaf_at}
use Rattle.btr_walk.specs.declared.block_pointer.BlockPointer.{BlockPointer}
use Rattle.btr_walk.specs.Le.{TreeItem, tree_item, want_of}
use Rattle.btr_walk.specs.Range.{is_within, items_within}
use Rattle.btr_walk.specs.Reading.{Map}
use Rattle.btr_walk.specs.BlockPointer.{begins, fits, fitting, is_below, item_keys, judged, keys_of}
use Rattle.btr_check_differences.specs.declared.inode_range.InodeRange.{InodeRange}
use Rattle.btr_check_differences.specs.Differing.{DifferAt, items_at, items_below}
use Rattle.btr_check_differences.specs.Ranges.{AreIn, TakesAll, is_among, is_from, items_beside, may_have}
use Rattle.btr_check_differences.proofs.Nodes.{below_then}

-- the items beside ranges of two lists are those of the first, and then those of the second
pub beside_then : (ranges : List InodeRange) (xs ys : List TreeItem) → items_beside ranges (xs ++ ys) ≡ items_beside ranges xs ++ items_beside ranges ys
beside_then ranges xs ys = filter-append (λ (item : TreeItem). not (is_among ranges item.key)) xs ys

-- each key of some ranges is one of the same ranges
pub in_same : (ranges : List InodeRange) → AreIn ranges ranges
in_same ranges key h = h

-- ranges that are in others, which are in third ones, are in the third ones
pub in_then : (a b c : List InodeRange) → AreIn a b → AreIn b c → AreIn a c
in_then a b c one two key h = two key (one key h)

-- a list up to a place, what is there, and the rest
parted : (block_pointers : List BlockPointer) (i : ℕ) (d : BlockPointer) → i < length block_pointers → block_pointers ≡ take i block_pointers
    ++ get_or block_pointers i d ∷ drop (i + 1) block_pointers
parted block_pointers i d lt = sym (take_drop block_pointers i) ∙ ap (λ l. take i block_pointers ++ l) (drop_more block_pointers i d lt)
  where
    take_drop : (xs : List BlockPointer) (n : ℕ) → take n xs ++ drop n xs ≡ xs
    take_drop xs zero = refl
    take_drop [] (suc n) = refl
    take_drop (x ∷ xs) (suc n) = ap (λ l. x ∷ l) (take_drop xs n)

module _ (B : Map) (level : ℕ) where
  -- the items beside some ranges in three parts
  parts_beside : (ranges : List InodeRange) (block_pointers : List BlockPointer) (i : ℕ) (d : BlockPointer) → i < length block_pointers
      → items_beside ranges (items_below B level block_pointers)
      ≡ items_beside ranges (items_below B level (take i block_pointers))
      ++ (items_beside ranges (items_at B level (get_or block_pointers i d)) ++ items_beside ranges (items_below B level (drop (i + 1) block_pointers)))
  parts_beside ranges block_pointers i d lt =
      let front = take i block_pointers in
      let pointer = get_or block_pointers i d in
      let back = drop (i + 1) block_pointers in
      ap (λ l. items_beside ranges (items_below B level l)) (parted block_pointers i d lt)
      ∙ ap (items_beside ranges) (below_then B level front (pointer ∷ back))
      ∙ beside_then ranges (items_below B level front) (items_at B level pointer ++ items_below B level back)
      ∙ ap (λ l. items_beside ranges (items_below B level front) ++ l) (beside_then ranges (items_at B level pointer) (items_below B level back))

  -- what is left of two lists decides whether all of them differ by no more
  abbrev pub LeftDecides : List BlockPointer → List BlockPointer → List BlockPointer → List BlockPointer → List InodeRange → Type 0
  LeftDecides before after left left' ranges = (wider : List InodeRange) → AreIn ranges wider
      → items_beside wider (items_below B level left) ≡ items_beside wider (items_below B level left')
      → items_beside wider (items_below B level before) ≡ items_beside wider (items_below B level after)

  -- behind a block that both have
  pub shared_decides : (before after left left' : List BlockPointer) (ranges ranges' : List InodeRange) (i j : ℕ) (d : BlockPointer) → i < length left
      → j < length left'
      → get_or left i d ≡ get_or left' j d → AreIn ranges ranges' → LeftDecides before after left left' ranges
      → DifferAt B level (take i left) (take j left') ranges' → LeftDecides before after (drop (i + 1) left) (drop (j + 1) left') ranges'
  shared_decides before after left left' ranges ranges' i j d lt lt' same grows decides differ wider within rest =
      decides wider (in_then ranges ranges' wider grows within)
      (parts_beside wider left i d lt
      ∙ (λ k. differ wider within k ++ (items_beside wider (items_at B level (same k)) ++ rest k))
      ∙ sym (parts_beside wider left' j d lt'))

  -- and where nothing is left that both have
  pub all_differ : (before after left left' : List BlockPointer) (ranges ranges' : List InodeRange) → AreIn ranges ranges'
      → LeftDecides before after left left' ranges → DifferAt B level left left' ranges' → DifferAt B level before after ranges'
  all_differ before after left left' ranges ranges' grows decides differ wider within =
      decides wider (in_then ranges ranges' wider grows within) (differ wider within)

  -- below two lists stand the same items as below their children
  pub children_differ : (before after children children' : List BlockPointer) (ranges : List InodeRange)
      → items_below B (level - 1) children ≡ items_below B level before → items_below B (level - 1) children' ≡ items_below B level after
      → DifferAt B (level - 1) children children' ranges → DifferAt B level before after ranges
  children_differ before after children children' ranges one two differ wider within =
      ap (items_beside wider) (sym one) ∙ differ wider within ∙ ap (items_beside wider) two

-- ---- leaves

by_fit : (pointer : BlockPointer) (node : Node) (one : Node) (b : Bool) → fits pointer (keys_of one) ≡ b → cond b (Some one) None ≡ Some node
    → fits pointer (keys_of node) ≡ true
by_fit pointer node one true is e = let same : one ≡ node = cc in subst (λ n. fits pointer (keys_of n) ≡ true) same is
by_fit pointer node one false is e = cc

by_level : (pointer : BlockPointer) (node : Node) (b : Bool) (o : Option Node) → cond b (fitting pointer o) None ≡ Some node → fits pointer (keys_of node)
    ≡ true
by_level pointer node false o e = cc
by_level pointer node true None e = cc
by_level pointer node true (Some one) e = by_fit pointer node one (fits pointer (keys_of one)) refl e

-- the keys of a good block fit its pointer
pub judged_fits : (level : ℕ) (pointer : BlockPointer) (block : List ℕ) (node : Node) → judged level pointer block ≡ Some node → fits pointer (keys_of node)
    ≡ true
judged_fits level pointer block node e = by_level pointer node (eqb (level_of block) level) (node_of block) e

-- keys that ascend, below a bound, are those that a pointer may have
abbrev FitsPointer : BlockPointer → List Key → Type 0
FitsPointer pointer keys = AllByRecursion (λ (key : Key). (is_from pointer.first key ≡ true) × (is_below pointer.up key ≡ true)) keys

-- a key behind one that isn't below a first key isn't below it either
from_later : (first : Option Key) (a b : Key) → key_number a < key_number b → is_from first a ≡ true → is_from first b ≡ true
from_later None a b less h = refl
from_later (Some first) a b less h =
    let le : key_number first ≤ key_number a = leb-true _ _ h in
    le-leb _ _ (omega (arith, le, less))

-- keys that ascend below a pointer's bound fit it where the first one isn't below its first key
fit_from : (pointer : BlockPointer) (key : Key) (keys : List Key) → is_from pointer.first key ≡ true → ascends (key ∷ keys) ≡ true
    → list_all (is_below pointer.up) (key ∷ keys) ≡ true → FitsPointer pointer (key ∷ keys)
fit_from pointer key [] from up below = ((from, (and_parts (is_below pointer.up key) true below).0), tt)
fit_from pointer key (next ∷ keys) from up below =
    let parts = and_parts (key_lt key next) (ascends (next ∷ keys)) up in
    let here = and_parts (is_below pointer.up key) (list_all (is_below pointer.up) (next ∷ keys)) below in (
      (from, here.0),
      fit_from pointer next keys (from_later pointer.first key next (ltb-true _ _ parts.0) from) parts.1 here.1,
    )

-- where keys begin as a pointer says, the first isn't below the pointer's first key
begins_from : (first : Option Key) (key : Key) (keys : List Key) → begins first (key ∷ keys) ≡ true → is_from first key ≡ true
begins_from None key keys h = refl
begins_from (Some first) key keys h =
    not_above (key_number first) (key_number key) (and_parts (not (key_lt key first)) (not (key_lt first key)) h).0
  where
    not_above : (a b : ℕ) → not (ltb b a) ≡ true → leb a b ≡ true
    not_above a b e = grind arith

-- each key of a block that fits its pointer and whose keys ascend is one that the pointer may have
pub keys_fit : (pointer : BlockPointer) (keys : List Key) → ascends keys ≡ true → fits pointer keys ≡ true → FitsPointer pointer keys
keys_fit pointer [] up h = tt
keys_fit pointer (key ∷ keys) up h =
    let parts = and_parts (begins pointer.first (key ∷ keys)) (list_all (is_below pointer.up) (key ∷ keys)) h in
    fit_from pointer key keys (begins_from pointer.first key keys parts.0) up parts.1

-- a tour that meets just some items has met these
pub items_all : (items : List TreeItem) → items_met (map Item items) ≡ items
items_all [] = refl
items_all (item ∷ items) = ap (λ l. item ∷ l) (items_all items)

-- below children that aren't read no items are met
no_items : (addr level : ℕ) (block_pointers : List BlockPointer)
    → items_met (flat_map (child_tour first_key last_key (λ child. []) addr level) block_pointers) ≡ []
no_items addr level [] = refl
no_items addr level (pointer ∷ block_pointers) = no_items addr level block_pointers

-- where two answers with a node are the same, the nodes are
pub some_node : (x y : Node) → Some x ≡ Some y → x ≡ y
some_node x y e = cc

-- items that a leaf may have don't stand beside the inodes of which it may have any
module _ (B : Map) (pointer : BlockPointer) (ranges : List InodeRange) (taken : (key : Key) → may_have pointer key ≡ true → is_among ranges key ≡ true) where
  both_true : (a b c : Bool) → a ≡ true → b ≡ true → c ≡ true → (a && (b && c)) ≡ true
  both_true a b c e f g = λ i. e i && (f i && g i)

  -- no item stands beside the ranges
  abbrev Beside : List TreeItem → Type 0
  Beside items = items_beside ranges items ≡ []

  -- with one more item, of a key that the pointer may have, still none stands beside the ranges
  item_beside : (addr : ℕ) (x : NodeItem) (xs : List NodeItem) (b : Bool) → is_within first_key last_key x ≡ b → is_from pointer.first x.key ≡ true
      → is_below pointer.up x.key ≡ true → Beside (items_within first_key last_key addr xs)
      → Beside (map (tree_item addr) (cond b (x ∷ filter (is_within first_key last_key) xs) (filter (is_within first_key last_key) xs)))
  item_beside addr x xs false e from below rest = rest
  item_beside addr x xs true e from below rest =
      let last = (and_parts (key_le first_key x.key) (key_le x.key last_key) e).1 in
      let others = items_beside ranges (items_within first_key last_key addr xs) in
      ap (λ b. cond (not b) (tree_item addr x ∷ others) others) (taken x.key (both_true _ _ _ from below last)) ∙ rest

  -- of items whose keys fit the pointer none stands beside the ranges
  list_beside : (addr : ℕ) (xs : List NodeItem) → FitsPointer pointer (item_keys xs) → Beside (items_within first_key last_key addr xs)
  list_beside addr [] fit = refl
  list_beside addr (x ∷ xs) fit =
      item_beside addr x xs (is_within first_key last_key x) refl fit.0.0 fit.0.1 (list_beside addr xs fit.1)

  -- of what is met in a block at the pointer, good or not, no item stands beside the ranges
  node_beside : (block : List ℕ) (o : Option Node) → judged 0 pointer block ≡ o
      → items_beside ranges (items_met (node_tour first_key last_key (λ child. []) 0 pointer block o)) ≡ []
  node_beside block None is = refl
  node_beside block (Some (Inner ps)) is =
      ap (items_beside ranges) (no_items pointer.addr 0 (filter (meets_keys first_key last_key) (child_pointers ps pointer.up)))
  node_beside block (Some (Leaf xs)) is =
      let leaf = leaf_at 0 pointer block (ap is_some is) refl in
      let same : Leaf (items block) ≡ Leaf xs = some_node (Leaf (items block)) (Leaf xs) (sym leaf.is ∙ is) in
      let up : ascends (keys_of (Leaf xs)) ≡ true = ap (λ n. ascends (keys_of n)) (sym same) ∙ ascends-items block leaf.good in
      ap (items_beside ranges) (items_all (items_within first_key last_key pointer.addr xs))
      ∙ list_beside pointer.addr xs (keys_fit pointer (item_keys xs) up (judged_fits 0 pointer block (Leaf xs) is))

  -- of what is met for what a read of the block came to, no item stands beside the ranges
  block_beside : (r : Result (List ℕ) Fault) → items_beside ranges (items_met (block_tour first_key last_key (λ child. []) 0 pointer r)) ≡ []
  block_beside (Err fault) = refl
  block_beside (Ok block) = node_beside block (judged 0 pointer block) refl

  -- no item of the leaf at the pointer stands beside the ranges
  pub leaf_beside : items_beside ranges (items_at B 0 pointer) ≡ []
  leaf_beside = block_beside (B (want_of 0 pointer))

or_left : (a b : Bool) → a ≡ true → (a || b) ≡ true
or_left a b e = ap (λ c. c || b) e

or_right : (a b : Bool) → b ≡ true → (a || b) ≡ true
or_right true b e = refl
or_right false b e = e

-- no item of some leaves stands beside ranges that have all inodes of which these may have items
pub leaves_beside : (B : Map) (ranges : List InodeRange) (block_pointers : List BlockPointer)
    → ((key : Key) → list_any (λ pointer. may_have pointer key) block_pointers ≡ true → is_among ranges key ≡ true)
    → items_beside ranges (items_below B 0 block_pointers) ≡ []
leaves_beside B ranges [] taken = refl
leaves_beside B ranges (pointer ∷ block_pointers) taken =
    beside_then ranges (items_at B 0 pointer) (items_below B 0 block_pointers)
    ∙ (λ i. leaf_beside B pointer ranges (λ key h. taken key (or_left (may_have pointer key) (list_any (λ s. may_have s key) block_pointers) h)) i
    ++ leaves_beside B ranges block_pointers (λ key h. taken key (or_right (may_have pointer key) (list_any (λ s. may_have s key) block_pointers) h)) i)

-- leaves of which all inodes are taken differ by these alone
pub leaves_differ : (B : Map) (level : ℕ) (old new : List InodeRange) (before after : List BlockPointer) → level ≡ 0 → TakesAll old (before ++ after) new
    → DifferAt B level before after new
leaves_differ B level old new before after low takes wider within =
    let held : (key : Key) → list_any (λ s. may_have s key) (before ++ after) ≡ true → is_among wider key ≡ true = λ key h. within key (takes.taken key h) in
    let either : (key : Key) → list_any (λ s. may_have s key) (before ++ after)
    ≡ (list_any (λ s. may_have s key) before || list_any (λ s. may_have s key) after) = λ key. list_any-append (λ s. may_have s key) before after in
    let one = leaves_beside B wider before (λ key h. held key (either key ∙ or_left _ _ h)) in
    let two = leaves_beside B wider after (λ key h. held key (either key ∙ or_right _ _ h)) in
    ap (λ n. items_beside wider (items_below B n before)) low ∙ one ∙ sym two ∙ ap (λ n. items_beside wider (items_below B n after)) (sym low)
