-- Items in the order of their keys, between two bounds.
use Rattle.std.proofs.Common.{◌≡◌, ◌∙◌, ℕ, ◌+◌, ◌^◌, ◌-◌, ◌<◌, ◌≤◌, Bool, true, false, cond, ◌&&◌, ◌||◌, leb, List, [], ◌∷◌, ◌++◌, filter}
use Rattle.std.proofs.Common.{map, Option, Some, None, refl, sym, ap, arith}
use Rattle.std.specs.Bool.{⊤}
use Rattle.std.specs.List.{list_all}
use Rattle.std.proofs.lemmas.Bool.{and_parts, ltb-true, leb-true}
use Rattle.btr_base.specs.Key.{key_le, key_lt, key_number}
use Rattle.btr_base.specs.declared.key.Key.{Key}
use Rattle.btr_node.specs.Block.{Item as NodeItem, ascends}
use Rattle.btr_walk.specs.Le.{TreeItem, tree_item}
use Rattle.btr_walk.specs.Range.{is_within, items_within}
use Rattle.btr_walk.specs.BlockPointer.{is_below, item_keys}
use Rattle.btr_check_differences.specs.declared.inode_range.InodeRange.{InodeRange}
use Rattle.btr_check_differences.specs.Ranges.{are_apart, high, holds, is_among, is_before, is_range, low}

-- a number isn't above a bound, if there is one
abbrev pub UpTo : ℕ → Option Key → Type 0
UpTo n None = ⊤
UpTo n (Some up) = n ≤ key_number up

-- the number of a first key, if that is known
abbrev pub from_of : Option Key → ℕ
from_of None = 0
from_of (Some first) = key_number first

-- the keys of items ascend, from a number on up to before a bound
abbrev pub Chain : ℕ → List TreeItem → Option Key → Type 0
Chain from [] up = UpTo from up
Chain from (item ∷ items) up = (from ≤ key_number item.key) × Chain (key_number item.key + 1) items up

-- a number that isn't above another isn't above that one's bound
up_less : (a b : ℕ) (up : Option Key) → a ≤ b → UpTo b up → UpTo a up
up_less a b None le h = tt
up_less a b (Some up) le h = omega (arith, le, h)

-- items in order from a number on are so from a lower one on
pub chain_from : (a b : ℕ) (xs : List TreeItem) (up : Option Key) → a ≤ b → Chain b xs up → Chain a xs up
chain_from a b [] up le h = up_less a b up le h
chain_from a b (x ∷ xs) up le h = (omega (arith, le, h.0), h.1)

-- items in order up to a key, and then some from it on, are in order all together
pub chain_then : (a : ℕ) (xs : List TreeItem) (mid : Key) (ys : List TreeItem) (up : Option Key) → Chain a xs (Some mid) → Chain (key_number mid) ys up
    → Chain a (xs ++ ys) up
chain_then a [] mid ys up h k = chain_from a (key_number mid) ys up h k
chain_then a (x ∷ xs) mid ys up h k = (h.0, chain_then (key_number x.key + 1) xs mid ys up h.1 k)

-- the number that items in order begin from isn't above their bound
pub chain_end : (a : ℕ) (xs : List TreeItem) (up : Option Key) → Chain a xs up → UpTo a up
chain_end a [] up h = h
chain_end a (x ∷ xs) up h = up_less a (key_number x.key + 1) up (omega (arith, h.0)) (chain_end (key_number x.key + 1) xs up h.1)

module _ (lo hi : Key) where
  -- an item lies between two keys
  abbrev pub between : TreeItem → Bool
  between item = key_le lo item.key && key_le item.key hi

  no_and : (a b : Bool) → a ≡ false → (a && b) ≡ false
  no_and a b e = ap (λ c. c && b) e

  no_or_and : (a b : Bool) → b ≡ false → (a && b) ≡ false
  no_or_and true b e = e
  no_or_and false b e = refl

  above-false : (a b : ℕ) → b < a → leb a b ≡ false
  above-false a b lt = grind arith

  -- items below the first key aren't among them
  pub none_below : (a : ℕ) (xs : List TreeItem) (up : Key) → key_number up ≤ key_number lo → Chain a xs (Some up) → filter between xs ≡ []
  none_below a [] up le h = refl
  none_below a (x ∷ xs) up le h =
      let end = chain_end (key_number x.key + 1) xs (Some up) h.1 in
      let out : key_le lo x.key ≡ false = above-false (key_number lo) (key_number x.key) (omega (arith, end, le)) in
      ap (λ b. cond b (x ∷ filter between xs) (filter between xs)) (no_and (key_le lo x.key) (key_le x.key hi) out)
      ∙ none_below (key_number x.key + 1) xs up le h.1

  -- nor are those behind the last one
  pub none_above : (a : ℕ) (xs : List TreeItem) (up : Option Key) → key_number hi < a → Chain a xs up → filter between xs ≡ []
  none_above a [] up lt h = refl
  none_above a (x ∷ xs) up lt h =
      let out : key_le x.key hi ≡ false = above-false (key_number x.key) (key_number hi) (omega (arith, h.0, lt)) in
      ap (λ b. cond b (x ∷ filter between xs) (filter between xs)) (no_or_and (key_le lo x.key) (key_le x.key hi) out)
      ∙ none_above (key_number x.key + 1) xs up (omega (arith, h.0, lt)) h.1

-- the items of a leaf are a chain
module _ (lo hi : Key) (addr : ℕ) where
  -- with one item more in front, whether it is met or not, the items are in order
  leaf_rest : (a : ℕ) (x : NodeItem) (xs : List NodeItem) (up : Option Key) (b : Bool) → is_within lo hi x ≡ b → a ≤ key_number x.key
      → Chain (key_number x.key + 1) (items_within lo hi addr xs) up
      → Chain a (map (tree_item addr) (cond b (x ∷ filter (is_within lo hi) xs) (filter (is_within lo hi) xs))) up
  leaf_rest a x xs up true e from rest = (from, rest)
  leaf_rest a x xs up false e from rest = chain_from a (key_number x.key + 1) (items_within lo hi addr xs) up (omega (arith, from)) rest

  -- the number behind a key that is below a bound isn't above the bound
  below_up : (up : Option Key) (key : Key) → is_below up key ≡ true → UpTo (key_number key + 1) up
  below_up None key e = tt
  below_up (Some up) key e = let less : key_number key < key_number up = ltb-true _ _ e in omega (arith, less)

  -- the items of a leaf behind one of them are in order up to the bound
  leaf_more : (x : NodeItem) (xs : List NodeItem) (up : Option Key) → ascends (item_keys (x ∷ xs)) ≡ true
      → list_all (is_below up) (item_keys (x ∷ xs)) ≡ true → Chain (key_number x.key + 1) (items_within lo hi addr xs) up
  leaf_more x [] up asc below = below_up up x.key (and_parts (is_below up x.key) true below).0
  leaf_more x (y ∷ ys) up asc below =
      let parts = and_parts (key_lt x.key y.key) (ascends (item_keys (y ∷ ys))) asc in
      let here = and_parts (is_below up x.key) (list_all (is_below up) (item_keys (y ∷ ys))) below in
      let less : key_number x.key < key_number y.key = ltb-true _ _ parts.0 in
      leaf_rest (key_number x.key + 1) y ys up (is_within lo hi y) refl (omega (arith, less)) (leaf_more y ys up parts.1 here.1)

  -- the items met of a leaf are in order, where its keys ascend below a bound
  pub leaf_chain : (a : ℕ) (x : NodeItem) (xs : List NodeItem) (up : Option Key) → a ≤ key_number x.key → ascends (item_keys (x ∷ xs)) ≡ true
      → list_all (is_below up) (item_keys (x ∷ xs)) ≡ true → Chain a (items_within lo hi addr (x ∷ xs)) up
  leaf_chain a x xs up from asc below = leaf_rest a x xs up (is_within lo hi x) refl from (leaf_more x xs up asc below)

-- ---- ranges that are apart

-- a key of ranges behind another one is above that
above_first : (r q : InodeRange) (key : Key) → r.last < q.first → key_le (low q) key ≡ true → key_number (high r) < key_number key
above_first r q key less le =
    let from : key_number (low q) ≤ key_number key = leb-true _ _ le in
    omega (arith, from, less)

-- a key of a range or of those behind it is above a range before all of these
above_by : (r q : InodeRange) (rs : List InodeRange) (key : Key) (b : Bool) → holds key q ≡ b → r.last < q.first → q.first ≤ q.last
    → (is_among rs key ≡ true → key_number (high q) < key_number key) → (b || is_among rs key) ≡ true → key_number (high r) < key_number key
above_by r q rs key true e less le rest h = above_first r q key less (and_parts (key_le (low q) key) (key_le key (high q)) e).0
above_by r q rs key false e less le rest h = let later = rest h in omega (arith, later, less, le)

-- a key of ranges that are apart, all behind another one, is above each key of that
pub above_all : (r : InodeRange) (rs : List InodeRange) (key : Key) → is_before r rs ≡ true → are_apart rs ≡ true → is_among rs key ≡ true
    → key_number (high r) < key_number key
above_all r [] key before apart among = cc
above_all r (q ∷ rs) key before apart among =
    let parts = and_parts (is_range q) (is_before q rs && are_apart rs) apart in
    let more = and_parts (is_before q rs) (are_apart rs) parts.1 in
    let ends = (and_parts (leb q.first q.last) (leb q.last (2 ^ 64 - 1)) parts.0).0 in
    above_by r q rs key (holds key q) refl (ltb-true _ _ before) (leb-true _ _ ends) (above_all q rs key more.0 more.1) among

-- items that are of one of some ranges are first those of the first one, and then those of the others
module _ (r : InodeRange) (rs : List InodeRange) (before : is_before r rs ≡ true) (apart : are_apart rs ≡ true) where
  -- an item is of the first range
  abbrev of_first : TreeItem → Bool
  of_first = between (low r) (high r)

  -- an item is of one of the other ranges
  abbrev of_others : TreeItem → Bool
  of_others item = is_among rs item.key

  -- an item is of any of the ranges
  abbrev of_any : TreeItem → Bool
  of_any item = is_among (r ∷ rs) item.key

  -- with one item more in front those of any range are still those of the first one, and then those of the others
  split_by : (x : TreeItem) (xs : List TreeItem) (up : Option Key) (b c : Bool) → of_first x ≡ b → of_others x ≡ c → Chain (key_number x.key + 1) xs up
      → filter of_any xs ≡ filter of_first xs ++ filter of_others xs
      → cond (b || c) (x ∷ filter of_any xs) (filter of_any xs)
      ≡ cond b (x ∷ filter of_first xs) (filter of_first xs) ++ cond c (x ∷ filter of_others xs) (filter of_others xs)
  split_by x xs up true true e f h rest =
      let le : key_number x.key ≤ key_number (high r) = leb-true _ _ (and_parts (key_le (low r) x.key) (key_le x.key (high r)) e).1 in
      let above = above_all r rs x.key before apart f in
      absurd (omega (arith, le, above))
  split_by x xs up true false e f h rest = ap (λ l. x ∷ l) rest
  split_by x xs up false true e f h rest =
      let above = above_all r rs x.key before apart f in
      let none : filter of_first xs ≡ [] = none_above (low r) (high r) (key_number x.key + 1) xs up (omega (arith, above)) h in
      ap (λ l. x ∷ l) (rest ∙ ap (λ l. l ++ filter of_others xs) none) ∙ sym (ap (λ l. l ++ x ∷ filter of_others xs) none)
  split_by x xs up false false e f h rest = rest

  -- items in order of any of the ranges are those of the first one, and then those of the others
  pub split : (a : ℕ) (xs : List TreeItem) (up : Option Key) → Chain a xs up → filter of_any xs ≡ filter of_first xs ++ filter of_others xs
  split a [] up h = refl
  split a (x ∷ xs) up h = split_by x xs up (of_first x) (of_others x) refl refl h.1 (split (key_number x.key + 1) xs up h.1)
