-- What a good leaf's bytes say of the list of its items.
use Rattle.std.proofs.Common.{◌≡◌, ℕ, ◌+◌, ◌-◌, ◌*◌, ◌<◌, ◌≤◌, Bool, true, false, ◌&&◌, eqb, List, length, get_or, slice_range, map, refl, sym, ◌∙◌, ap, ⊎_elim}
use Rattle.std.proofs.Common.{arith}
use Rattle.std.specs.List.{range_with_len}
use Rattle.std.proofs.lemmas.Bool.{ne_eqb, eq-eqb, eqb-true, and_left, and_right, and_parts, cases_lt, false≢true}
use Rattle.std.proofs.lemmas.List.FromFn.{length-map-range_with_len, get_or-map-range_with_len}
use Rattle.btr_node.specs.Block.{Item, level_of, entry_count, entry_key, entry_number, IsAscending, item_at, items, ascends, is_packed, is_leaf}
use Rattle.btr_node.proofs.Packing.{packed_too_many, packed_within}
use Rattle.btr_node.proofs.Places.{map-map, IsSeenAs}
use Rattle.btr_node.proofs.Tables.{ascends-order}

-- a leaf has as many items as its header states
pub length-items : (block : List ℕ) → length (items block) ≡ entry_count block
unfolding items
length-items block = length-map-range_with_len (item_at block) 0 (entry_count block)

-- the items that a leaf is seen as, at each place
pub item_seen : (block : List ℕ) (list : List Item) → items block ≡ list → IsSeenAs (λ item. item) (item_at block) list
unfolding items
item_seen block list same = record {
  at = λ i d within.
      let inside : i < entry_count block = omega (arith, length-items block, ap length same) in
      ap (λ (l : List Item). get_or l i d) (sym same) ∙ get_or-map-range_with_len (item_at block) 0 (entry_count block) i i d inside (omega arith);
}

-- the key of an item is the key of its entry
key-item_at : (block : List ℕ) (i : ℕ) → (item_at block i).key ≡ entry_key 25 block i
unfolding item_at
key-item_at block i = refl

-- their keys, at each place
pub key_seen : (block : List ℕ) (list : List Item) → items block ≡ list → IsSeenAs (λ item. item.key) (entry_key 25 block) list
key_seen block list same = record { at = λ i d within. ap (λ (item : Item). item.key) ((item_seen block list same).at i d within) ∙ key-item_at block i }

-- the rules of a leaf, over its table
rules_of : (block : List ℕ) → Bool
rules_of block = is_packed (25 * entry_count block) (length block - 101) (map (item_at block) (range_with_len 0 (entry_count block))) && ascends
    (map (entry_key 25 block) (range_with_len 0 (entry_count block)))

-- the keys of a leaf's items are those of its entries
keys_of_items : (block : List ℕ) → map (λ (item : Item). item.key) (map (item_at block) (range_with_len 0 (entry_count block)))
    ≡ map (entry_key 25 block) (range_with_len 0 (entry_count block))
unfolding item_at
keys_of_items block = map-map (item_at block) (λ (item : Item). item.key) (range_with_len 0 (entry_count block))

-- a block is a good leaf by its level and the rules of its table
leaf_is : (block : List ℕ) → is_leaf block ≡ (eqb (level_of block) 0 && rules_of block)
unfolding is_leaf items rules_of
leaf_is block = ap (λ keys. eqb (level_of block) 0 && (is_packed (25 * entry_count block) (length block - 101)
    (map (item_at block) (range_with_len 0 (entry_count block))) && ascends keys)) (keys_of_items block)

-- a block of another level is no leaf
pub leaf_level : (block : List ℕ) → (level_of block ≡ 0 → ⊥) → is_leaf block ≡ false
leaf_level block other = leaf_is block ∙ and_left _ _ (ne_eqb _ _ other)

-- a table that does not fit into the block is none of a leaf
pub leaf_room : (block : List ℕ) → length block - 101 < 25 * entry_count block → is_leaf block ≡ false
unfolding rules_of
leaf_room block long =
    let n = entry_count block in
    let table = 25 * n in
    let whole : n - 0 ≡ n = omega arith in
    let packed : is_packed table (length block - 101) (map (item_at block) (range_with_len 0 n)) ≡ false =
    ap (λ m. is_packed table (length block - 101) (map (item_at block) (range_with_len 0 m))) (sym whole)
    ∙ packed_too_many block table n (length block - 101) (omega arith) long in
    leaf_is block ∙ and_right _ _ (and_left _ _ packed)

-- a block of level 0 is a leaf as its items' bytes and its keys say
pub leaf_rules : (block : List ℕ) (n : ℕ) → n ≡ entry_count block → level_of block ≡ 0 → is_leaf block
    ≡ (is_packed (25 * n) (length block - 101) (map (item_at block) (range_with_len 0 n)) && ascends (map (entry_key 25 block) (range_with_len 0 n)))
unfolding rules_of
leaf_rules block n count level =
    leaf_is block
    ∙ ap (λ test. test && rules_of block) (eq-eqb _ _ level)
    ∙ ap (λ m. is_packed (25 * m) (length block - 101) (map (item_at block) (range_with_len 0 m)) && ascends
    (map (entry_key 25 block) (range_with_len 0 m))) (sym count)

-- the items of a good leaf are packed from the block's end downwards, and their keys ascend
parts_of : (block : List ℕ) → is_leaf block ≡ true → (is_packed (25 * entry_count block) (length block - 101)
    (map (item_at block) (range_with_len 0 (entry_count block))) ≡ true) × (ascends (map (entry_key 25 block) (range_with_len 0 (entry_count block))) ≡ true)
unfolding rules_of
parts_of block good =
    let rules = (and_parts (eqb (level_of block) 0) (rules_of block) (sym (leaf_is block) ∙ good)).1 in
    and_parts _ _ rules

-- the table of a good leaf lies in the block
pub leaf_fits : (block : List ℕ) → 101 ≤ length block → is_leaf block ≡ true → 101 + 25 * entry_count block ≤ length block
leaf_fits block header good =
    ⊎_elim
    (λ (long : length block - 101 < 25 * entry_count block). absurd (false≢true (sym (leaf_room block long) ∙ good)))
    (λ (fits : 25 * entry_count block ≤ length block - 101). omega arith)
    (cases_lt (length block - 101) (25 * entry_count block))

-- the bytes of a good leaf's items lie in the block
pub leaf_item_fits : (block : List ℕ) → 101 ≤ length block → is_leaf block ≡ true → (i : ℕ) → i < entry_count block → 101 + (item_at block i).offset
    + (item_at block i).size ≤ length block
leaf_item_fits block header good i within =
    omega (
      arith,
      (packed_within block (25 * entry_count block) (length block - 101) 0 (entry_count block) (parts_of block good).0 i (omega arith)
          (omega arith)).1,
    )

-- a good leaf has level 0, and the keys of its items ascend
pub level-leaf : (block : List ℕ) → is_leaf block ≡ true → level_of block ≡ 0
level-leaf block good = eqb-true _ _ (and_parts (eqb (level_of block) 0) (rules_of block) (sym (leaf_is block) ∙ good)).0

-- the keys of a good leaf's items ascend
pub ascends-items : (block : List ℕ) → is_leaf block ≡ true → ascends (map (λ (item : Item). item.key) (items block)) ≡ true
unfolding items
ascends-items block good = ap ascends (keys_of_items block) ∙ (parts_of block good).1

-- the keys of a good leaf ascend, place by place
pub leaf_ascends : (block : List ℕ) → is_leaf block ≡ true → IsAscending (entry_number 25 block) (entry_count block)
leaf_ascends block good i j less within =
    ascends-order (entry_key 25 block) 0 (entry_count block) (parts_of block good).1 i j (omega arith) less (omega arith)

-- the bytes of an item are those at its offset behind the header, as many as its size
body-item_at : (block : List ℕ) (i : ℕ) → (item_at block i).body
    ≡ slice_range block (101 + (item_at block i).offset) (101 + (item_at block i).offset + (item_at block i).size)
unfolding item_at
body-item_at block i = refl

-- the bytes of an item, by numbers that equal its offset and its size
pub item_body : (block : List ℕ) (i offset size : ℕ) → offset ≡ (item_at block i).offset → size ≡ (item_at block i).size → (item_at block i).body
    ≡ slice_range block (101 + offset) (101 + offset + size)
item_body block i offset size from many = body-item_at block i ∙ (λ t. slice_range block (101 + sym from t) (101 + sym from t + sym many t))
