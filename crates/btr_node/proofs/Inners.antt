-- What a good inner node's bytes say of the list of its pointers.
use Rattle.std.proofs.Common.{◌≡◌, ℕ, ◌+◌, ◌*◌, ◌<◌, ◌≤◌, Bool, true, false, ◌&&◌, ltb, leb, List, length, get_or, map, refl, sym, ◌∙◌, ap, arith}
use Rattle.std.specs.List.{range_with_len}
use Rattle.std.proofs.lemmas.Bool.{le-ltb, lt-leb, lt-ltb, le-leb, ltb-true, leb-true, and_left, and_right, and_parts}
use Rattle.std.proofs.lemmas.List.FromFn.{length-map-range_with_len, get_or-map-range_with_len}
use Rattle.btr_node.specs.Block.{KeyPointer, level_of, entry_count, entry_key, entry_number, IsAscending, pointer_at, pointers, ascends, is_inner}
use Rattle.btr_node.proofs.Places.{map-map, IsSeenAs}
use Rattle.btr_node.proofs.Tables.{ascends-order}

-- a node has as many pointers as its header states
pub length-pointers : (block : List ℕ) → length (pointers block) ≡ entry_count block
unfolding pointers
length-pointers block = length-map-range_with_len (pointer_at block) 0 (entry_count block)

-- the pointers that an inner node is seen as, at each place
pub pointer_seen : (block : List ℕ) (list : List KeyPointer) → pointers block ≡ list → IsSeenAs (λ pointer. pointer) (pointer_at block) list
unfolding pointers
pointer_seen block list same = record {
  at = λ i d within.
      let inside : i < entry_count block = omega (arith, length-pointers block, ap length same) in
      ap (λ (l : List KeyPointer). get_or l i d) (sym same) ∙ get_or-map-range_with_len (pointer_at block) 0 (entry_count block) i i d inside (omega arith);
}

-- the key of a pointer is the key of its entry
key-pointer_at : (block : List ℕ) (i : ℕ) → (pointer_at block i).key ≡ entry_key 33 block i
unfolding pointer_at
key-pointer_at block i = refl

-- their keys, at each place
pub key_seen : (block : List ℕ) (list : List KeyPointer) → pointers block ≡ list → IsSeenAs (λ pointer. pointer.key) (entry_key 33 block) list
key_seen block list same =
    record { at = λ i d within. ap (λ (pointer : KeyPointer). pointer.key) ((pointer_seen block list same).at i d within) ∙ key-pointer_at block i }

-- the level is one of an inner node, 1 to 7
level_fits : ℕ → Bool
level_fits level = ltb 0 level && leb level 7

-- the table has a pointer at least, and lies in the block
table_fits : List ℕ → Bool
table_fits block = ltb 0 (entry_count block) && leb (101 + 33 * entry_count block) (length block)

-- the keys of a node's pointers are those of its entries
keys_of_pointers : (block : List ℕ) → map (λ (pointer : KeyPointer). pointer.key) (map (pointer_at block) (range_with_len 0 (entry_count block)))
    ≡ map (entry_key 33 block) (range_with_len 0 (entry_count block))
unfolding pointer_at
keys_of_pointers block = map-map (pointer_at block) (λ (pointer : KeyPointer). pointer.key) (range_with_len 0 (entry_count block))

-- a block is a good inner node by its level, its table and the keys of its entries
inner_is : (block : List ℕ) → is_inner block ≡ (level_fits (level_of block) &&
    (table_fits block && ascends (map (entry_key 33 block) (range_with_len 0 (entry_count block)))))
unfolding is_inner pointers level_fits table_fits
inner_is block = ap (λ keys. (ltb 0 (level_of block) && leb (level_of block) 7) &&
    ((ltb 0 (entry_count block) && leb (101 + 33 * entry_count block) (length block)) && ascends keys)) (keys_of_pointers block)

-- a leaf is no inner node
pub inner_leaf : (block : List ℕ) → level_of block ≡ 0 → is_inner block ≡ false
unfolding level_fits
inner_leaf block level = inner_is block ∙ and_left _ _ (and_left _ _ (le-ltb 0 (level_of block) (omega arith)))

-- nor is a block of a level above 7
pub inner_level : (block : List ℕ) → 7 < level_of block → is_inner block ≡ false
unfolding level_fits
inner_level block high = inner_is block ∙ and_left _ _ (and_right _ _ (lt-leb _ _ high))

-- nor is a block with no pointer
pub inner_empty : (block : List ℕ) → entry_count block ≡ 0 → is_inner block ≡ false
unfolding table_fits
inner_empty block none = inner_is block ∙ and_right _ _ (and_left _ _ (and_left _ _ (le-ltb 0 (entry_count block) (omega arith))))

-- nor is one whose pointers do not fit
pub inner_room : (block : List ℕ) → length block < 101 + 33 * entry_count block → is_inner block ≡ false
unfolding table_fits
inner_room block long = inner_is block ∙ and_right _ _ (and_left _ _ (and_right _ _ (lt-leb _ _ long)))

-- every other block is an inner node as its keys say
pub inner_rules : (block : List ℕ) (n : ℕ) → n ≡ entry_count block → 0 < level_of block → level_of block ≤ 7 → 0 < n → 101 + 33 * n ≤ length block
    → is_inner block ≡ ascends (map (entry_key 33 block) (range_with_len 0 n))
unfolding level_fits table_fits
inner_rules block n count above level some fits =
    let keys = ascends (map (entry_key 33 block) (range_with_len 0 (entry_count block))) in
    inner_is block
    ∙ ap (λ test. (test && leb (level_of block) 7) && (table_fits block && keys)) (lt-ltb _ _ above)
    ∙ ap (λ test. test && (table_fits block && keys)) (le-leb _ _ level)
    ∙ ap (λ test. (test && leb (101 + 33 * entry_count block) (length block)) && keys) (lt-ltb 0 (entry_count block) (omega arith))
    ∙ ap (λ test. test && keys) (le-leb (101 + 33 * entry_count block) (length block) (omega arith))
    ∙ ap (λ m. ascends (map (entry_key 33 block) (range_with_len 0 m))) (sym count)

-- a good inner node has a table that lies in the block, and keys that ascend
parts_of : (block : List ℕ) → is_inner block ≡ true → ((0 < entry_count block) × (101 + 33 * entry_count block ≤ length block))
    × (ascends (map (entry_key 33 block) (range_with_len 0 (entry_count block))) ≡ true)
unfolding table_fits
parts_of block good =
    let rules = and_parts (table_fits block) (ascends (map (entry_key 33 block) (range_with_len 0 (entry_count block))))
    (and_parts (level_fits (level_of block)) _ (sym (inner_is block) ∙ good)).1 in
    let table = and_parts (ltb 0 (entry_count block)) (leb (101 + 33 * entry_count block) (length block)) rules.0 in
    ((ltb-true _ _ table.0, leb-true _ _ table.1), rules.1)

-- a good inner node has a pointer
pub inner_some : (block : List ℕ) → is_inner block ≡ true → 0 < entry_count block
inner_some block good = (parts_of block good).0.0

-- the table of a good inner node lies in the block
pub inner_fits : (block : List ℕ) → is_inner block ≡ true → 101 + 33 * entry_count block ≤ length block
inner_fits block good = (parts_of block good).0.1

-- the level of a good inner node is 1 to 7, and the keys of its pointers ascend
pub level-inner : (block : List ℕ) → is_inner block ≡ true → (0 < level_of block) × (level_of block ≤ 7)
unfolding level_fits
level-inner block good =
    let level = and_parts (ltb 0 (level_of block)) (leb (level_of block) 7) (and_parts (level_fits (level_of block)) _ (sym (inner_is block) ∙ good)).0 in
    (ltb-true _ _ level.0, leb-true _ _ level.1)

-- the keys of a good inner node's pointers ascend
pub ascends-pointers : (block : List ℕ) → is_inner block ≡ true → ascends (map (λ (pointer : KeyPointer). pointer.key) (pointers block)) ≡ true
unfolding pointers
ascends-pointers block good = ap ascends (keys_of_pointers block) ∙ (parts_of block good).1

-- the keys of a good inner node ascend, place by place
pub inner_ascends : (block : List ℕ) → is_inner block ≡ true → IsAscending (entry_number 33 block) (entry_count block)
inner_ascends block good i j less within =
    ascends-order (entry_key 33 block) 0 (entry_count block) (parts_of block good).1 i j (omega arith) less (omega arith)
