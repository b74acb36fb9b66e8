-- A block of a tree: behind its header of 101 bytes stands a table, of items in
-- a leaf and of pointers in an inner node.
-- The format is described at https://btrfs.readthedocs.io/en/latest/dev/On-disk-format.html
use Rattle.std.specs.Prelude.{ℕ, ◌+◌, ◌*◌, ◌-◌, ◌<◌, ◌≤◌, IsTrue, Bool, true, ◌&&◌, ◌==◌, nat_lt, nat_le, List, [], ◌∷◌, map, length, slice_index}
use Rattle.std.specs.List.{range_with_len}
use Rattle.btr_base.specs.Field.{number_at, bytes_at}
use Rattle.btr_base.specs.Key.{key_at, key_number, key_lt}
use Rattle.btr_base.specs.declared.key.Key.{Key}

-- how many items or pointers the header states
unfoldable pub entry_count : List ℕ → ℕ
entry_count block = number_at 4 96 block

-- the level that the header states, 0 for a leaf
abbrev pub level_of : List ℕ → ℕ
level_of block = slice_index block 100

-- the key of entry i of a table, whose entries have this size
unfoldable pub entry_key : ℕ → List ℕ → ℕ → Key
entry_key size block i = key_at (101 + size * i) block

-- its number
abbrev pub entry_number : ℕ → List ℕ → ℕ → ℕ
entry_number size block i = key_number (entry_key size block i)

-- the first n of some numbers ascend strictly
abbrev pub IsAscending : (ℕ → ℕ) → ℕ → Type 0
IsAscending number n = (i j : ℕ) → i < j → j < n → number i < number j

-- an item: its key, where its bytes begin, counted from the header's end, how
-- many the table says they are, and its bytes
pub record Item : Type 0 where
  pub key : Key
  pub offset : ℕ
  pub size : ℕ
  pub body : List ℕ

-- item i, whose entry has 25 bytes
unfoldable pub item_at : List ℕ → ℕ → Item
item_at block i =
    let offset = number_at 4 (101 + 25 * i + 17) block in
    let size = number_at 4 (101 + 25 * i + 21) block in
    record { key = entry_key 25 block i; offset = offset; size = size; body = bytes_at size (101 + offset) block }

-- a pointer: the first key below it, the child's address, and the transaction that wrote the child
pub record KeyPointer : Type 0 where
  pub key : Key
  pub addr : ℕ
  pub generation : ℕ

-- pointer i, whose entry has 33 bytes
unfoldable pub pointer_at : List ℕ → ℕ → KeyPointer
pointer_at block i = record {
  key = entry_key 33 block i;
  addr = number_at 8 (101 + 33 * i + 17) block;
  generation = number_at 8 (101 + 33 * i + 25) block;
}

-- the items of a leaf
unfoldable pub items : List ℕ → List Item
items block = map (item_at block) (range_with_len 0 (entry_count block))

-- the pointers of an inner node
unfoldable pub pointers : List ℕ → List KeyPointer
pointers block = map (pointer_at block) (range_with_len 0 (entry_count block))

-- the first key, where there is one, stands behind this one
abbrev pub is_before : Key → List Key → Bool
is_before key [] = true
is_before key (next ∷ keys) = key_lt key next

-- the keys ascend strictly
abbrev pub ascends : List Key → Bool
ascends [] = true
ascends (key ∷ keys) = is_before key keys && ascends keys

-- the first item ends at `end`, each next one ends where the one before begins,
-- and none begins before the end of the table
abbrev pub is_packed : ℕ → ℕ → List Item → Bool
is_packed table end [] = true
is_packed table end (item ∷ rest) = (item.offset + item.size == end) && (nat_le table item.offset && is_packed table item.offset rest)

-- the first items of a block, of this count, are so packed, and none begins before the end of their table
abbrev pub packs_first : List ℕ → ℕ → Bool
packs_first block count = is_packed (25 * count) (length block - 101) (map (item_at block) (range_with_len 0 count))

-- a good leaf: the items' bytes fill the block from its end downwards, and the keys ascend
unfoldable pub is_leaf : List ℕ → Bool
is_leaf block =
    (level_of block == 0)
    && (is_packed (25 * entry_count block) (length block - 101) (items block)
    && ascends (map (λ item. item.key) (items block)))

-- a good inner node: its level is 1 to 7, it has a pointer at least and all of them fit, and the keys ascend
unfoldable pub is_inner : List ℕ → Bool
is_inner block =
    (nat_lt 0 (level_of block) && nat_le (level_of block) 7)
    && ((nat_lt 0 (entry_count block) && nat_le (101 + 33 * entry_count block) (length block))
    && ascends (map (λ pointer. pointer.key) (pointers block)))

-- a place among the items of a block that has a header and is a good leaf, or their end
abbrev pub StandsIn : List ℕ → ℕ → Type 0
StandsIn block place = (101 ≤ length block) × IsTrue (is_leaf block) × (place ≤ length (items block))
