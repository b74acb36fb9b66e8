-- A leaf whose items have bodies of 56 bytes, and what is looked up in it.
use Rattle.std.specs.Prelude.{ℕ, ◌+◌, ◌*◌, ◌-◌, ◌/◌, ◌%◌, List, [], ◌∷◌, ◌++◌, length, map, replicate, slice_get, Option, Some, None}
use Rattle.std.specs.Int.{w32, w64, to_le_bytes}
use Rattle.std.specs.List.{concat, range_with_len}
use Rattle.std.specs.Option.{option_map_or}
use Rattle.btr_node.specs.Node.{node_of}
use Rattle.btr_node.specs.declared.node.Node.{Node}
use Rattle.btr_node.specs.declared.node.Node.TheVariants.{Leaf, Inner}

-- how many items fit into a leaf of this size, each with its entry of 25 bytes
abbrev pub item_count : ℕ → ℕ
item_count size = (size - 101) / 81

-- entry i: the key (256 + i / 3, 1 + 12 * (i mod 3), 0), and where the 56 bytes of the body stand
unfoldable pub entry : ℕ → ℕ → List ℕ
entry size i =
    to_le_bytes w64 (256 + i / 3) ++ (1 + 12 * (i % 3)) ∷ [] ++ replicate 8 0
    ++ to_le_bytes w32 (size - 101 - 56 * (i + 1)) ++ to_le_bytes w32 56

-- the leaf: a header of zeros but for the number of items, the table, and zeros for all bodies
abbrev pub leaf : ℕ → List ℕ
leaf size =
    let count = item_count size in
    replicate 96 0 ++ to_le_bytes w32 count ++ 0 ∷ []
    ++ concat (map (entry size) (range_with_len 0 count)) ++ replicate (size - (101 + 25 * count)) 0

-- the place that changes in a turn: the first byte of the offset in the key of an item
abbrev pub place : ℕ → ℕ → ℕ
place turn size = 101 + 25 * (turn % item_count size) + 9

-- the objectid in the key of an item, which is another one in each turn; 0 of what is no good leaf, or of an empty one
abbrev pub objectid_of : ℕ → Option Node → ℕ
objectid_of turn (Some (Leaf items)) = option_map_or (λ item. item.key.objectid) (slice_get items (turn % length items)) 0
objectid_of turn (Some (Inner pointers)) = 0
objectid_of turn None = 0

-- the objectid that a lookup in a block finds in one turn
abbrev pub objectid_in_turn : ℕ → List ℕ → ℕ
objectid_in_turn turn block = objectid_of turn (node_of block)
