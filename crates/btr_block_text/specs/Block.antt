-- The text of a block: a line of its header, and then its items or its pointers.
use Rattle.std.specs.Prelude.{ℕ, if◌then◌else◌, ◌==◌, List, ◌++◌, codes}
use Rattle.std.specs.Fmt.{decimal}
use Rattle.std.specs.List.{flat_map, range_with_len}
use Rattle.btr_base.specs.Header.{header_of}
use Rattle.btr_base.specs.declared.header.Header.{Header}
use Rattle.btr_base.specs.declared.key.Key.{Key}
use Rattle.btr_base.specs.declared.kind.SumKind.{SumKind}
use Rattle.btr_node.specs.declared.pointer.Pointer.{Pointer}
use Rattle.btr_node.specs.Block.{KeyPointer, entry_count, level_of, item_at, pointer_at}
use Rattle.btr_text.specs.Pieces.{key_text}
use Rattle.btr_block_text.specs.Items.{item_text}

-- what the lines of leaves and nodes have in common
abbrev pub counts_text : Header → List ℕ
counts_text header =
    codes " items " ++ decimal header.items ++ codes " generation " ++ decimal header.generation
    ++ codes " owner " ++ decimal header.owner ++ codes "\n"

-- the line of a leaf at an address
abbrev pub leaf_line : ℕ → Header → List ℕ
leaf_line addr header = codes "leaf " ++ decimal addr ++ counts_text header

-- the line of an inner node at an address
abbrev pub node_line : ℕ → Header → List ℕ
node_line addr header = codes "node " ++ decimal addr ++ codes " level " ++ decimal header.level ++ counts_text header

-- the pointer with this key to a child
abbrev pub pointer_to : Key → Pointer → KeyPointer
pointer_to key child = record { key = key; addr = child.addr; generation = child.generation }

-- a pointer, behind a tab
unfoldable pub pointer_line : KeyPointer → List ℕ
pointer_line pointer =
    codes "\tkey " ++ key_text pointer.key ++ codes " block " ++ decimal pointer.addr
    ++ codes " gen " ++ decimal pointer.generation ++ codes "\n"

-- a leaf at an address
unfoldable pub leaf_text : SumKind → ℕ → List ℕ → List ℕ
leaf_text sums addr block =
    leaf_line addr (header_of sums block) ++ flat_map (λ i. item_text sums i (item_at block i)) (range_with_len 0 (entry_count block))

-- an inner node at an address
unfoldable pub node_text : SumKind → ℕ → List ℕ → List ℕ
node_text sums addr block =
    node_line addr (header_of sums block) ++ flat_map (λ i. pointer_line (pointer_at block i)) (range_with_len 0 (entry_count block))

-- a block at an address
unfoldable pub block_text : SumKind → ℕ → List ℕ → List ℕ
block_text sums addr block = if level_of block == 0 then leaf_text sums addr block else node_text sums addr block
