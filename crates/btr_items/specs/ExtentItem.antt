-- EXTENT_ITEM and METADATA_ITEM: an extent.
use Rattle.std.specs.Prelude.{ℕ, ◌==◌, ◌&&◌, ◌||◌, not, Bool, if◌then◌else◌, nat_le, List, length, slice_index, Option, Some, None, Result, bit_and}
use Rattle.btr_base.specs.Field.{number_at}
use Rattle.btr_base.specs.Key.{key_at}
use Rattle.btr_base.specs.declared.key.Key.{Key}
use Rattle.btr_items.specs.Form.{fields_if}
use Rattle.btr_items.specs.Types.{extent_item, metadata_item}
use Rattle.btr_items.specs.declared.extent_item.ExtentItem.{ExtentItem}
use Rattle.btr_items.specs.declared.fault.ItemFault.{ItemFault}

-- the flags say that an extent is of data
abbrev pub is_data : ℕ → Bool
is_data flags = not (bit_and flags 1 == 0)

-- the flags say that an extent is a tree block
abbrev pub is_tree_block : ℕ → Bool
is_tree_block flags = not (bit_and flags 2 == 0)

-- an extent is either data or a tree block, and a METADATA_ITEM's is a tree block
abbrev pub flags_fit : ℕ → ℕ → Bool
flags_fit kind flags =
    if is_tree_block flags then not (is_data flags) && ((kind == extent_item) || (kind == metadata_item))
    else is_data flags && (kind == extent_item)

-- where the inline references begin: an EXTENT_ITEM of a tree block has a key
-- and a level, of 18 bytes, in front of them
abbrev pub first_place : ℕ → ℕ → ℕ
first_place kind flags = if (kind == extent_item) && is_tree_block flags then 42 else 24

-- that level
abbrev pub level_of : ℕ → List ℕ → Option ℕ
level_of first body = if first == 42 then Some (slice_index body 41) else None

-- the first key of that block
abbrev pub block_key : ℕ → List ℕ → Option Key
block_key first body = if first == 42 then Some (key_at 24 body) else None

-- the extent in the front of a body
abbrev pub extent_item_of : ℕ → List ℕ → Result ExtentItem ItemFault
extent_item_of kind body =
    let flags = number_at 8 16 body in
    let first = first_place kind flags in
    fields_if (nat_le 24 (length body) && flags_fit kind flags && nat_le first (length body)) (record {
      refs = number_at 8 0 body;
      generation = number_at 8 8 body;
      flags = flags;
      level = level_of first body;
      first = first;
    })
