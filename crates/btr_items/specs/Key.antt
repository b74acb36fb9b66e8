-- The rules on keys.
use Rattle.std.specs.Prelude.{ℕ, ◌-◌, ◌^◌, ◌%◌, ◌==◌, ◌&&◌, ◌||◌, Bool, true, if◌then◌else◌, nat_le}
use Rattle.btr_base.specs.declared.key.Key.{Key}
use Rattle.btr_items.specs.Types.{inode_item, orphan_item, extent_data, extent_csum, extent_item, metadata_item, tree_block_ref, extent_data_ref}
use Rattle.btr_items.specs.Types.{shared_block_ref, shared_data_ref, dev_item}

-- addresses and lengths are whole sectors, of 4096 bytes
abbrev pub is_aligned : ℕ → Bool
is_aligned n = n % 4096 == 0

-- a key keeps the rules of its type
abbrev pub key_fits : Key → Bool
key_fits key =
    if key.kind == inode_item then key.offset == 0
    else if key.kind == orphan_item then key.objectid == 2 ^ 64 - 5
    else if key.kind == extent_data then is_aligned key.offset
    else if key.kind == extent_csum then (key.objectid == 2 ^ 64 - 10) && is_aligned key.offset
    else if key.kind == extent_item then is_aligned key.objectid && is_aligned key.offset
    else if key.kind == metadata_item then is_aligned key.objectid && nat_le key.offset 7
    else if ((key.kind == tree_block_ref) || (key.kind == extent_data_ref))
    || ((key.kind == shared_block_ref) || (key.kind == shared_data_ref)) then is_aligned key.objectid
    else if key.kind == dev_item then key.objectid == 1
    else true
