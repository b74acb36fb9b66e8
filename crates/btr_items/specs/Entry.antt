-- DIR_ITEM, DIR_INDEX and XATTR_ITEM: entries of directories and extended attributes.
use Rattle.std.specs.Prelude.{ℕ, ◌+◌, ◌==◌, ◌&&◌, ◌||◌, Bool, nat_le, List, length, slice_index, Result, Ok, Err}
use Rattle.btr_base.specs.Field.{number_at}
use Rattle.btr_base.specs.Key.{key_at}
use Rattle.btr_items.specs.Form.{fields_if, is_name}
use Rattle.btr_items.specs.Parts.{parts_from}
use Rattle.btr_items.specs.Types.{inode_item, root_item}
use Rattle.btr_items.specs.declared.entry.Entry.{Entry}
use Rattle.btr_items.specs.declared.fault.ItemFault.{ItemFault}

-- the entry that begins at a place: 30 bytes, the name, and the data
abbrev pub entry_at : ℕ → List ℕ → Result Entry ItemFault
entry_at at body =
    let extra_len = number_at 2 (at + 25) body in
    let name_len = number_at 2 (at + 27) body in
    let end = at + 30 + name_len + extra_len in
    fields_if (nat_le (at + 30) (length body) && is_name name_len && nat_le end (length body)) (record {
      location = key_at at body;
      transid = number_at 8 (at + 17) body;
      kind = slice_index body (at + 29);
      extra_len = extra_len;
      name_at = at + 30;
      name_len = name_len;
      end = end;
    })

-- the entry of a DIR_INDEX of a size has kind 1 to 7 and no data, ends where the body ends, and leads to an
-- inode, or as a directory to a subvolume's root
abbrev pub is_index : Entry → ℕ → Bool
is_index entry size =
    nat_le 1 entry.kind && nat_le entry.kind 7 && (entry.extra_len == 0) && (entry.end == size)
    && ((entry.location.kind == inode_item) || ((entry.location.kind == root_item) && (entry.kind == 2)))

-- what was read, where a rule on it holds
abbrev pub index_entry : ℕ → Result Entry ItemFault → Result Entry ItemFault
index_entry size (Ok entry) = fields_if (is_index entry size) entry
index_entry size (Err fault) = Err fault

-- the one entry in the body of a DIR_INDEX
abbrev pub index_entry_of : List ℕ → Result Entry ItemFault
index_entry_of body = index_entry (length body) (entry_at 0 body)

-- the entries in a body
abbrev pub entries_of : List ℕ → List (Result Entry ItemFault)
entries_of body = parts_from entry_at (λ part. part.end) 0 body
