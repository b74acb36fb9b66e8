-- What one item of a tree of files says of names.
use Rattle.std.specs.Prelude.{ℕ, ◌==◌, List, [], ◌∷◌, map, filter_map, Result, if◌then◌else◌}
use Rattle.std.specs.Result.{result_ok}
use Rattle.btr_base.specs.Field.{bytes_at}
use Rattle.btr_base.specs.declared.key.Key.{Key}
use Rattle.btr_items.specs.Entry.{entries_of, index_entry_of}
use Rattle.btr_items.specs.ExtRef.{ext_refs_of}
use Rattle.btr_items.specs.Inode.{inode_of}
use Rattle.btr_items.specs.InodeRef.{inode_refs_of}
use Rattle.btr_items.specs.declared.entry.Entry.{Entry as Fields}
use Rattle.btr_items.specs.declared.ext_ref.ExtRef.{ExtRef}
use Rattle.btr_items.specs.declared.fault.ItemFault.{ItemFault}
use Rattle.btr_items.specs.declared.inode.Inode.{Inode}
use Rattle.btr_items.specs.declared.inode_ref.InodeRef.{InodeRef}
use Rattle.btr_items.specs.Types.{inode_item, inode_ref, inode_extref, orphan_item, dir_item, dir_index}
use Rattle.btr_check_names.specs.declared.inode_at.InodeAt.{InodeAt}
use Rattle.btr_check_names.specs.Entry.{Entry, NameRef}

-- what was read in a body, without what is broken
abbrev pub all_read : {T : Type 0} → List (Result T ItemFault) → List T
all_read parts = filter_map result_ok parts

module _ (key : Key) (body : List ℕ) where
  -- an entry in an item of a directory
  abbrev pub entry_with : Fields → Entry
  entry_with fields = record {
    dir = key.objectid;
    offset = key.offset;
    location = fields.location;
    kind = fields.kind;
    name = bytes_at fields.name_len fields.name_at body;
  }

  -- the entries in those parts of an item that are formed
  abbrev pub entries_read : List (Result Fields ItemFault) → List Entry
  entries_read parts = map entry_with (all_read parts)

  -- the entry in a DIR_INDEX
  abbrev pub indexed_in : List Entry
  indexed_in = if key.kind == dir_index then entries_read (index_entry_of body ∷ []) else []

  -- the entries in a DIR_ITEM
  abbrev pub hashed_in : List Entry
  hashed_in = if key.kind == dir_item then entries_read (entries_of body) else []

  -- a reference in an INODE_REF, whose key has the directory
  abbrev pub ref_with : InodeRef → NameRef
  ref_with fields = record { inode = key.objectid; parent = key.offset; index = fields.index; name = bytes_at fields.name_len fields.name_at body }

  -- a reference in an INODE_EXTREF
  abbrev pub ext_ref_with : ExtRef → NameRef
  ext_ref_with fields = record { inode = key.objectid; parent = fields.parent; index = fields.index; name = bytes_at fields.name_len fields.name_at body }

  -- the references in those parts of an INODE_REF that are formed
  abbrev pub refs_read : List (Result InodeRef ItemFault) → List NameRef
  refs_read parts = map ref_with (all_read parts)

  -- the references in those parts of an INODE_EXTREF that are formed
  abbrev pub ext_refs_read : List (Result ExtRef ItemFault) → List NameRef
  ext_refs_read parts = map ext_ref_with (all_read parts)

  -- the references of an inode
  abbrev pub refs_in : List NameRef
  refs_in =
      if key.kind == inode_ref then refs_read (inode_refs_of body)
      else if key.kind == inode_extref then ext_refs_read (ext_refs_of body)
      else []

  -- the inode of an INODE_ITEM
  abbrev pub inode_with : Inode → InodeAt
  inode_with inode = record { number = key.objectid; inode = inode }

  -- the inode of an item, if it is formed
  abbrev pub inodes_read : List (Result Inode ItemFault) → List InodeAt
  inodes_read parts = map inode_with (all_read parts)

  -- the inode in an item, if it is an INODE_ITEM
  abbrev pub inodes_in : List InodeAt
  inodes_in = if key.kind == inode_item then inodes_read (inode_of body ∷ []) else []

-- the number of an inode that is kept although no name leads to it
abbrev pub orphans_in : Key → List ℕ
orphans_in key = if key.kind == orphan_item then key.offset ∷ [] else []
