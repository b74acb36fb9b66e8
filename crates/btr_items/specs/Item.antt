-- When an item has its form.
use Rattle.std.specs.Prelude.{ℕ, ◌==◌, ◌&&◌, ◌||◌, Bool, true, false, if◌then◌else◌, nat_lt, List, length, Result, Ok, Err, is_ok}
use Rattle.std.specs.List.{list_all}
use Rattle.btr_base.specs.declared.key.Key.{Key}
use Rattle.btr_base.specs.declared.kind.SumKind.{SumKind}
use Rattle.btr_items.specs.BlockGroup.{block_group_of}
use Rattle.btr_items.specs.ChunkItem.{has_chunk_size}
use Rattle.btr_items.specs.DevExtent.{dev_extent_of}
use Rattle.btr_items.specs.DevItem.{dev_item_of}
use Rattle.btr_items.specs.Entry.{entries_of, index_entry_of}
use Rattle.btr_items.specs.ExtRef.{ext_refs_of}
use Rattle.btr_items.specs.ExtentItem.{extent_item_of}
use Rattle.btr_items.specs.FileExtent.{file_extent_of}
use Rattle.btr_items.specs.InlineRef.{inline_refs_of}
use Rattle.btr_items.specs.Inode.{inode_of}
use Rattle.btr_items.specs.InodeRef.{inode_refs_of}
use Rattle.btr_items.specs.Key.{key_fits}
use Rattle.btr_items.specs.LooseRef.{loose_ref_of}
use Rattle.btr_items.specs.RootItem.{root_item_of}
use Rattle.btr_items.specs.RootRef.{root_ref_of}
use Rattle.btr_items.specs.SumRun.{sum_run_of}
use Rattle.btr_items.specs.Types.{inode_item, inode_ref, inode_extref, xattr_item, orphan_item, dir_item, dir_index, extent_data, extent_csum}
use Rattle.btr_items.specs.Types.{root_item, root_backref, root_ref, extent_item, metadata_item, tree_block_ref, extent_data_ref, shared_block_ref}
use Rattle.btr_items.specs.Types.{shared_data_ref, block_group_item, dev_extent, dev_item, chunk_item}
use Rattle.btr_items.specs.declared.extent_item.ExtentItem.{ExtentItem}
use Rattle.btr_items.specs.declared.fault.ItemFault.{ItemFault}
use Rattle.btr_items.specs.declared.form.Form.{Form}
use Rattle.btr_items.specs.declared.form.Form.TheVariants.{Inode, InodeRefs, ExtRefs, Entries, IndexEntry, Empty, FileExtent, Sums, Root, RootRef}
use Rattle.btr_items.specs.declared.form.Form.TheVariants.{Extent, LooseRef, BlockGroup, DevExtent, DevItem, Chunk, Other}

-- one or more parts, from the first byte to the last
abbrev pub are_some : {T : Type 0} → List ℕ → List (Result T ItemFault) → Bool
are_some body parts = nat_lt 0 (length body) && list_all is_ok parts

-- the inline references behind an extent
abbrev pub references_fit : List ℕ → Result ExtentItem ItemFault → Bool
references_fit body (Ok extent) = list_all is_ok (inline_refs_of extent.first body)
references_fit body (Err fault) = false

-- an extent and its inline references, if there are any
abbrev pub extent_fits : ℕ → List ℕ → Bool
extent_fits kind body = references_fit body (extent_item_of kind body)

-- what the body of an item is, by the item's type
abbrev pub form_of : ℕ → Form
form_of kind =
    if kind == inode_item then Inode
    else if kind == inode_ref then InodeRefs
    else if kind == inode_extref then ExtRefs
    else if (kind == xattr_item) || (kind == dir_item) then Entries
    else if kind == dir_index then IndexEntry
    else if kind == orphan_item then Empty
    else if kind == extent_data then FileExtent
    else if kind == extent_csum then Sums
    else if kind == root_item then Root
    else if (kind == root_backref) || (kind == root_ref) then RootRef
    else if (kind == extent_item) || (kind == metadata_item) then Extent
    else if ((kind == tree_block_ref) || (kind == extent_data_ref)) || ((kind == shared_block_ref) || (kind == shared_data_ref)) then LooseRef
    else if kind == block_group_item then BlockGroup
    else if kind == dev_extent then DevExtent
    else if kind == dev_item then DevItem
    else if kind == chunk_item then Chunk
    else Other

-- a body has a form; the others have no rule here
abbrev pub body_fits : Form → SumKind → Key → List ℕ → Bool
body_fits Inode sums key body = is_ok (inode_of body)
body_fits InodeRefs sums key body = are_some body (inode_refs_of body)
body_fits ExtRefs sums key body = are_some body (ext_refs_of body)
body_fits Entries sums key body = are_some body (entries_of body)
body_fits IndexEntry sums key body = is_ok (index_entry_of body)
body_fits Empty sums key body = length body == 0
body_fits FileExtent sums key body = is_ok (file_extent_of key.offset body)
body_fits Sums sums key body = is_ok (sum_run_of sums key body)
body_fits Root sums key body = is_ok (root_item_of body)
body_fits RootRef sums key body = is_ok (root_ref_of body)
body_fits Extent sums key body = extent_fits key.kind body
body_fits LooseRef sums key body = is_ok (loose_ref_of key body)
body_fits BlockGroup sums key body = is_ok (block_group_of body)
body_fits DevExtent sums key body = is_ok (dev_extent_of body)
body_fits DevItem sums key body = is_ok (dev_item_of body)
body_fits Chunk sums key body = has_chunk_size body
body_fits Other sums key body = true

-- an item has its form: its key keeps the rules of its type, and its body has the form
abbrev pub item_fits : SumKind → Key → List ℕ → Bool
item_fits sums key body = key_fits key && body_fits (form_of key.kind) sums key body
