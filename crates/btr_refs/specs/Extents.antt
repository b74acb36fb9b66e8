-- The extents of the extent tree, and the references to them that it stores.
use Rattle.std.specs.Prelude.{◌≡◌, ℕ, ◌==◌, ◌||◌, Bool, true, List, [], ◌++◌, map, fold, Some, Result, Ok, Err, filter_map, flat_map, option_map}
use Rattle.std.specs.Prelude.{option_to_list, if◌then◌else◌}
use Rattle.std.specs.List.{list_all}
use Rattle.std.specs.Result.{result_ok}
use Rattle.btr_base.specs.declared.key.Key.{Key}
use Rattle.btr_items.specs.ExtentItem.{extent_item_of}
use Rattle.btr_items.specs.InlineRef.{inline_refs_of}
use Rattle.btr_items.specs.Key.{key_fits}
use Rattle.btr_items.specs.LooseRef.{loose_ref_of}
use Rattle.btr_items.specs.Types.{extent_item, metadata_item, tree_block_ref, extent_data_ref, shared_block_ref, shared_data_ref}
use Rattle.btr_items.specs.declared.extent_item.ExtentItem.{ExtentItem}
use Rattle.btr_items.specs.declared.fault.ItemFault.{ItemFault}
use Rattle.btr_items.specs.declared.inline_ref.InlineRef.{InlineRef}
use Rattle.btr_items.specs.declared.loose_ref.LooseRef.{LooseRef}
use Rattle.btr_tour.specs.Tour.{Mark, Block, Child, Item, Left, items_met}
use Rattle.btr_walk.specs.Le.{TreeItem}
use Rattle.btr_findings.specs.declared.extent.Extent.{Extent}
use Rattle.btr_refs.specs.Counts.{RefCounts, counted_all}
use Rattle.btr_refs.specs.declared.counted.Counted.{Counted}
use Rattle.btr_refs.specs.RefKey.{key_of}

-- a kind of item is an extent's
abbrev pub is_extent : ℕ → Bool
is_extent kind = (kind == extent_item) || (kind == metadata_item)

-- a kind of item is a reference's that has an item of its own
abbrev pub is_loose : ℕ → Bool
is_loose kind = ((kind == tree_block_ref) || (kind == extent_data_ref)) || ((kind == shared_block_ref) || (kind == shared_data_ref))

-- an EXTENT_ITEM's key has the length; a METADATA_ITEM's has the level of a block that is as long as a node
abbrev pub extent_with : ℕ → Key → ExtentItem → Extent
extent_with nodesize key extent = record {
  addr = key.objectid;
  len = if key.kind == extent_item then key.offset else nodesize;
  refs = extent.refs;
  flags = extent.flags;
  level = if key.kind == metadata_item then Some key.offset else extent.level;
}

-- the extent of an item, if it has the form of one
abbrev pub extent_of : ℕ → Key → List ℕ → List Extent
extent_of nodesize key body = option_to_list (option_map (extent_with nodesize key) (result_ok (extent_item_of key.kind body)))

-- the extent that an item is, if it is one
abbrev pub extent_in : ℕ → Key → List ℕ → List Extent
extent_in nodesize key body = if is_extent key.kind then extent_of nodesize key body else []

-- a reference in an extent's item, with its count
abbrev pub inline_ref : ℕ → InlineRef → Counted
inline_ref addr part = record { key = key_of addr part.link; count = part.count }

-- the references in those parts of an extent's item that are formed
abbrev pub parts_counted : ℕ → List (Result InlineRef ItemFault) → List Counted
parts_counted addr parts = map (inline_ref addr) (filter_map result_ok parts)

-- the references in an extent's item, if it is formed
abbrev pub inline_refs : ℕ → List ℕ → Result ExtentItem ItemFault → List Counted
inline_refs addr body (Ok extent) = parts_counted addr (inline_refs_of extent.first body)
inline_refs addr body (Err fault) = []

-- a reference in an item of its own, with its count
abbrev pub loose_ref : ℕ → LooseRef → Counted
loose_ref addr part = record { key = key_of addr part.link; count = part.count }

-- the reference in an item of its own, if it is formed
abbrev pub loose_refs : Key → List ℕ → List Counted
loose_refs key body = map (loose_ref key.objectid) (option_to_list (result_ok (loose_ref_of key body)))

-- the references that an item stores
abbrev pub refs_in : Key → List ℕ → List Counted
refs_in key body =
    if is_extent key.kind then inline_refs key.objectid body (extent_item_of key.kind body)
    else if is_loose key.kind then loose_refs key body
    else []

-- the extents among the items of the extent tree, in the order of their keys
abbrev pub extents_in : ℕ → List TreeItem → List Extent
extents_in nodesize items = flat_map (λ (item : TreeItem). extent_in nodesize item.key item.body) items

-- the references among the items of the extent tree, in the order of their keys
abbrev pub stored_in : List TreeItem → List Counted
stored_in items = flat_map (λ (item : TreeItem). refs_in item.key item.body) items

-- what is kept of some items: how long a node is, how often each reference is stored, and the extents
pub record KeptExtents : Type 0 where
  pub nodesize : ℕ
  pub refs : RefCounts
  pub extents : List Extent

-- what is kept before the first item
abbrev pub nothing_kept : ℕ → KeptExtents
nothing_kept nodesize = record { nodesize = nodesize; refs = []; extents = [] }

-- what is kept with what one more item says
abbrev pub kept_with : KeptExtents → TreeItem → KeptExtents
kept_with kept item = record {
  nodesize = kept.nodesize;
  refs = counted_all kept.refs (refs_in item.key item.body);
  extents = kept.extents ++ extent_in kept.nodesize item.key item.body;
}

-- what is kept with one more mark of a tour: an item alone says something, and none whose key breaks the rules of its type
abbrev pub stored_step : KeptExtents → Mark → KeptExtents
stored_step kept (Block place block) = kept
stored_step kept (Child addr place) = kept
stored_step kept (Item item) = if key_fits item.key then kept_with kept item else kept
stored_step kept (Left fault) = kept

-- what some items say
abbrev pub stored_of : ℕ → List TreeItem → KeptExtents
stored_of nodesize items = record { nodesize = nodesize; refs = counted_all [] (stored_in items); extents = extents_in nodesize items }

-- where the keys of all items keep the rules of their types, what is kept is what they say
abbrev pub StoredLaw : Type 0
StoredLaw = (nodesize : ℕ) (marks : List Mark) → list_all (λ (item : TreeItem). key_fits item.key) (items_met marks) ≡ true
    → fold stored_step (nothing_kept nodesize) marks ≡ stored_of nodesize (items_met marks)
