-- The checked blocks of a filesystem and the sectors without a checksum, as a program over wants whose steps they are.
use Rattle.std.specs.Prelude.{ℕ, zero, suc, ◌+◌, ◌-◌, ◌/◌, ◌==◌, ◌&&◌, ◌||◌, not, Bool, is_some, nat_lt, List, [], ◌∷◌, Option, Some, None, Result}
use Rattle.std.specs.Prelude.{Ok, Err, if◌then◌else◌}
use Rattle.btr_base.specs.declared.key.Key.{Key}
use Rattle.btr_base.specs.declared.stored.Sum.{Sum}
use Rattle.btr_chunk.specs.Mapping.{crosses}
use Rattle.btr_chunk.specs.declared.chunk.Chunk.{Chunk}
use Rattle.btr_prog.specs.Prog.{Return, Stop, Emit, bind}
use Rattle.btr_read.specs.Fate.{Malformed, Crosses, NoTree}
use Rattle.btr_read.specs.declared.want.Want.{Want}
use Rattle.btr_read.specs.declared.want.Want.TheVariants.{Tree, Sector}
use Rattle.btr_items.specs.ExtentItem.{extent_item_of}
use Rattle.btr_items.specs.Item.{item_fits}
use Rattle.btr_items.specs.Types.{extent_item, metadata_item}
use Rattle.btr_items.specs.declared.extent_item.ExtentItem.{ExtentItem}
use Rattle.btr_items.specs.declared.fault.ItemFault.{ItemFault}
use Rattle.btr_super.specs.declared.superblock.Super.{Super}
use Rattle.btr_walk.specs.Le.{TreeItem}
use Rattle.btr_walk.specs.Range.{RangeProg, range}
use Rattle.btr_volume.specs.Lookup.{Program, each, looks}
use Rattle.btr_volume.specs.Tree.{key, last, tree_of}
use Rattle.btr_volume.specs.declared.root.TreeRoot.{TreeRoot}
use Rattle.btr_files.specs.Sums.{kind_in, sum_at}
use Rattle.btr_scrub.specs.Filesystem.{Filesystem}
use Rattle.btr_scrub.specs.declared.extent.Extent.{Extent}

-- what scrub meets: a checked block, or a sector of data that has no checksum
pub data Met : Type 0 where
  Checked : Want → Met
  Unchecked : ℕ → Met

-- a program that meets blocks and sectors, one step for each
abbrev pub Meeting : Type 0 → Type 0
Meeting A = Program Met A

-- a key is of an extent
abbrev pub is_extent : Key → Bool
is_extent key = (key.kind == extent_item) || (key.kind == metadata_item)

-- the extent of an item; a METADATA_ITEM's is as long as a node, and has its level in the key
abbrev pub stated_extent : ℕ → Key → ExtentItem → Extent
stated_extent nodesize key item =
    if key.kind == metadata_item
    then record { addr = key.objectid; len = nodesize; generation = item.generation; level = Some key.offset }
    else record { addr = key.objectid; len = key.offset; generation = item.generation; level = item.level }

-- the extent of an item, if it has its form
abbrev pub if_stated : ℕ → Key → Result ExtentItem ItemFault → Option Extent
if_stated nodesize key (Ok item) = Some (stated_extent nodesize key item)
if_stated nodesize key (Err fault) = None

-- the same, where the item has its form
abbrev pub extent_of : Super → TreeItem → Option Extent
extent_of s item = if item_fits (kind_in s) item.key item.body then if_stated s.nodesize item.key (extent_item_of item.key.kind item.body) else None

-- it overlaps the one before, which ends at `end`, or is a tree block that isn't as long as a node
abbrev pub is_malformed : Super → ℕ → Extent → Bool
is_malformed s end extent = nat_lt extent.addr end || is_some extent.level && not (extent.len == s.nodesize)

-- it passes its chunk's end, or is a tree block that crosses an element
abbrev pub is_crossing : Chunk → Extent → Bool
is_crossing chunk extent = nat_lt (chunk.start + chunk.length) (extent.addr + extent.len) || is_some extent.level && crosses chunk extent.addr extent.len

-- a sector of data, by its checksum, if it has one
abbrev pub sector_met : ℕ → Option Sum → Met
sector_met addr None = Unchecked addr
sector_met addr (Some sum) = Checked (Sector addr sum)

module _ (s : Super) (sums : Option TreeRoot) where
  -- the sector at an address, with its checksum, if it has one
  abbrev pub sector : ℕ → Meeting (Unit {0})
  sector addr = looks (sum_at (kind_in s) sums addr) (λ sum. Emit (sector_met addr sum) (Return tt))

  -- n sectors from an address on
  abbrev pub sectors : ℕ → ℕ → Meeting (Unit {0})
  sectors zero addr = Return tt
  sectors (suc n) addr = bind (sector addr) (λ _. sectors n (addr + 4096))

  -- the blocks of an extent: a tree block, or the sectors of data
  abbrev pub blocks_of : Extent → Option ℕ → Meeting (Unit {0})
  blocks_of extent (Some level) = Emit (Checked (Tree extent.addr extent.generation level)) (Return tt)
  blocks_of extent None = sectors (extent.len / 4096) extent.addr

  module _ (chunk : Chunk) where
    -- an extent, behind one that ends at `end`; where it ends itself comes out
    abbrev pub extent_met : ℕ → ℕ → Option Extent → Meeting ℕ
    extent_met end leaf None = Stop (Malformed leaf)
    extent_met end leaf (Some extent) =
        if is_malformed s end extent then Stop (Malformed leaf)
        else if is_crossing chunk extent then Stop (Crosses extent.addr)
        else bind (blocks_of extent extent.level) (λ _. Return (extent.addr + extent.len))

    -- an item of the extent tree; those that are no extents are passed over
    abbrev pub item_met : ℕ → TreeItem → Meeting ℕ
    item_met end item = if is_extent item.key then extent_met end item.leaf (extent_of s item) else Return end

    -- the extents among some items, each treated wholly before the next block is wanted
    abbrev pub items_met : ℕ → RangeProg → Meeting ℕ
    items_met end items = each item_met end items

    -- the extents that begin in a chunk, each treated wholly before the next block is wanted
    abbrev pub in_chunk : TreeRoot → Meeting ℕ
    in_chunk extents = items_met 0 (range (key chunk.start 0 0) (key (chunk.start + chunk.length - 1) 255 last) extents.place)

  -- the chunks one after another
  abbrev pub in_chunks : TreeRoot → List Chunk → Meeting (Unit {0})
  in_chunks extents [] = Return tt
  in_chunks extents (chunk ∷ chunks) = bind (in_chunk chunk extents) (λ _. in_chunks extents chunks)

-- the extent tree has to be there; the checksum tree is looked up behind it, and may be missing
abbrev pub with_extents : Super → List Chunk → Option TreeRoot → Meeting (Unit {0})
with_extents s chunks None = Stop (NoTree 2)
with_extents s chunks (Some extents) = looks (tree_of s 7) (λ sums. in_chunks s sums extents chunks)

-- the checked blocks of a filesystem: the extent tree is looked up first
abbrev pub units_in : Super → List Chunk → Meeting (Unit {0})
units_in s chunks = looks (tree_of s 2) (with_extents s chunks)

-- the checked blocks in the order of chunks and addresses, and between them the sectors without a checksum
abbrev pub units : Filesystem → Meeting (Unit {0})
units fs = units_in fs.sup fs.layout.chunks
