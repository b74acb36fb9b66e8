-- What uses extents: trees use their root blocks, inner nodes their children, and files their data.
use Rattle.std.specs.Prelude.{ℕ, ◌+◌, ◌-◌, ◌^◌, ◌%◌, ◌==◌, Bool, List, [], ◌∷◌, map, flat_map, Option, Some, None, Result, Ok, Err, if◌then◌else◌}
use Rattle.btr_base.specs.Field.{number_at}
use Rattle.btr_base.specs.declared.key.Key.{Key}
use Rattle.btr_findings.specs.declared.extent.Extent.{Extent}
use Rattle.btr_findings.specs.declared.finding.Finding.{Finding}
use Rattle.btr_items.specs.FileExtent.{file_extent_of}
use Rattle.btr_items.specs.Types.{extent_data}
use Rattle.btr_items.specs.declared.fault.ItemFault.{ItemFault}
use Rattle.btr_items.specs.declared.file_extent.FileExtent.{FileExtent}
use Rattle.btr_items.specs.declared.link.Link.{Link}
use Rattle.btr_items.specs.declared.link.Link.TheVariants.{Tree, SharedTree, File, SharedFile}
use Rattle.btr_items.specs.declared.shape.Shape.{Shape}
use Rattle.btr_items.specs.declared.shape.Shape.TheVariants.{Inline, Regular, Prealloc}
use Rattle.btr_node.specs.Block.{Item, KeyPointer}
use Rattle.btr_node.specs.Node.{node_of}
use Rattle.btr_node.specs.declared.node.Node.{Node}
use Rattle.btr_node.specs.declared.node.Node.TheVariants.{Leaf, Inner}
use Rattle.btr_volume.specs.declared.root.TreeRoot.{TreeRoot}
use Rattle.btr_refs.specs.declared.forward.Origin.{Origin}
use Rattle.btr_refs.specs.declared.used.Used.{Used}
use Rattle.btr_refs.specs.declared.used.Used.TheVariants.{TreeBlock, Data}
use Rattle.btr_refs.specs.Counts.{RefCounts, counted}
use Rattle.btr_refs.specs.Extents.{KeptExtents}
use Rattle.btr_refs.specs.Misusing.{misused_at, with_findings}
use Rattle.btr_refs.specs.declared.counted.Counted.{Counted}
use Rattle.btr_refs.specs.RefKey.{key_of}

-- one use of the extent at an address
pub record Use : Type 0 where
  pub addr : ℕ
  pub link : Link
  pub what : Used

-- a use as a tree block of a level
abbrev pub block_use : ℕ → Link → ℕ → Use
block_use addr link level = record { addr = addr; link = link; what = TreeBlock level }

-- a use as data of a length
abbrev pub data_use : ℕ → Link → ℕ → Use
data_use addr link len = record { addr = addr; link = link; what = Data len }

-- a tree refers to its root block by its id
abbrev pub root_use : TreeRoot → Use
root_use tree = block_use tree.place.addr (Tree tree.id) tree.place.level

-- a block's reference to a tree block: by the block's address, or by the tree that owns it
abbrev pub tree_link : Origin → Link
tree_link from = if from.by_address then SharedTree from.addr else Tree from.owner

-- a block's reference to data of a file: by the block's address, or by the tree that owns it, the inode and where the
-- extent begins
abbrev pub file_link : Origin → ℕ → ℕ → Link
file_link from objectid offset = if from.by_address then SharedFile from.addr else File from.owner objectid offset

-- where in the file an extent would begin of which a part stands at an offset, modulo 2^64
abbrev pub begin_of : ℕ → ℕ → ℕ
begin_of offset skip = (offset + (2 ^ 64 - skip)) % 2 ^ 64

-- a node uses its children
abbrev pub child_use : Origin → ℕ → KeyPointer → Use
child_use from level pointer = block_use pointer.addr (tree_link from) (level - 1)

-- a file uses data that has an address; else it is a hole
abbrev pub range_uses : Origin → Key → ℕ → ℕ → ℕ → List Use
range_uses from key addr disk_len skip =
    if addr == 0 then []
    else data_use addr (file_link from key.objectid (begin_of key.offset skip)) disk_len ∷ []

-- what a file uses by a part of this shape: an inline one is no extent
abbrev pub shape_uses : Origin → Key → Shape → List Use
shape_uses from key (Inline len) = []
shape_uses from key (Regular addr disk_len skip len) = range_uses from key addr disk_len skip
shape_uses from key (Prealloc addr disk_len skip len) = range_uses from key addr disk_len skip

-- what a file uses by an item, if it has its form
abbrev pub extent_uses : Origin → Key → Result FileExtent ItemFault → List Use
extent_uses from key (Ok extent) = shape_uses from key extent.shape
extent_uses from key (Err fault) = []

-- what an item of a leaf uses: only an EXTENT_DATA uses data
abbrev pub item_uses : Origin → Key → List ℕ → List Use
item_uses from key body = if key.kind == extent_data then extent_uses from key (file_extent_of key.offset body) else []

-- what the items of a leaf use
abbrev pub leaf_uses : Origin → List Item → List Use
leaf_uses from items = flat_map (λ (item : Item). item_uses from item.key item.body) items

-- what a node uses: its items' data, or its children
abbrev pub node_uses : Origin → ℕ → Option Node → List Use
node_uses from level None = []
node_uses from level (Some (Leaf items)) = leaf_uses from items
node_uses from level (Some (Inner pointers)) = map (child_use from level) pointers

-- a block's header names the tree that owns it
abbrev pub origin_of : Bool → ℕ → List ℕ → Origin
origin_of by_address addr block = record { addr = addr; owner = number_at 8 0x58 block; by_address = by_address }

-- what the block of a level at an address uses
abbrev pub block_uses : Bool → ℕ → ℕ → List ℕ → List Use
block_uses by_address addr level block = node_uses (origin_of by_address addr block) level (node_of block)

-- a use counts once
abbrev pub met : Use → Counted
met one = record { key = key_of one.addr one.link; count = 1 }

-- what is wrong with the extents that are stored, by a use
abbrev pub misused_by : KeptExtents → Use → List Finding
misused_by stored one = flat_map (misused_at stored.nodesize one.addr one.what) stored.extents

-- what is wrong with an extent, by all that uses it
abbrev pub extent_findings : ℕ → List Use → Extent → List Finding
extent_findings nodesize uses extent = flat_map (λ (one : Use). misused_at nodesize one.addr one.what extent) uses

-- what is kept of some uses: how often each reference is counted, and what is wrong with extents by them
pub record Uses : Type 0 where
  pub refs : RefCounts
  pub misused : List Finding

-- what is kept before the first use
abbrev pub no_uses : Uses
no_uses = record { refs = []; misused = [] }

-- what is kept with one more use, where these extents are stored
abbrev pub with_use : KeptExtents → Uses → Use → Uses
with_use stored uses one = record {
  refs = counted uses.refs (met one);
  misused = with_findings uses.misused (misused_by stored one);
}

-- what is kept while uses are counted: what is stored, and what is kept of the uses
pub record Tally : Type 0 where
  pub stored : KeptExtents
  pub uses : Uses

-- what is kept before the first use, where these extents and references are stored
abbrev pub nothing_counted : KeptExtents → Tally
nothing_counted stored = record { stored = stored; uses = no_uses }

-- what is kept with one more use
abbrev pub tally_with : Tally → Use → Tally
tally_with tally one = record { stored = tally.stored; uses = with_use tally.stored tally.uses one }
