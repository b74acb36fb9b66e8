-- What is checked, and the parts of it that the rules speak of.
use Rattle.std.specs.Prelude.{ℕ, ◌-◌, ◌^◌, ◌==◌, ◌&&◌, ◌||◌, Bool, true, nat_le, List, unwrap_or, drop, filter, zip, is_ok, if◌then◌else◌}
use Rattle.btr_base.specs.declared.key.Key.{Key}
use Rattle.btr_base.specs.declared.kind.SumKind.{SumKind}
use Rattle.btr_base.specs.declared.kind.SumKind.TheVariants.{Crc32c}
use Rattle.btr_base.specs.Sum.{kind_of_type}
use Rattle.btr_chunk.specs.Item.{chunk_of}
use Rattle.btr_chunk.specs.declared.chunk.Chunk.{Chunk}
use Rattle.btr_items.specs.Item.{item_fits}
use Rattle.btr_items.specs.Types.{chunk_item}
use Rattle.btr_super.specs.declared.superblock.Super.{Super}
use Rattle.btr_walk.specs.Le.{TreeItem}
use Rattle.btr_walk.specs.Reading.{Map}
use Rattle.btr_volume.specs.declared.root.TreeRoot.{TreeRoot}
use Rattle.btr_check.specs.Trees.{listed, items_of, root_tree, chunk_tree, items_in}
use Rattle.btr_findings.specs.declared.extent.Extent.{Extent}
use Rattle.btr_refs.specs.Extents.{extents_in}

-- a filesystem: the chosen superblock, the chunks, and what becomes of each want
pub record Filesystem : Type 0 where
  pub sup : Super
  pub chunks : List Chunk
  pub blocks : Map

-- the kind of a filesystem's checksums
abbrev pub kind_in : Super → SumKind
kind_in sup = unwrap_or (kind_of_type sup.csum_type) Crc32c

-- an item has its form; a CHUNK_ITEM describes a chunk that starts at its key's offset
abbrev pub has_form : SumKind → Key → List ℕ → Bool
has_form kind key body = item_fits kind key body && (if key.kind == chunk_item then is_ok (chunk_of key.offset body) else true)

-- the id of a tree of files: of the first one, or of a subvolume
abbrev pub is_file_tree : ℕ → Bool
is_file_tree id = (id == 5) || (nat_le 256 id && nat_le id (2 ^ 64 - 256))

-- each element of a list and the one behind it
abbrev pub neighbours : {X : Type 0} → List X → List (X × X)
neighbours list = zip list (drop 1 list)

module _ (fs : Filesystem) where
  -- the kind of the checksums of a filesystem
  abbrev pub kind_of_sums : SumKind
  kind_of_sums = kind_in fs.sup

  -- the items of the root tree
  abbrev pub root_items : List TreeItem
  root_items = items_in fs.blocks (root_tree fs.sup)

  -- the items of the chunk tree
  abbrev pub chunk_items : List TreeItem
  chunk_items = items_in fs.blocks (chunk_tree fs.sup)

  -- the items of the tree of an id
  abbrev pub tree_items : ℕ → List TreeItem
  tree_items id = items_of fs.sup fs.blocks id

  -- the extents of the extent tree
  abbrev pub extents : List Extent
  extents = extents_in fs.sup.nodesize (tree_items 2)

  -- the trees of files
  abbrev pub file_trees : List TreeRoot
  file_trees = filter (λ tree. is_file_tree tree.id) (listed fs.sup fs.blocks)
