-- What refers to the extent by which a file has a byte.
use Rattle.std.specs.Prelude.{◌≡◌, ℕ, Bool, List, Some, Ok, All, Contains}
use Rattle.btr_items.specs.FileExtent.{file_extent_of}
use Rattle.btr_items.specs.declared.file_extent.FileExtent.{FileExtent}
use Rattle.btr_prog.specs.Prog.{steps}
use Rattle.btr_refs.specs.Forward.{Use, begin_of, block_uses, data_use, file_link, origin_of}
use Rattle.btr_tour.specs.Tour.{Reached, blocks_met, items_met, whole}
use Rattle.btr_volume.specs.declared.root.TreeRoot.{TreeRoot}
use Rattle.btr_walk.specs.Le.{TreeItem}
use Rattle.btr_walk.specs.Reading.{Map}
use Rattle.btr_resolve.specs.Owning.{on_disk, owners, position_in}
use Rattle.btr_resolve.specs.declared.extent.DiskExtent.{DiskExtent}
use Rattle.btr_resolve.specs.declared.owner.Owner.{Owner}

-- A file has the byte at an address by an item of its tree, which has this extent on the disk.
pub record HasBy (addr : ℕ) (item : TreeItem) (extent : DiskExtent) (owner : Owner) : Type 0 where
  pub fields : FileExtent
  pub formed : file_extent_of item.key.offset item.body ≡ Ok fields
  pub placed : on_disk fields.shape ≡ Some extent
  pub inode : owner.inode ≡ item.key.objectid
  pub position : position_in addr item.key.offset fields ≡ Some owner.position

-- what a block uses, which refers by its address or by its owner
abbrev pub uses_of : (ℕ → Bool) → Reached → List Use
uses_of by_address from = block_uses (by_address from.place.addr) from.place.addr from.place.level from.block

-- The use of the extent of an item by its leaf: as data of all its bytes on the disk. The link is of
-- the kind File, by the leaf's owner, the inode and where in the file the extent would begin; or of
-- the kind SharedFile, by the leaf's address.
abbrev pub use_by : (ℕ → Bool) → Reached → TreeItem → DiskExtent → Use
use_by by_address leaf item extent =
    data_use extent.addr
    (file_link (origin_of (by_address leaf.place.addr) leaf.place.addr leaf.block) item.key.objectid (begin_of item.key.offset extent.skip)) extent.disk_len

-- An owner of an address is linked: among some uses is that of the extent of the item by which
-- the file has the byte, by a leaf of the tree.
pub record IsLinked (B : Map) (tree : TreeRoot) (by_address : ℕ → Bool) (addr : ℕ) (uses : List Use) (owner : Owner) : Type 0 where
  pub tree_is : owner.tree ≡ tree
  pub leaf : Reached
  pub reached : Contains (blocks_met (whole B tree.place)) leaf
  pub item : TreeItem
  pub met : Contains (items_met (whole B tree.place)) item
  pub stands : item.leaf ≡ leaf.place.addr
  pub extent : DiskExtent
  pub has : HasBy addr item extent owner
  pub link : Contains uses (use_by by_address leaf item extent)

-- some uses have those of a block
abbrev pub HasUsesOf : (ℕ → Bool) → List Use → Reached → Type 0
HasUsesOf by_address uses from = All (Contains uses) (uses_of by_address from)

-- Where some uses have those of all blocks of a tree, whichever of these refer by their address, each owner of an
-- address in the tree is linked, also those that are told before a block that is broken.
abbrev pub OwnersLinked : Type 0
OwnersLinked =
    (B : Map) (tree : TreeRoot) (by_address : ℕ → Bool) (addr : ℕ) (uses : List Use)
    → All (HasUsesOf by_address uses) (blocks_met (whole B tree.place)) → All (IsLinked B tree by_address addr uses) (steps B (owners addr tree))
