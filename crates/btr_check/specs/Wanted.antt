-- Which blocks a check wants.
use Rattle.std.specs.Prelude.{◌≡◌, ◌⊎◌, ℕ, Bool, true, List, [], ◌∷◌, Option}
use Rattle.std.specs.List.{Contains}
use Rattle.btr_check_sums.specs.Sums.{summed}
use Rattle.btr_files.specs.Aheads.{IsSummed}
use Rattle.btr_files.specs.declared.sums_ahead.SumsAhead.{SumsAhead}
use Rattle.btr_items.specs.declared.sum_run.SumRun.{SumRun}
use Rattle.btr_prog.specs.Prog.{needs}
use Rattle.btr_read.specs.declared.want.Want.{Want}
use Rattle.btr_read.specs.declared.want.Want.TheVariants.{Tree}
use Rattle.btr_base.specs.Key.{last_key}
use Rattle.btr_tour.specs.Tour.{Mark, Block, Child, Item, Left, first_key, tour_at}
use Rattle.btr_volume.specs.declared.root.TreeRoot.{TreeRoot}
use Rattle.btr_walk.specs.Le.{root_pointer, want_of}
use Rattle.btr_walk.specs.Reading.{Map}
use Rattle.btr_walk.specs.declared.place.RootPlace.{RootPlace}
use Rattle.btr_walk.specs.declared.block_pointer.BlockPointer.{BlockPointer}
use Rattle.btr_check.specs.Data.{sector_bytes, sum_runs}
use Rattle.btr_check.specs.Filesystem.{Filesystem, kind_of_sums}
use Rattle.btr_check.specs.Trees.{tree_of, trees}

-- the want of the block that stands at a place
abbrev pub want_at : RootPlace → Want
want_at place = Tree place.addr place.generation place.level

-- the blocks that a tour meets, and those that pointers name in it
abbrev pub wants_met : List Mark → List Want
wants_met [] = []
wants_met (Block place block ∷ more) = want_at place ∷ wants_met more
wants_met (Child addr place ∷ more) = want_at place ∷ wants_met more
wants_met (Item item ∷ more) = wants_met more
wants_met (Left fault ∷ more) = wants_met more

-- the block of a level at a pointer, and all blocks that pointers name below it
abbrev pub subtree_wants : Map → ℕ → BlockPointer → List Want
subtree_wants B level pointer =
    want_of level pointer ∷ wants_met (tour_at first_key last_key B level pointer)

-- the blocks of a tree: its root, and all that pointers name below it
abbrev pub tree_wants : Map → RootPlace → List Want
tree_wants B root = subtree_wants B root.level (root_pointer root)

-- a want is just this one
abbrev pub Only : Want → Filesystem → Want → Type 0
Only one fs want = want ≡ one

-- a want is the block at one of some places
abbrev pub OfPlaces : List RootPlace → Filesystem → Want → Type 0
OfPlaces places fs want = (place : RootPlace) × Contains places place × (want ≡ want_at place)

-- a want is the block of a level at a pointer, or one below it
abbrev pub OfSubtree : ℕ → BlockPointer → Filesystem → Want → Type 0
OfSubtree level pointer fs want = Contains (subtree_wants fs.blocks level pointer) want

-- a want is the block of a level at one of some pointers, or one below it
abbrev pub OfSubtrees : ℕ → List BlockPointer → Filesystem → Want → Type 0
OfSubtrees level block_pointers fs want = (pointer : BlockPointer) × Contains block_pointers pointer × OfSubtree level pointer fs want

-- a want is a block of the tree that has its root at a place
abbrev pub OfTree : RootPlace → Filesystem → Want → Type 0
OfTree root fs want = Contains (tree_wants fs.blocks root) want

-- a want is a block of one of some trees
abbrev pub OfTrees : List TreeRoot → Filesystem → Want → Type 0
OfTrees some fs want = (tree : TreeRoot) × Contains some tree × OfTree tree.place fs want

-- a want is a block of a tree of the filesystem
abbrev pub OfAllTrees : Filesystem → Want → Type 0
OfAllTrees fs want = OfTrees (trees fs.sup fs.blocks) fs want

-- a want is a sector, by its checksum, or a block in which that is looked up
abbrev pub OfSector : Option TreeRoot → ℕ → Filesystem → Want → Type 0
OfSector sums sector fs want =
    Contains (needs fs.blocks (sector_bytes (kind_of_sums fs) sums sector)) want

-- a want is one of some sectors, or a block in which the checksum of one is looked up
abbrev pub OfSectors : Option TreeRoot → List ℕ → Filesystem → Want → Type 0
OfSectors sums sectors fs want =
    (sector : ℕ) × Contains sectors sector × OfSector sums sector fs want

-- a want is a sector or a block of its lookup, where the checksums that are kept are what lookups
-- give
abbrev pub OfSectorBy : Option TreeRoot → SumsAhead → ℕ → Filesystem → Want → Type 0
OfSectorBy sums ahead sector fs want = IsSummed fs.blocks sums ahead → OfSector sums sector fs want

-- these are the runs of checksums of a filesystem, and this is its checksum tree
abbrev pub AreSums : List SumRun → Option TreeRoot → Filesystem → Type 0
AreSums runs sums fs = (runs ≡ sum_runs fs) × (sums ≡ tree_of fs.sup fs.blocks 7)

-- a want is a sector that has a checksum, or a block in which that is looked up
abbrev pub OfData : Filesystem → Want → Type 0
OfData fs want = OfSectors (tree_of fs.sup fs.blocks 7) (summed (sum_runs fs)) fs want

-- A want is one of a check: a block of a tree of the filesystem; or, where the check reads data, a
-- sector that has a checksum, or a block in which that is looked up.
abbrev pub OfCheck : Bool → Filesystem → Want → Type 0
OfCheck read_data fs want = OfAllTrees fs want ⊎ ((read_data ≡ true) × OfData fs want)

-- a want is such a one, where something is known of the filesystem
abbrev pub IfKnown : (Filesystem → Type 0) → (Filesystem → Want → Type 0)
    → Filesystem → Want → Type 0
IfKnown Known W fs want = Known fs → W fs want
