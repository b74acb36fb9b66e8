-- Trees of files in which nothing is wrong, by which others are passed that have the same blocks below their roots.
use Rattle.std.specs.Prelude.{◌≡◌, ℕ, ◌-◌, Bool, true, false, List, [], ◌∷◌, filter, flat_map, Result, IfOk, ⊤}
use Rattle.std.specs.List.{AllByRecursion, list_all}
use Rattle.btr_base.specs.declared.memory.Memory.{Memory}
use Rattle.btr_chunk.specs.declared.chunk.Chunk.{Chunk}
use Rattle.btr_check_differences.specs.Law.{is_plain}
use Rattle.btr_check_names.specs.declared.unpaired.Unpaired.{Unpaired}
use Rattle.btr_check_names.specs.Settled.{AreSettled}
use Rattle.btr_check_names.specs.Subvolumes.{Subvolumes, leads_to_root}
use Rattle.btr_check_space.specs.declared.address_ranges.AddressRange.{AddressRange}
use Rattle.btr_check_sums.specs.Sums.{tree_missing}
use Rattle.btr_findings.specs.Findings.{FoundSet}
use Rattle.btr_tour.specs.Tour.{items_met}
use Rattle.btr_volume.specs.declared.root.TreeRoot.{TreeRoot}
use Rattle.btr_walk.specs.Le.{TreeItem}
use Rattle.btr_walk.specs.declared.block_pointer.BlockPointer.{BlockPointer}
use Rattle.btr_check.specs.Data.{sum_runs}
use Rattle.btr_check.specs.Families.{AreSumRanges}
use Rattle.btr_check.specs.FileTrees.{file_tree_findings, names_of, Treats}
use Rattle.btr_check.specs.Filesystem.{Filesystem}
use Rattle.btr_check.specs.Passing.{subtree_marks}
use Rattle.btr_check.specs.Trees.{items_in}
use Rattle.btr_check.specs.declared.file_tree.FileTree.{FileTree}
use Rattle.btr_check.specs.declared.sound_tree.RootedTree.{RootedTree}
use Rattle.btr_check.specs.declared.sound_tree.SoundTree.{SoundTree}

module _ (fs : Filesystem) where
  -- the items that stand below some blocks of a level
  abbrev pub items_below : ℕ → List BlockPointer → List TreeItem
  items_below level block_pointers = flat_map (λ (pointer : BlockPointer). items_met (subtree_marks fs level pointer)) block_pointers

  -- where there are any, these are the blocks below the root of a tree: its items are theirs
  abbrev pub AreBelow : TreeRoot → List BlockPointer → Type 0
  AreBelow tree [] = ⊤
  AreBelow tree (pointer ∷ block_pointers) = items_in fs.blocks tree ≡ items_below (tree.place.level - 1) (pointer ∷ block_pointers)

  -- nothing is wrong with a tree of files, and these are its entries that lead to subvolumes
  pub record IsSoundTree (tree : TreeRoot) (names : Unpaired) : Type 0 where
    pub nothing : file_tree_findings fs.blocks fs.chunks (sum_runs fs) tree ≡ []
    pub entries : names.subvolumes ≡ filter leads_to_root (names_of fs.blocks tree).indexed

  -- a tree is sound, its names add up by counts, these are the blocks below its root, and where it is said nothing of it is an orphan's
  pub record IsKeptOf (one : SoundTree) : Type 0 where
    pub sound : IsSoundTree one.rooted.tree one.names
    pub settled : AreSettled (names_of fs.blocks one.rooted.tree)
    pub below : AreBelow one.rooted.tree one.rooted.children.items
    pub plain : one.is_plain ≡ true → list_all is_plain (items_in fs.blocks one.rooted.tree) ≡ true

  -- so are all of these
  abbrev pub AreKept : List SoundTree → Type 0
  AreKept sound = AllByRecursion IsKeptOf sound

-- a tree has the same blocks below its root as a sound one, and the same first directory
pub record IsLike (sound : SoundTree) (rooted : RootedTree) : Type 0 where
  pub level : sound.rooted.tree.place.level ≡ rooted.tree.place.level
  pub dirid : sound.rooted.tree.dirid ≡ rooted.tree.dirid
  pub children : sound.rooted.children.items ≡ rooted.children.items

-- a tree was passed by sound ones: it has nothing wrong, and its names of subvolumes were kept; or it wasn't
abbrev pub PassesTree : List SoundTree → RootedTree → Subvolumes → Subvolumes → Bool → Type 0
PassesTree sound rooted old new true =
    (fs : Filesystem) (found : FoundSet) → AreKept fs sound → AreBelow fs rooted.tree rooted.children.items
    → Treats fs.blocks fs.chunks (sum_runs fs) (rooted.tree ∷ []) found found old new
PassesTree sound rooted old new false = new ≡ old

-- a tree that was visited is kept, at most where nothing is missing of its checksums
abbrev pub KeepsSound : RootedTree → FileTree → List Chunk → List AddressRange → List SoundTree → List SoundTree → Result Bool Memory → Type 0
KeepsSound rooted met chunks sums old new result =
    IfOk result (λ paired. (fs : Filesystem) → AreSumRanges fs sums
    → (paired ≡ true → tree_missing chunks (sum_runs fs) rooted.tree.id met.uses.loose met.uses.used ≡ []
    → IsKeptOf fs (record { rooted = rooted; names = met.names; is_plain = met.is_plain }))
    → AreKept fs old → AreKept fs new)

-- trees of files were treated, and those that are kept are sound
pub record TreatsAll (fs : Filesystem) (trees : List TreeRoot) (old new : FoundSet) (names names' : Subvolumes) (sound' : List SoundTree) : Type 0 where
  pub treats : Treats fs.blocks fs.chunks (sum_runs fs) trees old new names names'
  pub kept : AreKept fs sound'
