-- What is met of trees of files.
use Rattle.std.specs.Prelude.{◌≡◌, ℕ, Bool, true, false, ◌&&◌, List, [], ◌++◌, map, filter_map, flat_map, Result, IfOk}
use Rattle.btr_base.specs.declared.memory.Memory.{Memory}
use Rattle.btr_chunk.specs.declared.chunk.Chunk.{Chunk}
use Rattle.btr_items.specs.declared.sum_run.SumRun.{SumRun}
use Rattle.btr_check_differences.specs.Law.{is_plain}
use Rattle.btr_check_names.specs.Entry.{Entry}
use Rattle.btr_check_names.specs.Names.{Names, names_in, names_findings}
use Rattle.btr_check_names.specs.Subvolume.{NamedSubvolume}
use Rattle.btr_check_names.specs.Subvolumes.{Subvolumes, names_at, subvolumes_at}
use Rattle.btr_check_names.specs.Unpaired.{are_paired, are_whole, nothing_unpaired, unpaired_step}
use Rattle.btr_check_names.specs.declared.unpaired.Unpaired.{Unpaired}
use Rattle.btr_findings.specs.declared.finding.Finding.{Finding}
use Rattle.btr_findings.specs.Findings.{Adds, FoundSet}
use Rattle.btr_check_space.specs.AddressRanges.{HoldSame}
use Rattle.btr_check_space.specs.declared.address_ranges.AddressRange.{AddressRange}
use Rattle.btr_check_sums.specs.Items.{UsesMet, uses_step, loose_in, used_in}
use Rattle.btr_check_sums.specs.Sums.{run_range, tree_missing}
use Rattle.btr_tour.specs.Tour.{Mark, Block, Child, Item, Left}
use Rattle.btr_volume.specs.declared.root.TreeRoot.{TreeRoot}
use Rattle.btr_walk.specs.Reading.{Map}
use Rattle.btr_check.specs.Trees.{items_in}
use Rattle.btr_check.specs.declared.file_tree.FileTree.{FileTree}

-- what is kept of a tree of files before its first item
abbrev pub nothing_met : ℕ → FileTree
nothing_met dirid = record { names = nothing_unpaired dirid; uses = record { loose = []; used = [] }; is_plain = true }

-- a mark is of no orphan item
abbrev pub mark_plain : Mark → Bool
mark_plain (Block place block) = true
mark_plain (Child addr place) = true
mark_plain (Item item) = is_plain item
mark_plain (Left fault) = true

-- what of a tree's names has not met its counterpart yet, the sectors that its files use, and whether nothing is an orphan's, after one more mark
abbrev pub file_step : FileTree → Mark → FileTree
file_step met mark = record {
  names = unpaired_step met.names mark;
  uses = uses_step met.uses mark;
  is_plain = met.is_plain && mark_plain mark;
}

module _ (B : Map) where
  -- what a tree holds of names
  abbrev pub names_of : TreeRoot → Names
  names_of tree = names_in tree.id tree.dirid (items_in B tree)

  -- what is wrong with the sectors that its files use, where these are the chunks and the checksums
  abbrev pub missing_findings : List Chunk → List SumRun → TreeRoot → List Finding
  missing_findings chunks runs tree = tree_missing chunks runs tree.id (filter_map loose_in (items_in B tree)) (filter_map used_in (items_in B tree))

  -- what is wrong with a tree of files
  abbrev pub file_tree_findings : List Chunk → List SumRun → TreeRoot → List Finding
  file_tree_findings chunks runs tree = missing_findings chunks runs tree ++ names_findings (names_of tree)

  -- the entries of a tree that lead to subvolumes, as their names
  abbrev pub root_entries : TreeRoot → List NamedSubvolume
  root_entries tree = names_at tree.id (names_of tree).indexed

-- the names of subvolumes, with those of the entries of a tree, where these are kept
abbrev pub entries_if : Bool → ℕ → List Entry → Subvolumes → Subvolumes
entries_if true tree entries names = subvolumes_at names tree entries
entries_if false tree entries names = names

-- by the ranges of addresses that have checksums, nothing is missing of those of a tree where it is said
abbrev pub AreSummed : ℕ → UsesMet → List Chunk → List AddressRange → Result Bool Memory → Type 0
AreSummed tree uses chunks sums result =
    (runs : List SumRun) → HoldSame (map run_range runs) sums → IfOk result
    (λ summed. summed ≡ true → tree_missing chunks runs tree uses.loose uses.used ≡ [])

-- nothing is wrong with what was met of a tree, but for names that wait for their counterparts
pub record IsSoundAlone (tree : ℕ) (met : FileTree) (chunks : List Chunk) (sums : List AddressRange) : Type 0 where
  pub plain : met.is_plain ≡ true
  pub whole : are_whole met.names ≡ true
  pub summed : (runs : List SumRun) → HoldSame (map run_range runs) sums → tree_missing chunks runs tree met.uses.loose met.uses.used ≡ []

-- no names wait for their counterparts, and none of them leads to a subvolume
pub record ArePairedHere (names : Unpaired) : Type 0 where
  pub paired : are_paired names ≡ true
  pub subvolumes : names.subvolumes ≡ []

-- by the ranges of addresses that have checksums, what is missing of those of a tree was put; and whether nothing is
abbrev pub AddsMissing : ℕ → UsesMet → List Chunk → List AddressRange → FoundSet → FoundSet → Result Bool Memory → Type 0
AddsMissing tree uses chunks sums old new result =
    (runs : List SumRun) → HoldSame (map run_range runs) sums → IfOk result
    (λ summed. Adds (tree_missing chunks runs tree uses.loose uses.used) old new
    × (summed ≡ true → tree_missing chunks runs tree uses.loose uses.used ≡ []))

-- the same of what was met of a tree, without an answer to the second
abbrev pub PutsMissing : ℕ → FileTree → List Chunk → List AddressRange → FoundSet → FoundSet → Result Bool Memory → Type 0
PutsMissing tree met chunks sums old new result =
    (runs : List SumRun) → HoldSame (map run_range runs) sums → IfOk result
    (λ paired. Adds (tree_missing chunks runs tree met.uses.loose met.uses.used) old new)

-- the entries of a tree that lead to subvolumes are kept where its names are paired
abbrev pub KeepsEntries : ℕ → FileTree → Subvolumes → Subvolumes → Result Bool Memory → Type 0
KeepsEntries tree met names names' result = IfOk result (λ paired. names' ≡ entries_if paired tree met.names.subvolumes names)

-- the names in a tree were treated
pub record TreatsNames (B : Map) (tree : TreeRoot) (old new : FoundSet) (names names' : Subvolumes) : Type 0 where
  pub found : Adds (names_findings (names_of B tree)) old new
  pub entries : names' ≡ subvolumes_at names tree.id (names_of B tree).indexed

-- the names of subvolumes, with those of more entries
abbrev pub with_entries : Subvolumes → List NamedSubvolume → Subvolumes
with_entries names entries = record { refs = names.refs; backrefs = names.backrefs; entries = names.entries ++ entries }

-- trees of files were treated: what is wrong with them was put into a set, and their names of subvolumes were kept
pub record Treats (B : Map) (chunks : List Chunk) (runs : List SumRun) (trees : List TreeRoot) (old new : FoundSet) (names names' : Subvolumes) : Type 0 where
  pub found : Adds (flat_map (file_tree_findings B chunks runs) trees) old new
  pub entries : names' ≡ with_entries names (flat_map (root_entries B) trees)
