-- What a pass of a check does: it visits a tree, and puts what is wrong into a set of findings.
use Rattle.std.specs.Prelude.{◌≡◌, List, [], Option, Some, None, Result, Ok, Err}
use Rattle.std.specs.declared.alloc.Global.{Global}
use Rattle.std.specs.declared.vec.Vec.{Vec}
use Rattle.btr_base.specs.declared.memory.Memory.{Memory}
use Rattle.btr_findings.specs.declared.finding.Finding.{Finding}
use Rattle.btr_findings.specs.Findings.{Adds, FoundSet}
use Rattle.btr_findings.specs.declared.extent.Extent.{Extent}
use Rattle.btr_tour.specs.Tour.{Mark, whole}
use Rattle.btr_volume.specs.declared.root.TreeRoot.{TreeRoot}
use Rattle.btr_volume.specs.declared.stop.Stop.{Stop}
use Rattle.btr_volume.specs.declared.stop.Stop.TheVariants as stops
use Rattle.btr_walk.specs.Reading.{Map}
use Rattle.btr_walk.specs.declared.place.RootPlace.{RootPlace}
use Rattle.btr_check.specs.Counting.{Unless}
use Rattle.btr_check.specs.ExtentTree.{IsBegun}
use Rattle.btr_check.specs.Filesystem.{Filesystem, extents}
use Rattle.btr_check.specs.Walking.{ArePlaces, WalkSeen, IsWalkOf}
use Rattle.btr_check.specs.declared.references.Begun.{Begun}
use Rattle.btr_check.specs.Walks.{walk_findings}
use Rattle.btr_check.specs.Trees.{listed, trees}

-- all that a tour of a tree meets, where there is a tree
abbrev pub marks_if : Map → Option TreeRoot → List Mark
marks_if B None = []
marks_if B (Some tree) = whole B tree.place

-- how a call ends that may want memory
abbrev pub or_memory : Result (Unit {0}) Memory → Result (Unit {0}) Stop
or_memory (Ok u) = Ok tt
or_memory (Err e) = Err stops.Memory

-- what is known of a filesystem before its rules are tested: the trees that its root tree lists
abbrev pub Lists : List TreeRoot → Filesystem → Type 0
Lists trees fs = trees ≡ listed fs.sup fs.blocks

-- the same, where the walk of all trees found nothing
pub record ListsSound (trees : List TreeRoot) (fs : Filesystem) : Type 0 where
  pub lists : Lists trees fs
  pub sound : walk_findings fs ≡ []

-- all trees of a filesystem
abbrev pub AreAll : List TreeRoot → Filesystem → Type 0
AreAll all fs = all ≡ trees fs.sup fs.blocks

-- the extents of a filesystem
abbrev pub AreExtents : List Extent → Filesystem → Type 0
AreExtents all fs = all ≡ extents fs

-- the same as a list
abbrev pub ListExtents : Filesystem → Vec Extent Global → Type 0
ListExtents fs all = AreExtents all.items fs

-- what is known where uses are counted: all trees, the blocks that they reach, and what is kept of the extent tree
pub record KnowsUses (all_trees : List TreeRoot) (places : List RootPlace) (begun : Begun) (fs : Filesystem) : Type 0 where
  pub all : AreAll all_trees fs
  pub reached : ArePlaces fs all_trees places
  pub kept : IsBegun fs begun

-- the walk of all trees found nothing; these are all trees, and what was walked of them
pub record IsWalked (listed_trees all_trees : List TreeRoot) (walk : WalkSeen) (fs : Filesystem) : Type 0 where
  pub lists : Lists listed_trees fs
  pub all : AreAll all_trees fs
  pub walked : IsWalkOf fs all_trees walk
  pub sound : walk_findings fs ≡ []

-- where something is known of a filesystem, some findings were put into a set, unless a
-- block could not be read or there was no memory
abbrev pub AddsFindings : (Filesystem → Type 0) → (Filesystem → List Finding) → FoundSet → FoundSet → Result (Unit {0}) Stop → Filesystem → Type 0
AddsFindings Known found old new result fs = Known fs → Unless (λ u. Adds (found fs) old new) result

-- the same of a call that answers a value
abbrev pub AddsFindingsAnd : {A : Type 0} → (Filesystem → Type 0) → (Filesystem → A → Type 0) → (Filesystem → List Finding) → FoundSet → FoundSet
    → Result A Stop → Filesystem → Type 0
AddsFindingsAnd Known Is found old new result fs = Known fs → Unless (λ a. Is fs a × Adds (found fs) old new) result
