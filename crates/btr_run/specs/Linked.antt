-- The owners that `logical-resolve` tells, beside the references that a check counts.
use Rattle.std.specs.Prelude.{◌≡◌, ℕ, ◌<◌, ◌^◌, List, Some, Ok, All}
use Rattle.btr_check.specs.Trees.{refers_by_address, uses}
use Rattle.btr_prog.specs.Prog.{exec, steps}
use Rattle.btr_findings.specs.declared.extent.Extent.{Extent}
use Rattle.btr_resolve.specs.Links.{IsLinked}
use Rattle.btr_resolve.specs.Owning.{owners}
use Rattle.btr_super.specs.declared.superblock.Super.{Super}
use Rattle.btr_volume.specs.Tree.{tree_of}
use Rattle.btr_volume.specs.declared.root.TreeRoot.{TreeRoot}
use Rattle.btr_walk.specs.Reading.{Map}

-- Each owner of an address in a tree that a filesystem has by its id is linked: among all uses by the trees, of which a
-- check counts the references, is that of the extent by which the file has the byte, with a link File or SharedFile.
-- Nothing is asked of the trees: the uses are those of what is left of each.
abbrev pub OwnersCounted : Type 0
OwnersCounted =
    (sup : Super) (B : Map) (extents : List Extent) (id : ℕ) (tree : TreeRoot) (addr : ℕ) → id < 2 ^ 64
    → (exec {S = ⊥} B (tree_of sup id)).ending ≡ Ok (Some tree)
    → All (IsLinked B tree (refers_by_address extents) addr (uses sup B extents)) (steps B (owners addr tree))
