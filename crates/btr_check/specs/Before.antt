-- Why a filesystem isn't checked.
use Rattle.std.specs.Prelude.{ℕ, ◌-◌, ◌^◌, ◌==◌, ◌&&◌, List, [], ◌∷◌, ◌++◌, map, filter_map, Option, Some, None, if◌then◌else◌, ⊤}
use Rattle.btr_base.specs.declared.kind.SumKind.{SumKind}
use Rattle.btr_read.specs.Fate as fate
use Rattle.btr_tour.specs.Tour.{Mark, Block, Child, Item, Left, whole}
use Rattle.btr_volume.specs.declared.root.TreeRoot.{TreeRoot}
use Rattle.btr_volume.specs.declared.stop.Stop.{Stop}
use Rattle.btr_volume.specs.declared.stop.Stop.TheVariants.{NoTree, Tree, Deletion, Balance}
use Rattle.btr_walk.specs.declared.fault.TreeFault.{TreeFault}
use Rattle.btr_walk.specs.declared.fault.TreeFault.TheVariants as tree
use Rattle.btr_check.specs.declared.block_fault.BlockFault.{BlockFault}
use Rattle.btr_check.specs.declared.block_fault.BlockFault.TheVariants.{Lost, Malformed, Unmapped, Crosses}
use Rattle.btr_check.specs.Trees.{root_tree, listed, last_of}
use Rattle.btr_check.specs.Filesystem.{Filesystem, kind_of_sums, has_form, is_file_tree}

-- why a block is left out of a tour; that a tree is missing isn't met in one
abbrev pub left_by : fate.Fault → Option BlockFault
left_by (fate.Lost addr) = Some (Lost addr)
left_by (fate.Malformed addr) = Some (Malformed addr)
left_by (fate.Unmapped addr) = Some (Unmapped addr)
left_by (fate.Crosses addr) = Some (Crosses addr)
left_by (fate.NoTree id) = None

-- the same of what a call answers; one that could not be read isn't left out
abbrev pub block_fault : TreeFault → Option BlockFault
block_fault (tree.Lost addr) = Some (Lost addr)
block_fault (tree.Unread addr slot) = None
block_fault (tree.Unmapped addr) = Some (Unmapped addr)
block_fault (tree.Crosses addr) = Some (Crosses addr)
block_fault (tree.Malformed addr) = Some (Malformed addr)

-- what is wrong with what a tour meets: a block is left out, or an item hasn't its form
abbrev pub wrong : SumKind → Mark → Option BlockFault
wrong kind (Block place block) = None
wrong kind (Child addr place) = None
wrong kind (Item item) = if has_form kind item.key item.body then None else Some (Malformed item.leaf)
wrong kind (Left fault) = left_by fault

-- in the root tree that ends a check
abbrev pub fault_stop : BlockFault → Stop
fault_stop (Lost addr) = Tree (tree.Lost addr)
fault_stop (Malformed addr) = Tree (tree.Malformed addr)
fault_stop (Unmapped addr) = Tree (tree.Unmapped addr)
fault_stop (Crosses addr) = Tree (tree.Crosses addr)

-- the tree of a balance is there while one is pending, and a file tree without references is being deleted
abbrev pub pending : TreeRoot → Option Stop
pending tree =
    if tree.id == 2 ^ 64 - 8 then Some Balance
    else if (tree.refs == 0) && is_file_tree tree.id then Some (Deletion tree.id)
    else None

-- a tree of this id is missing
abbrev pub missing_if : ℕ → Option TreeRoot → List Stop
missing_if id None = NoTree id ∷ []
missing_if id (Some tree) = []

-- what is wrong with the list of the trees
abbrev pub list_refusals : List TreeRoot → List Stop
list_refusals trees = filter_map pending trees ++ (missing_if 2 (last_of 2 trees) ++ missing_if 4 (last_of 4 trees))

-- such a stop says what is wrong with the list of the trees
abbrev pub OfList : Stop → Type 0
OfList (NoTree id) = ⊤
OfList (Deletion id) = ⊤
OfList Balance = ⊤
OfList stop = ⊥

-- what is wrong with the root tree
abbrev pub root_faults : Filesystem → List BlockFault
root_faults fs = filter_map (wrong (kind_of_sums fs)) (whole fs.blocks (root_tree fs.sup).place)

-- all reasons, in their order: a block of the root tree has a fault, or an item of it hasn't its form; a balance is
-- pending, or a tree is being deleted; there is no extent tree, or no device tree
abbrev pub refusals : Filesystem → List Stop
refusals fs = map fault_stop (root_faults fs) ++ list_refusals (listed fs.sup fs.blocks)

-- the first of a list, if it has any
abbrev pub first_of : {X : Type 0} → List X → Option X
first_of [] = None
first_of (x ∷ xs) = Some x

-- why a filesystem isn't checked: the first reason, if there is any
abbrev pub refusal : Filesystem → Option Stop
refusal fs = first_of (refusals fs)
