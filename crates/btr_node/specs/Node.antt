-- What a block holds.
use Rattle.std.specs.Prelude.{◌≡◌, ℕ, List, Option, Some, None, IsTrue, if◌then◌else◌}
use Rattle.btr_node.specs.Block.{items, pointers, is_leaf, is_inner}
use Rattle.btr_node.specs.declared.node.Node.{Node}
use Rattle.btr_node.specs.declared.node.Node.TheVariants.{Leaf, Inner}

-- the items of a good leaf, the pointers of a good inner node, and nothing of a block that breaks a rule
abbrev pub node_of : List ℕ → Option Node
node_of block = if is_leaf block then Some (Leaf (items block)) else (if is_inner block then Some (Inner (pointers block)) else None)

-- a leaf is the list of a good leaf's items, and an inner node that of a good inner node's pointers
abbrev pub IsViewOf : List ℕ → Node → Type 0
IsViewOf block (Leaf list) = IsTrue (is_leaf block) × (list ≡ items block)
IsViewOf block (Inner list) = IsTrue (is_inner block) × (list ≡ pointers block)
