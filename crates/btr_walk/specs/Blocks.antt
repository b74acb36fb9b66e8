-- All blocks of a tree, as a program over wants: in preorder, with a step for each before its children.
use Rattle.std.specs.Prelude.{ℕ, zero, suc, List, [], ◌∷◌, Option, Some, None}
use Rattle.btr_base.specs.declared.key.Key.{Key}
use Rattle.btr_prog.specs.Prog.{Prog, Return, Stop, Need, Emit}
use Rattle.btr_read.specs.Fate.{Fault, Malformed}
use Rattle.btr_read.specs.declared.want.Want.{Want}
use Rattle.btr_node.specs.Block.{KeyPointer}
use Rattle.btr_node.specs.declared.node.Node.{Node}
use Rattle.btr_node.specs.declared.node.Node.TheVariants.{Leaf, Inner}
use Rattle.btr_walk.specs.declared.found_block.FoundBlock.{FoundBlock}
use Rattle.btr_walk.specs.declared.place.RootPlace.{RootPlace}
use Rattle.btr_walk.specs.declared.block_pointer.BlockPointer.{BlockPointer}
use Rattle.btr_walk.specs.BlockPointer.{judged}
use Rattle.btr_walk.specs.Le.{root_pointer, below, up_of, want_of}

-- a block of a tree: its address, its level, and its bytes
pub record TreeBlock : Type 0 where
  pub addr : ℕ
  pub level : ℕ
  pub bytes : List ℕ

-- a block of a tree by its level, its place and its bytes
abbrev pub tree_block : ℕ → BlockPointer → List ℕ → TreeBlock
tree_block level pointer bytes = record { addr = pointer.addr; level = level; bytes = bytes }

-- the block that an answer shows
abbrev pub shown_block : FoundBlock → TreeBlock
shown_block found = record { addr = found.addr; level = found.level; bytes = found.bytes.now }

-- a program that gives the blocks of a tree, one step for each
abbrev pub BlocksProg : Type 0
BlocksProg = Prog Want Fault TreeBlock (Unit {0})

-- the children one after another, and then the rest
abbrev pub each : (BlockPointer → BlocksProg → BlocksProg) → List KeyPointer → Option Key → BlocksProg → BlocksProg
each child [] up rest = rest
each child (key_pointer ∷ pointers) up rest = child (below key_pointer (up_of pointers up)) (each child pointers up rest)

-- a leaf among the blocks, and then the rest; a block that isn't a leaf is malformed
abbrev pub blocks_leaf : BlockPointer → List ℕ → BlocksProg → Option Node → BlocksProg
blocks_leaf pointer block rest None = Stop (Malformed pointer.addr)
blocks_leaf pointer block rest (Some (Leaf items)) = Emit (tree_block 0 pointer block) rest
blocks_leaf pointer block rest (Some (Inner pointers)) = Stop (Malformed pointer.addr)

-- an inner node among the blocks, its children and then the rest; a block that isn't one is malformed
abbrev pub blocks_inner : (BlockPointer → BlocksProg → BlocksProg) → ℕ → BlockPointer → List ℕ → BlocksProg → Option Node → BlocksProg
blocks_inner child level pointer block rest None = Stop (Malformed pointer.addr)
blocks_inner child level pointer block rest (Some (Leaf items)) = Stop (Malformed pointer.addr)
blocks_inner child level pointer block rest (Some (Inner pointers)) = Emit (tree_block level pointer block) (each child pointers pointer.up rest)

-- the block of a level at a pointer, all that is below it, and then the rest
abbrev pub blocks_at : ℕ → BlockPointer → BlocksProg → BlocksProg
blocks_at zero pointer rest = Need (want_of 0 pointer) (λ block. blocks_leaf pointer block rest (judged 0 pointer block))
blocks_at (suc n) pointer rest = Need (want_of (suc n) pointer) (λ block. blocks_inner (blocks_at n) (suc n) pointer block rest (judged (suc n) pointer block))

-- all blocks of a tree
abbrev pub blocks : RootPlace → BlocksProg
blocks root = blocks_at root.level (root_pointer root) (Return tt)
