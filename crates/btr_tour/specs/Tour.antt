-- The tour of a tree: all that is met on the way through it, in preorder. It goes on behind faults, and leaves
-- out only what is below a block that has one.
use Rattle.std.specs.Prelude.{ℕ, zero, suc, ◌-◌, Bool, true, ◌&&◌, List, [], ◌∷◌, map, filter, flat_map, Option, Some, None, Result, Ok, Err}
use Rattle.btr_base.specs.Key.{key_le, last_key}
use Rattle.btr_base.specs.declared.key.Key.{Key}
use Rattle.btr_node.specs.Block.{KeyPointer}
use Rattle.btr_node.specs.declared.node.Node.{Node}
use Rattle.btr_node.specs.declared.node.Node.TheVariants.{Leaf, Inner}
use Rattle.btr_read.specs.Fate.{Fault, Malformed}
use Rattle.btr_walk.specs.declared.place.RootPlace.{RootPlace}
use Rattle.btr_walk.specs.declared.block_pointer.BlockPointer.{BlockPointer}
use Rattle.btr_walk.specs.BlockPointer.{is_below, judged}
use Rattle.btr_walk.specs.Le.{TreeItem, root_pointer, below, up_of, want_of}
use Rattle.btr_walk.specs.Range.{items_within}
use Rattle.btr_walk.specs.Reading.{Map}

-- what a tour meets: a good block and its bytes, a pointer of the block at an
-- address, an item, or why a block is left out
pub data Mark : Type 0 where
  Block : RootPlace → List ℕ → Mark
  Child : ℕ → RootPlace → Mark
  Item : TreeItem → Mark
  Left : Fault → Mark

-- where the block of a level at a pointer stands
abbrev pub place_of : ℕ → BlockPointer → RootPlace
place_of level pointer = record { addr = pointer.addr; generation = pointer.generation; level = level }

-- the pointers of the children of a node with these pointers and this bound
abbrev pub child_pointers : List KeyPointer → Option Key → List BlockPointer
child_pointers [] up = []
child_pointers (key_pointer ∷ pointers) up = below key_pointer (up_of pointers up) ∷ child_pointers pointers up

module _ (lo hi : Key) where
  -- the first key of a block, if it is known, isn't above hi
  abbrev pub begins_by : Option Key → Bool
  begins_by None = true
  begins_by (Some first) = key_le first hi

  -- the keys that a block at a pointer may have meet those from lo to hi
  abbrev pub meets_keys : BlockPointer → Bool
  meets_keys pointer = is_below pointer.up lo && begins_by pointer.first

  -- a child's pointer, and then the child's tour
  abbrev pub child_tour : (BlockPointer → List Mark) → ℕ → ℕ → BlockPointer → List Mark
  child_tour tour addr level pointer = Child addr (place_of level pointer) ∷ tour pointer

  -- what is below a good block: its items from lo to hi, or the tours of its children whose keys meet those
  abbrev pub under : (BlockPointer → List Mark) → ℕ → BlockPointer → Node → List Mark
  under tour level pointer (Leaf items) = map Item (items_within lo hi pointer.addr items)
  under tour level pointer (Inner pointers) = flat_map (child_tour tour pointer.addr (level - 1)) (filter meets_keys (child_pointers pointers pointer.up))

  -- a good block, and then what is below it; a malformed one is left out
  abbrev pub node_tour : (BlockPointer → List Mark) → ℕ → BlockPointer → List ℕ → Option Node → List Mark
  node_tour tour level pointer block None = Left (Malformed pointer.addr) ∷ []
  node_tour tour level pointer block (Some node) = Block (place_of level pointer) block ∷ under tour level pointer node

  -- the tour of what became of a block
  abbrev pub block_tour : (BlockPointer → List Mark) → ℕ → BlockPointer → Result (List ℕ) Fault → List Mark
  block_tour tour level pointer (Ok block) = node_tour tour level pointer block (judged level pointer block)
  block_tour tour level pointer (Err fault) = Left fault ∷ []

  module _ (B : Map) where
    -- from the block of a level at a pointer downwards; nothing is below level 0 but items
    abbrev pub tour_at : ℕ → BlockPointer → List Mark
    tour_at zero pointer = block_tour (λ child. []) 0 pointer (B (want_of 0 pointer))
    tour_at (suc n) pointer = block_tour (tour_at n) (suc n) pointer (B (want_of (suc n) pointer))

    -- the tour of a tree
    abbrev pub tour : RootPlace → List Mark
    tour root = tour_at root.level (root_pointer root)

-- the first key there is
abbrev pub first_key : Key
first_key = record { objectid = 0; kind = 0; offset = 0 }

-- the tour of a whole tree
abbrev pub whole : Map → RootPlace → List Mark
whole = tour first_key last_key

-- a good block of a tree: its place, and its bytes
pub record Reached : Type 0 where
  pub place : RootPlace
  pub block : List ℕ

-- the good blocks among what was met
abbrev pub blocks_met : List Mark → List Reached
blocks_met [] = []
blocks_met (Block place block ∷ more) = record { place = place; block = block } ∷ blocks_met more
blocks_met (Child addr place ∷ more) = blocks_met more
blocks_met (Item item ∷ more) = blocks_met more
blocks_met (Left fault ∷ more) = blocks_met more

-- the items among what was met
abbrev pub items_met : List Mark → List TreeItem
items_met [] = []
items_met (Block place block ∷ more) = items_met more
items_met (Child addr place ∷ more) = items_met more
items_met (Item item ∷ more) = item ∷ items_met more
items_met (Left fault ∷ more) = items_met more

-- the faults among what was met
abbrev pub faults_met : List Mark → List Fault
faults_met [] = []
faults_met (Block place block ∷ more) = faults_met more
faults_met (Child addr place ∷ more) = faults_met more
faults_met (Item item ∷ more) = faults_met more
faults_met (Left fault ∷ more) = fault ∷ faults_met more
