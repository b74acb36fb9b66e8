-- The tour of a tree as a program: what it wants and what it meets, in order.
-- It goes on behind the faults of its wants.
use Rattle.std.specs.Prelude.{ℕ, zero, suc, ◌-◌, List, [], ◌∷◌, map, filter, Option, Some, None, Result, Ok, Err}
use Rattle.btr_base.specs.declared.key.Key.{Key}
use Rattle.btr_node.specs.declared.node.Node.{Node}
use Rattle.btr_node.specs.declared.node.Node.TheVariants.{Leaf, Inner}
use Rattle.btr_prog.specs.Prog.{Return, Stop, Need, Emit}
use Rattle.btr_prog.specs.Trying.{Trying, Done, Try, Act, act_all}
use Rattle.btr_read.specs.Fate.{Fault, Malformed}
use Rattle.btr_read.specs.declared.want.Want.{Want}
use Rattle.btr_walk.specs.declared.place.RootPlace.{RootPlace}
use Rattle.btr_walk.specs.declared.block_pointer.BlockPointer.{BlockPointer}
use Rattle.btr_walk.specs.BlockPointer.{judged}
use Rattle.btr_walk.specs.Le.{root_pointer, want_of}
use Rattle.btr_walk.specs.Range.{RangeProg, items_within}
use Rattle.btr_tour.specs.Tour.{Mark, Block, Child, Item, Left, place_of, child_pointers, meets_keys}

-- a program that meets the marks of a tree, one step for each
abbrev pub TourProg : Type 0
TourProg = Trying Want Fault Mark (Unit {0})

-- children one after another, each behind its pointer in the node at an address, and then the rest
abbrev pub children : (BlockPointer → TourProg → TourProg) → ℕ → ℕ → List BlockPointer → TourProg → TourProg
children tour addr level [] rest = rest
children tour addr level (pointer ∷ block_pointers) rest =
    Act (Child addr (place_of level pointer)) (tour pointer (children tour addr level block_pointers rest))

module _ (lo hi : Key) where
  -- what is below a good block, and then the rest: its items from lo to hi, or its children whose keys meet those
  abbrev pub below_block : (BlockPointer → TourProg → TourProg) → ℕ → BlockPointer → Node → TourProg → TourProg
  below_block tour level pointer (Leaf items) rest = act_all (map Item (items_within lo hi pointer.addr items)) rest
  below_block tour level pointer (Inner pointers) rest =
      children tour pointer.addr (level - 1) (filter (meets_keys lo hi) (child_pointers pointers pointer.up)) rest

  -- a good block, and then what is below it; a malformed one is left out
  abbrev pub by_node : (BlockPointer → TourProg → TourProg) → ℕ → BlockPointer → List ℕ → TourProg → Option Node → TourProg
  by_node tour level pointer block rest None = Act (Left (Malformed pointer.addr)) rest
  by_node tour level pointer block rest (Some node) = Act (Block (place_of level pointer) block) (below_block tour level pointer node rest)

  -- on by what became of a block
  abbrev pub by_block : (BlockPointer → TourProg → TourProg) → ℕ → BlockPointer → TourProg → Result (List ℕ) Fault → TourProg
  by_block tour level pointer rest (Ok block) = by_node tour level pointer block rest (judged level pointer block)
  by_block tour level pointer rest (Err fault) = Act (Left fault) rest

  -- the block of a level at a pointer is tried, and then comes all that is below it, and then the rest
  abbrev pub tour_from : ℕ → BlockPointer → TourProg → TourProg
  tour_from zero pointer rest = Try (want_of 0 pointer) (by_block (λ child more. more) 0 pointer rest)
  tour_from (suc n) pointer rest = Try (want_of (suc n) pointer) (by_block (tour_from n) (suc n) pointer rest)

  -- the tour of a whole tree, from its root on
  abbrev pub tour_prog : RootPlace → TourProg
  tour_prog root = tour_from root.level (root_pointer root) (Done tt)

-- the program that stops where a tour goes on behind a fault, and does a step for each item alone
abbrev pub items_until_fault : TourProg → RangeProg
items_until_fault (Done u) = Return u
items_until_fault (Try w k) = Need w (λ block. items_until_fault (k (Ok block)))
items_until_fault (Act (Block place block) p) = items_until_fault p
items_until_fault (Act (Child addr place) p) = items_until_fault p
items_until_fault (Act (Item item) p) = Emit item (items_until_fault p)
items_until_fault (Act (Left fault) p) = Stop fault
