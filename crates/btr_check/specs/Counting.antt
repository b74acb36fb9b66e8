-- What is counted of blocks that are read again.
use Rattle.std.specs.Prelude.{◌≡◌, ℕ, Bool, true, List, ◌++◌, map, take, fold, flat_map, Result, Ok, Err}
use Rattle.std.specs.BTreeSet.{BTreeSet, contains}
use Rattle.std.specs.List.{AllByRecursion}
use Rattle.std.specs.Ordering.{nat_cmp}
use Rattle.btr_read.specs.declared.want.Want.TheVariants.{Tree}
use Rattle.btr_findings.specs.declared.extent.Extent.{Extent}
use Rattle.btr_refs.specs.Forward.{Tally, tally_with, root_use, block_uses}
use Rattle.btr_tour.specs.Tour.{Reached}
use Rattle.btr_volume.specs.declared.root.TreeRoot.{TreeRoot}
use Rattle.btr_volume.specs.declared.stop.Stop.{Stop}
use Rattle.btr_walk.specs.declared.place.RootPlace.{RootPlace}
use Rattle.btr_walk.specs.Reading.{Map}
use Rattle.btr_check.specs.Running.{is_outside}
use Rattle.btr_check.specs.Trees.{refers_by_address, uses_of}

-- the block at a place is this one
abbrev pub IsBlock : Map → RootPlace → List ℕ → Type 0
IsBlock B place block = B (Tree place.addr place.generation place.level) ≡ Ok block

-- a set has the addresses of the blocks that refer by their own
abbrev pub IsFull : List Extent → BTreeSet ℕ → Type 0
IsFull extents full = (addr : ℕ) → contains nat_cmp full addr ≡ refers_by_address extents addr

-- a call did something, unless a block could not be read or there was no memory
abbrev pub Unless : {A : Type 0} → (A → Type 0) → Result A Stop → Type 0
Unless P (Ok a) = P a
Unless P (Err stop) = is_outside stop ≡ true

module _ (B : Map) where
  -- where the block is there, its uses are counted
  abbrev pub BlockCounts : RootPlace → Bool → Tally → Tally → Result (Unit {0}) Stop → Type 0
  BlockCounts place by_address old new result =
      (block : List ℕ) → IsBlock B place block → Unless (λ u. new ≡ fold tally_with old (block_uses by_address place.addr place.level block)) result

  -- blocks that were met are there
  abbrev pub AreThere : List Reached → Type 0
  AreThere blocks = AllByRecursion (λ (one : Reached). IsBlock B one.place one.block) blocks

  -- where some blocks stand
  abbrev pub places_of : List Reached → List RootPlace
  places_of blocks = map (λ (one : Reached). one.place) blocks

  -- what the first of some blocks use is counted
  abbrev pub CountedTo : ℕ → List RootPlace → BTreeSet ℕ → Tally → Tally → Type 0
  CountedTo i places full old new =
      (blocks : List Reached) → places ≡ places_of blocks → AreThere blocks
      → (extents : List Extent) → IsFull extents full → new ≡ fold tally_with old (flat_map (uses_of extents) (take i blocks))

  -- what all of them use is counted
  abbrev pub BlocksCount : List RootPlace → BTreeSet ℕ → Tally → Tally → Result (Unit {0}) Stop → Type 0
  BlocksCount places full old new result =
      (blocks : List Reached) → places ≡ places_of blocks → AreThere blocks
      → (extents : List Extent) → IsFull extents full → Unless (λ u. new ≡ fold tally_with old (flat_map (uses_of extents) blocks)) result

  -- what the roots of some trees and all blocks at these places use is counted, or the count stopped
  abbrev pub UsesCount : Tally → List TreeRoot → List RootPlace → BTreeSet ℕ → Result Tally Stop → Type 0
  UsesCount begun trees places full result =
      (blocks : List Reached) → places ≡ places_of blocks → AreThere blocks
      → (extents : List Extent) → IsFull extents full → Unless
      (λ forward. forward ≡ fold tally_with begun (map root_use trees ++ flat_map (uses_of extents) blocks)) result
