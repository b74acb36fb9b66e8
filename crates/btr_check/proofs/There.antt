-- The blocks that tours meet are there.
use Rattle.std.proofs.Common.{◌≡◌, ℕ, zero, suc, ◌-◌, Bool, true, false, List, [], ◌∷◌, ◌++◌, map, filter, flat_map, Option, Some, None, Result, Ok, Err}
use Rattle.std.proofs.Common.{if◌then◌else◌, refl, sym, ap, subst}
use Rattle.btr_node.specs.declared.node.Node.{Node}
use Rattle.btr_node.specs.declared.node.Node.TheVariants.{Leaf, Inner}
use Rattle.btr_read.specs.Fate.{Fault}
use Rattle.btr_tour.specs.Tour.{Mark, Block, Child, Item, Left, Reached, child_pointers, meets_keys, child_tour, node_tour, block_tour, under, tour_at, whole}
use Rattle.btr_tour.specs.Tour.{first_key, blocks_met}
use Rattle.btr_base.specs.Key.{last_key}
use Rattle.btr_volume.specs.declared.root.TreeRoot.{TreeRoot}
use Rattle.btr_walk.specs.declared.block_pointer.BlockPointer.{BlockPointer}
use Rattle.btr_walk.specs.Le.{TreeItem, root_pointer, want_of}
use Rattle.btr_walk.specs.Range.{items_within}
use Rattle.btr_walk.specs.BlockPointer.{judged}
use Rattle.btr_walk.specs.Reading.{Map}
use Rattle.btr_check.specs.Counting.{AreThere}
use Rattle.btr_check.specs.Trees.{is_among, place_of, first_met}
use Rattle.btr_check.specs.declared.places.BlockId.{BlockId}

-- the blocks that two tours meet, one behind the other, are those of each
blocks_met-append : (xs ys : List Mark) → blocks_met (xs ++ ys) ≡ blocks_met xs ++ blocks_met ys
blocks_met-append [] ys = refl
blocks_met-append (Block place block ∷ xs) ys = ap (λ l. record { place = place; block = block } ∷ l) (blocks_met-append xs ys)
blocks_met-append (Child addr place ∷ xs) ys = blocks_met-append xs ys
blocks_met-append (Item item ∷ xs) ys = blocks_met-append xs ys
blocks_met-append (Left fault ∷ xs) ys = blocks_met-append xs ys

module _ (B : Map) where
  -- blocks that are there, and some more behind them
  there_then : (xs ys : List Reached) → AreThere B xs → AreThere B ys → AreThere B (xs ++ ys)
  there_then [] ys one two = two
  there_then (x ∷ xs) ys one two = (one.0, there_then xs ys one.1 two)

  -- the blocks that a tour meets are there
  abbrev MarksThere : List Mark → Type 0
  MarksThere marks = AreThere B (blocks_met marks)

  -- where the blocks that two tours meet are there, so are those of both together
  marks_then : (xs ys : List Mark) → MarksThere xs → MarksThere ys → MarksThere (xs ++ ys)
  marks_then xs ys one two = subst (AreThere B) (sym (blocks_met-append xs ys)) (there_then (blocks_met xs) (blocks_met ys) one two)

  -- a tour that meets items alone meets no blocks that aren't there
  items_there : (items : List TreeItem) → MarksThere (map Item items)
  items_there [] = tt
  items_there (item ∷ items) = items_there items

  -- the blocks met below children are there, where those of each child's tour are
  children_there : (tour : BlockPointer → List Mark) → ((pointer : BlockPointer) → MarksThere (tour pointer))
      → (addr level : ℕ) (block_pointers : List BlockPointer)
      → MarksThere (flat_map (child_tour first_key last_key tour addr level) block_pointers)
  children_there tour each addr level [] = tt
  children_there tour each addr level (pointer ∷ block_pointers) =
      marks_then (tour pointer) (flat_map (child_tour first_key last_key tour addr level) block_pointers) (each pointer)
      (children_there tour each addr level block_pointers)

  -- the blocks met below a good block are there
  under_there : (tour : BlockPointer → List Mark) → ((pointer : BlockPointer) → MarksThere (tour pointer)) → (level : ℕ) (pointer : BlockPointer) (node : Node)
      → MarksThere (under first_key last_key tour level pointer node)
  under_there tour each level pointer (Leaf items) = items_there (items_within first_key last_key pointer.addr items)
  under_there tour each level pointer (Inner pointers) = children_there tour each pointer.addr (level - 1)
      (filter (meets_keys first_key last_key) (child_pointers pointers pointer.up))

  -- a block that came, if it is good, is there, and so are those met below it
  node_there : (tour : BlockPointer → List Mark) → ((pointer : BlockPointer) → MarksThere (tour pointer))
      → (level : ℕ) (pointer : BlockPointer) (block : List ℕ) (node : Option Node)
      → B (want_of level pointer) ≡ Ok block → MarksThere (node_tour first_key last_key tour level pointer block node)
  node_there tour each level pointer block None is = tt
  node_there tour each level pointer block (Some node) is = (is, under_there tour each level pointer node)

  -- whatever a want came to, the blocks met for it are there
  block_there : (tour : BlockPointer → List Mark) → ((pointer : BlockPointer) → MarksThere (tour pointer))
      → (level : ℕ) (pointer : BlockPointer) (r : Result (List ℕ) Fault)
      → B (want_of level pointer) ≡ r → MarksThere (block_tour first_key last_key tour level pointer r)
  block_there tour each level pointer (Err fault) is = tt
  block_there tour each level pointer (Ok block) is = node_there tour each level pointer block (judged level pointer block) is

  -- the blocks that a tour meets from a pointer downwards are there
  tour_there : (level : ℕ) (pointer : BlockPointer) → MarksThere (tour_at first_key last_key B level pointer)
  tour_there zero pointer = block_there (λ child. []) (λ child. tt) 0 pointer (B (want_of 0 pointer)) refl
  tour_there (suc n) pointer = block_there (tour_at first_key last_key B n) (tour_there n) (suc n) pointer (B (want_of (suc n) pointer)) refl

  -- of all trees
  pub trees_there : (trees : List TreeRoot) → AreThere B (flat_map (λ (tree : TreeRoot). blocks_met (whole B tree.place)) trees)
  trees_there [] = tt
  trees_there (tree ∷ trees) = there_then (blocks_met (whole B tree.place)) (flat_map (λ (other : TreeRoot). blocks_met (whole B other.place)) trees)
      (tour_there tree.place.level (root_pointer tree.place)) (trees_there trees)

  -- those that are met first are among them
  pub first_there : (before : List BlockId) (blocks : List Reached) → AreThere B blocks → AreThere B (first_met before blocks)
  first_there before [] all = tt
  first_there before (one ∷ more) all = by (is_among before (place_of one.place)) (first_there before more all.1)
      (first_there (place_of one.place ∷ before) more all.1)
    where
      by : (b : Bool) → AreThere B (first_met before more) → AreThere B (first_met (place_of one.place ∷ before) more)
          → AreThere B (if b then first_met before more else one ∷ first_met (place_of one.place ∷ before) more)
      by true old new = old
      by false old new = (all.0, new)
