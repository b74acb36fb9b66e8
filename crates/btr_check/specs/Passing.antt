-- Subtrees that are met again: what is kept of them, so that they are passed.
use Rattle.std.specs.Prelude.{◌≡◌, ℕ, Bool, true, false, ◌&&◌, ◌-◌, List, [], ◌∷◌, ◌++◌, fold}
use Rattle.std.specs.Prelude.{filter, filter_map, flat_map, map, Option, Some, None, Result, Ok}
use Rattle.std.specs.Prelude.{Err, if◌then◌else◌, ⊤}
use Rattle.std.specs.BTreeMap.{insert_entry, is_at}
use Rattle.std.specs.List.{AllByRecursion}
use Rattle.std.specs.Map.{lookup}
use Rattle.std.specs.Option.{option_map}
use Rattle.btr_base.specs.Key.{key_le, last_key}
use Rattle.btr_node.specs.Block.{Item, items, pointers}
use Rattle.btr_tour.specs.Tour as tour
use Rattle.btr_tour.specs.Tour.{Mark, Block, Reached, first_key, tour_at, child_pointers, child_tour}
use Rattle.btr_tour.specs.Tour.{meets_keys, blocks_met}
use Rattle.btr_volume.specs.declared.stop.Stop.{Stop}
use Rattle.btr_volume.specs.declared.stop.Stop.TheVariants.{Memory}
use Rattle.btr_walk.specs.declared.block_pointer.BlockPointer.{BlockPointer}
use Rattle.btr_walk.specs.Le.{TreeItem}
use Rattle.btr_walk.specs.Range.{items_within}
use Rattle.btr_check.specs.declared.opening.Opened.{Opened}
use Rattle.btr_check.specs.declared.opening.Opened.TheVariants.{Whole, Children}
use Rattle.btr_check.specs.declared.places.BlockId.{BlockId}
use Rattle.btr_check.specs.declared.subtrees.Edges.{Edges}
use Rattle.btr_check.specs.declared.subtrees.Subtree.{Subtree}
use Rattle.btr_check.specs.declared.walk.FileRange.{FileRange}
use Rattle.btr_check.specs.Filesystem.{Filesystem, kind_of_sums, neighbours}
use Rattle.btr_check.specs.Trees.{is_among, place_of, place_cmp}
use Rattle.btr_check.specs.Walks.{broken, not_apart, range_of, ranges_met}
use Rattle.btr_check.specs.Walking.{WalkSeen, behind_last, is_nothing, or_last, walk_step}

-- the edges of one range, if there is one
abbrev pub edge_of : Option FileRange → Option Edges
edge_of None = None
edge_of (Some range) = Some (record { first = range; last = range })

-- the edges of some ranges and of those behind them
abbrev pub joined : Option Edges → Option Edges → Option Edges
joined None back = back
joined (Some front) None = Some front
joined (Some front) (Some back) = Some (record { first = front.first; last = back.last })

-- the first and the last of some ranges
abbrev pub edges_of : List FileRange → Option Edges
edges_of [] = None
edges_of (range ∷ ranges) = joined (edge_of (Some range)) (edges_of ranges)

-- what is kept of subtrees, by the places of their highest blocks
abbrev pub Known : Type 0
Known = List (BlockId × Subtree)

-- where a block of a level at a pointer stands
abbrev pub place_at : ℕ → BlockPointer → BlockId
place_at level pointer = record { addr = pointer.addr; generation = pointer.generation; level = level }

-- what is kept of the subtree at a pointer with these edges: its bounds and the edges
abbrev pub subtree_with : BlockPointer → Option Edges → Subtree
subtree_with pointer edges = record { first = pointer.first; up = pointer.up; edges = edges }

-- what is kept, with the subtree of a level at a pointer in place of one that was kept there
abbrev pub with_subtree : Known → ℕ → BlockPointer → Option Edges → Known
with_subtree known level pointer edges =
    insert_entry place_cmp known (place_at level pointer) (subtree_with pointer edges)

-- what is kept, with a subtree more if that is asked
abbrev pub kept_if : Bool → Known → ℕ → BlockPointer → Option Edges → Known
kept_if true known level pointer edges = with_subtree known level pointer edges
kept_if false known level pointer edges = known

-- the subtree of a level at a pointer is kept, with its bounds and these edges
abbrev pub IsSubtreeKept : Known → ℕ → BlockPointer → Option Edges → Type 0
IsSubtreeKept known level pointer edges =
    lookup (is_at (place_cmp (place_at level pointer))) known ≡ Some (subtree_with pointer edges)

-- a walk behind a subtree that has nothing wrong and whose blocks were met: only the ranges at its
-- edges count
abbrev pub passed : WalkSeen → Option Edges → WalkSeen
passed seen edges = record {
  kind = seen.kind;
  broken = seen.broken;
  overlapping =
      seen.overlapping ++ behind_last seen.last (option_map (λ (e : Edges). e.first) edges);
  last = or_last seen.last (option_map (λ (e : Edges). e.last) edges);
  places = seen.places;
}

-- a subtree was passed, or there was no memory
abbrev pub Passes : WalkSeen → Option Edges → WalkSeen → Result (Option Edges) Stop → Type 0
Passes old edges new (Ok answer) = (answer ≡ edges) × (new ≡ passed old edges)
Passes old edges new (Err stop) = stop ≡ Memory

-- a subtree was kept, where that is asked and nothing was found, or there was no memory
abbrev pub Keeps : Bool → ℕ → BlockPointer → Option Edges → WalkSeen → Known → Known
    → Result (Option Edges) Stop → Type 0
Keeps asked level pointer edges seen old new (Ok answer) =
    (answer ≡ edges)
    × (new ≡ kept_if (asked && is_nothing (seen.broken ++ seen.overlapping)) old level pointer edges)
Keeps asked level pointer edges seen old new (Err stop) = stop ≡ Memory

-- a block was met
abbrev pub WasMet : WalkSeen → Reached → Type 0
WasMet seen one = is_among seen.places.keys (place_of one.place) ≡ true

-- nothing is wrong with what a tour met, these are its edges, and its blocks are those of the walk
pub record CanPass (seen : WalkSeen) (marks : List Mark) (edges : Option Edges) : Type 0 where
  pub whole : filter_map (broken seen.kind) marks ≡ []
  pub apart : filter_map not_apart (neighbours (ranges_met marks)) ≡ []
  pub edges_are : edges ≡ edges_of (ranges_met marks)
  pub met : AllByRecursion (WasMet seen) (blocks_met marks)

module _ (fs : Filesystem) where
  -- what a tour meets from the block of a level at a pointer downwards
  abbrev pub subtree_marks : ℕ → BlockPointer → List Mark
  subtree_marks level pointer = tour_at first_key last_key fs.blocks level pointer

  -- what a tour meets from children of a level downwards, each behind its pointer in the node at an address
  abbrev pub children_marks : ℕ → ℕ → List BlockPointer → List Mark
  children_marks addr level block_pointers =
      flat_map (child_tour first_key last_key (subtree_marks level) addr level) block_pointers

  -- each subtree that is kept can be passed
  pub record Knows (seen : WalkSeen) (known : Known) : Type 0 where
    pub kind : seen.kind ≡ kind_of_sums fs
    pub all : (level : ℕ) (pointer : BlockPointer) (edges : Option Edges) → IsSubtreeKept known level pointer edges
        → CanPass seen (subtree_marks level pointer) edges

  -- these marks were walked, and these are their edges
  pub record Walked (marks : List Mark) (old new : WalkSeen) (known : Known)
      (edges : Option Edges) : Type 0 where
    pub seen : new ≡ fold walk_step old marks
    pub edges_are : edges ≡ edges_of (ranges_met marks)
    pub knows : Knows new known

  -- these marks were walked, so far as memory sufficed, where each subtree that was kept before can be passed
  abbrev pub Walks : List Mark → WalkSeen → WalkSeen → Known → Known
      → Result (Option Edges) Stop → Type 0
  Walks marks old new known known' (Ok edges) = Knows old known → Walked marks old new known' edges
  Walks marks old new known known' (Err stop) = ⊤

  -- A block was opened: it was left out or is a leaf, and all of it was walked; or it is a node,
  -- and its children are to come.
  abbrev pub Opens : ℕ → BlockPointer → WalkSeen → WalkSeen → Opened → Type 0
  Opens level pointer old new (Whole edges) =
      (new ≡ fold walk_step old (subtree_marks level pointer))
      × (edges ≡ edges_of (ranges_met (subtree_marks level pointer)))
  Opens level pointer old new (Children block_pointers) =
      (block : List ℕ) × (new ≡ walk_step old (Block (tour.place_of level pointer) block))
      × (subtree_marks level pointer
      ≡ Block (tour.place_of level pointer) block ∷ children_marks pointer.addr (level - 1) block_pointers.items)

-- a list with one more, if that passes a test
abbrev pub with_if : {X : Type 0} → (X → Bool) → List X → X → List X
with_if test xs x = if test x then xs ++ x ∷ [] else xs

-- an item was walked behind others with some edges, if it lies between the first and the last key
abbrev pub WalksItem : TreeItem → WalkSeen → WalkSeen → Option Edges → Option Edges → Type 0
WalksItem item old new edges edges' =
    let within = key_le first_key item.key && key_le item.key last_key in
    (new ≡ (if within then walk_step old (tour.Item item) else old))
    × (edges' ≡ (if within then joined edges (edge_of (range_of item)) else edges))

-- the items of a leaf at an address were walked
abbrev pub WalksItems : ℕ → List Item → WalkSeen → WalkSeen → Option Edges → Type 0
WalksItems addr items old new edges =
    (new ≡ fold walk_step old (map tour.Item (items_within first_key last_key addr items)))
    × (edges ≡ edges_of (ranges_met (map tour.Item (items_within first_key last_key addr items))))

-- a good block was opened
abbrev pub OpensGood : ℕ → BlockPointer → List ℕ → WalkSeen → WalkSeen → Opened → Type 0
OpensGood level pointer block old new (Whole edges) =
    (level ≡ 0)
    × WalksItems pointer.addr (items block) (walk_step old (Block (tour.place_of level pointer) block)) new
    edges
OpensGood level pointer block old new (Children block_pointers) =
    (new ≡ walk_step old (Block (tour.place_of level pointer) block))
    × (block_pointers.items ≡ filter (meets_keys first_key last_key) (child_pointers (pointers block) pointer.up))

-- children are below a node alone
abbrev pub IsAbove : ℕ → Opened → Type 0
IsAbove level (Whole edges) = ⊤
IsAbove level (Children block_pointers) = level ≡ 0 → ⊥
