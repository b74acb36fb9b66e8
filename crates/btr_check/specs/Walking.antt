-- What is kept on the way through trees, one mark after another.
use Rattle.std.specs.Prelude.{◌≡◌, Bool, true, false, List, [], ◌∷◌, ◌++◌, map, fold, flat_map, Option, Some, None, Result, Ok, Err, MatchResult, if◌then◌else◌}
use Rattle.std.specs.BTreeSet.{insert_key}
use Rattle.std.specs.Option.{option_to_list}
use Rattle.std.specs.declared.alloc.Global.{Global}
use Rattle.std.specs.declared.vec.Vec.{Vec}
use Rattle.btr_base.specs.declared.kind.SumKind.{SumKind}
use Rattle.btr_findings.specs.declared.finding.Finding.{Finding}
use Rattle.btr_tour.specs.Tour.{Mark, Block, Child, Item, Left, Reached, whole, blocks_met}
use Rattle.btr_volume.specs.declared.root.TreeRoot.{TreeRoot}
use Rattle.btr_volume.specs.declared.stop.Stop.{Stop}
use Rattle.btr_walk.specs.declared.place.RootPlace.{RootPlace}
use Rattle.btr_check.specs.declared.block_fault.BlockFault.{BlockFault}
use Rattle.btr_check.specs.declared.places.BlockId.{BlockId}
use Rattle.btr_check.specs.declared.walk.FileRange.{FileRange}
use Rattle.btr_check.specs.Before.{wrong, root_faults, refusal}
use Rattle.btr_check.specs.Filesystem.{Filesystem, kind_of_sums}
use Rattle.btr_check.specs.Running.{is_outside}
use Rattle.btr_check.specs.Trees.{is_among, first_met, listed, place_of, place_cmp, tree_of_item}
use Rattle.btr_check.specs.Walks.{broken, range_of, not_apart, tree_broken, tree_overlapping}

-- the first of two
abbrev pub or_first : {X : Type 0} → Option X → Option X → Option X
or_first None second = second
or_first (Some first) second = Some first

-- what is kept of the root tree: what is wrong with it first, and the trees that it lists
pub record RootSeen : Type 0 where
  pub kind : SumKind
  pub wrong : Option BlockFault
  pub trees : List TreeRoot

-- the tree that a mark of the root tree is an item of, if it is one
abbrev pub trees_at : Mark → List TreeRoot
trees_at (Block place block) = []
trees_at (Child addr place) = []
trees_at (Item item) = option_to_list (tree_of_item item)
trees_at (Left fault) = []

-- what is kept of the root tree before its first mark
abbrev pub nothing_seen : SumKind → RootSeen
nothing_seen kind = record { kind = kind; wrong = None; trees = [] }

-- how it ends: with the trees, or with what is wrong first
abbrev pub FindsTrees : RootSeen → Result (Vec TreeRoot Global) BlockFault → Type 0
FindsTrees seen result = MatchResult result (λ trees. (seen.wrong ≡ None) × (trees.items ≡ seen.trees)) (λ fault. seen.wrong ≡ Some fault)

-- what is kept of the root tree after one more mark
abbrev pub root_step : RootSeen → Mark → RootSeen
root_step seen mark = record { kind = seen.kind; wrong = or_first seen.wrong (wrong seen.kind mark); trees = seen.trees ++ trees_at mark }

-- the blocks that were met, as a set and in their order
pub record MetPlaces : Type 0 where
  pub keys : List BlockId
  pub list : List RootPlace

-- no blocks were met yet
abbrev pub no_places : MetPlaces
no_places = record { keys = []; list = [] }

-- the blocks that were met with one more, each once
abbrev pub with_place : MetPlaces → RootPlace → MetPlaces
with_place places place =
    if is_among places.keys (place_of place) then places
    else record { keys = insert_key place_cmp places.keys (place_of place); list = places.list ++ place ∷ [] }

-- what is kept of trees: what is broken in them, the ranges of files that aren't apart, the last range of the tree
-- that is walked, and the blocks that were met
pub record WalkSeen : Type 0 where
  pub kind : SumKind
  pub broken : List Finding
  pub overlapping : List Finding
  pub last : Option FileRange
  pub places : MetPlaces

-- what is kept of trees before the first mark
abbrev pub nothing_walked : SumKind → WalkSeen
nothing_walked kind = record { kind = kind; broken = []; overlapping = []; last = None; places = no_places }

-- nothing was found
abbrev pub is_nothing : List Finding → Bool
is_nothing [] = true
is_nothing (finding ∷ findings) = false

-- a range of a file behind the last one
abbrev pub behind_last : Option FileRange → Option FileRange → List Finding
behind_last None range = []
behind_last (Some last) None = []
behind_last (Some last) (Some range) = option_to_list (not_apart (last, range))

-- the last range of a file, or the one before where a mark has none
abbrev pub or_last : Option FileRange → Option FileRange → Option FileRange
or_last last None = last
or_last last (Some range) = Some range

-- the blocks that were met after one more mark
abbrev pub place_met : MetPlaces → Mark → MetPlaces
place_met places (Block place block) = with_place places place
place_met places (Child addr place) = places
place_met places (Item item) = places
place_met places (Left fault) = places

-- the range of a file that a mark has, if it has one
abbrev pub range_at : Mark → Option FileRange
range_at (Block place block) = None
range_at (Child addr place) = None
range_at (Item item) = range_of item
range_at (Left fault) = None

-- what is kept of trees after one more mark
abbrev pub walk_step : WalkSeen → Mark → WalkSeen
walk_step seen mark = record {
  kind = seen.kind;
  broken = seen.broken ++ option_to_list (broken seen.kind mark);
  overlapping = seen.overlapping ++ behind_last seen.last (range_at mark);
  last = or_last seen.last (range_at mark);
  places = place_met seen.places mark;
}

-- another tree begins
abbrev pub begun : WalkSeen → WalkSeen
begun seen = record { kind = seen.kind; broken = seen.broken; overlapping = seen.overlapping; last = None; places = seen.places }

-- how the walk of the root tree ends: with the trees that it lists, or with what is wrong with it first
abbrev pub RootEnds : Filesystem → Result (Vec TreeRoot Global) Stop → Type 0
RootEnds fs (Ok trees) = (root_faults fs ≡ []) × (trees.items ≡ listed fs.sup fs.blocks)
RootEnds fs (Err stop) = is_outside stop ≡ false → refusal fs ≡ Some stop

-- some trees were walked
pub record HasWalked (fs : Filesystem) (trees : List TreeRoot) (seen : WalkSeen) : Type 0 where
  pub kind : seen.kind ≡ kind_of_sums fs
  pub broken : seen.broken ≡ flat_map (tree_broken fs) trees
  pub overlapping : seen.overlapping ≡ flat_map (tree_overlapping fs) trees
  pub places : seen.places ≡ fold with_place no_places
      (map (λ (one : Reached). one.place) (flat_map (λ (tree : TreeRoot). blocks_met (whole fs.blocks tree.place)) trees))

-- these are the blocks that some trees reach, each once
abbrev pub ArePlaces : Filesystem → List TreeRoot → List RootPlace → Type 0
ArePlaces fs trees places = places ≡ map (λ (one : Reached). one.place)
    (first_met [] (flat_map (λ (tree : TreeRoot). blocks_met (whole fs.blocks tree.place)) trees))

-- what was walked of some trees: what is broken in them, the ranges of files that aren't
-- apart, and the blocks that they reach, each once
pub record IsWalkOf (fs : Filesystem) (trees : List TreeRoot) (seen : WalkSeen) : Type 0 where
  pub broken : seen.broken ≡ flat_map (tree_broken fs) trees
  pub overlapping : seen.overlapping ≡ flat_map (tree_overlapping fs) trees
  pub places : ArePlaces fs trees seen.places.list
