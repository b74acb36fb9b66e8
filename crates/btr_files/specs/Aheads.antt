-- Checksums that are kept, of sectors that are read one behind another.
use Rattle.std.specs.Prelude.{◌≡◌, ℕ, ◌≤◌, true, List, [], Option, Some, Result, Ok}
use Rattle.std.specs.Option.{option_map}
use Rattle.btr_base.specs.declared.key.Key.{Key}
use Rattle.btr_base.specs.declared.kind.SumKind.{SumKind}
use Rattle.btr_base.specs.declared.stored.Sum.{Sum}
use Rattle.btr_items.specs.declared.sum_run.SumRun.{SumRun}
use Rattle.btr_prog.specs.Answers.{Follows, no_part}
use Rattle.btr_prog.specs.Prog.{exec}
use Rattle.btr_read.specs.declared.want.Want.{Want}
use Rattle.btr_volume.specs.Lookup.{Lookup}
use Rattle.btr_volume.specs.Tree.{key}
use Rattle.btr_volume.specs.declared.root.TreeRoot.{TreeRoot}
use Rattle.btr_walk.specs.Le.{TreeItem, le}
use Rattle.btr_walk.specs.Reach.{SameUpTo}
use Rattle.btr_walk.specs.Reading.{Map, UnreadBlock, answer_of}
use Rattle.btr_walk.specs.declared.fault.TreeFault.{TreeFault}
use Rattle.btr_walk.specs.Showing.{item_of}
use Rattle.btr_walk.specs.BlockPointer.{is_below}
use Rattle.btr_walk.specs.declared.found.Reach.{Reach}
use Rattle.btr_walk.specs.declared.place.RootPlace.{RootPlace}
use Rattle.btr_files.specs.declared.sums_ahead.SumsAhead.{SumsAhead}
use Rattle.btr_files.specs.Sums.{sum_at, sum_in, sum_under, sums_objectid}

-- the key that the checksum of the sector at an address is looked up by
abbrev pub sum_key : ℕ → Key
sum_key addr = key sums_objectid 128 addr

-- the checksum that is kept of the sector at an address
abbrev pub kept_sum : SumsAhead → ℕ → Option Sum
kept_sum ahead addr = sum_in ahead.kind addr ahead.bytes ahead.run

-- each checksum that is kept is that of its sector in the body of a run; it isn't
-- before an address, and its key is below a bound
pub record IsFrom (kind : SumKind) (addr : ℕ) (body : List ℕ) (run : SumRun) (until : Option Key) (ahead : SumsAhead) : Type 0 where
  pub of_kind : ahead.kind ≡ kind
  pub behind : (other : ℕ) (sum : Sum) → kept_sum ahead other ≡ Some sum → addr ≤ other
  pub below : (other : ℕ) (sum : Sum) → kept_sum ahead other ≡ Some sum → is_below until (sum_key other) ≡ true
  pub same : (other : ℕ) (sum : Sum) → kept_sum ahead other ≡ Some sum → sum_in kind other body run ≡ Some sum

-- each checksum that is kept is what a lookup in the tree with this root gives
abbrev pub IsAheadIn : Map → RootPlace → SumsAhead → Type 0
IsAheadIn B root ahead =
    (other : ℕ) (sum : Sum) → kept_sum ahead other ≡ Some sum → (exec B (sum_under ahead.kind root other)).ending ≡ Ok (Some sum)

-- the item that a lookup found, if there is one
abbrev pub item_reached : Reach → Option TreeItem
item_reached reach = option_map item_of reach.found

-- where a lookup finds this item and reaches so far, the checksums that are kept are what lookups give
abbrev pub IsReadAhead : SumKind → ℕ → Reach → SumsAhead → Type 0
IsReadAhead kind addr reach ahead =
    (B : Map) (root : RootPlace)
    → (exec B (le {S = ⊥} root (sum_key addr))).ending ≡ Ok (item_reached reach)
    → SameUpTo B root (sum_key addr) reach.until
    → IsAheadIn B root ahead

-- the same of the checksum tree, if there is one: without it none are kept
abbrev pub IsSummed : Map → Option TreeRoot → SumsAhead → Type 0
IsSummed B sums ahead =
    (other : ℕ) (sum : Sum) → kept_sum ahead other ≡ Some sum → (exec B (sum_at ahead.kind sums other)).ending ≡ Ok (Some sum)

-- an answer follows a lookup
abbrev pub ComesOf : {A : Type 0} → (UnreadBlock → Want → Type 0) → Map → Lookup A → Result A TreeFault → Type 0
ComesOf Is B lookup result = Follows {S = ⊥} Is no_part [] (exec B lookup) [] (answer_of result)
