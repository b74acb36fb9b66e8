-- What calls that list the checked blocks did, and how they answered.
use Rattle.std.specs.Prelude.{◌≡◌, ◌⊎◌, ℕ, zero, suc, ◌+◌, ◌*◌, true, Contains, ◌≤◌, ◌<◌, List, [], ◌∷◌, ◌++◌, fold, Option, Some, None, Result, Ok, Err}
use Rattle.std.specs.Prelude.{OnOk}
use Rattle.btr_base.specs.declared.kind.SumKind.{SumKind}
use Rattle.btr_base.specs.declared.stored.Sum.{Sum}
use Rattle.btr_files.specs.Aheads.{kept_sum}
use Rattle.btr_files.specs.declared.sums_ahead.SumsAhead.{SumsAhead}
use Rattle.btr_prog.specs.Answers.{Follows, no_part}
use Rattle.btr_prog.specs.Prog.{Mark, exec, prepend, steps_of}
use Rattle.btr_rack.specs.Rack.{Seen, OnlyReads, next_count}
use Rattle.btr_read.specs.Layout.{Layout}
use Rattle.btr_read.specs.Serves.{Serves}
use Rattle.btr_read.specs.declared.want.Want.{Want}
use Rattle.btr_read.specs.declared.want.Want.TheVariants.{Plain}
use Rattle.btr_walk.specs.Reading.{FaultCause, Tells, unread_by}
use Rattle.btr_walk.specs.declared.fault.TreeFault.{TreeFault}
use Rattle.btr_walk.specs.declared.fault.TreeFault.TheVariants as tree
use Rattle.btr_chunk.specs.declared.chunk.Chunk.{Chunk}
use Rattle.btr_super.specs.declared.superblock.Super.{Super}
use Rattle.btr_volume.specs.Looking.{SameVolume}
use Rattle.btr_volume.specs.declared.root.TreeRoot.{TreeRoot}
use Rattle.btr_volume.specs.declared.stop.Stop.{Stop}
use Rattle.btr_volume.specs.declared.stop.Stop.TheVariants.{NoTree, Tree, Memory}
use Rattle.btr_volume.specs.declared.volume.Volume.{Volume}
use Rattle.btr_scrub.specs.Listed.{IsList, kept_wants}
use Rattle.btr_scrub.specs.Units.{Meeting, Met, Checked, Unchecked, is_crossing, sector, sector_met, sectors}
use Rattle.btr_scrub.specs.declared.extent.Extent.{Extent}
use Rattle.btr_scrub.specs.declared.gathered.Gathered.{Gathered}
use Rattle.btr_volume.specs.Stops.{ended}

-- the wants of the checked blocks and of the plain sectors among what was met
abbrev pub wants_among : List Met → List Want
wants_among [] = []
wants_among (Checked want ∷ met) = want ∷ wants_among met
wants_among (Unchecked addr ∷ met) = Plain addr ∷ wants_among met

-- a count of the sectors without a checksum, after what was met
abbrev pub count_met : ℕ → Met → ℕ
count_met n (Checked want) = n
count_met n (Unchecked addr) = next_count n

-- n sectors from an address on, each with the checksum that is found for it, if one is
abbrev pub sectors_met : (ℕ → Option Sum) → ℕ → ℕ → List Met
sectors_met found zero addr = []
sectors_met found (suc n) addr = sector_met addr (found addr) ∷ sectors_met found n (addr + 4096)

-- n sectors that have no checksum, from an address on
abbrev pub gap_met : ℕ → ℕ → List Met
gap_met n addr = sectors_met (λ a. None) n addr

-- what was met was listed behind what was listed before
pub record Lists (old new : Gathered) (done : List Met) : Type 0 where
  pub is_list : IsList new.list
  pub kind : new.list.kind ≡ old.list.kind
  pub wants : kept_wants new.list ≡ kept_wants old.list ++ wants_among done
  pub unchecked : new.unchecked ≡ fold count_met old.unchecked done

-- the checksum of the sector at an address is kept, as one of this kind
pub record IsSumKept (kind : SumKind) (ahead : SumsAhead) (addr : ℕ) : Type 0 where
  pub sum : Sum
  pub of_kind : ahead.kind ≡ kind
  pub kept : kept_sum ahead addr ≡ Some sum

-- n of so many sectors from an address on were listed, whose checksums are kept
pub record ListsKept (addr most : ℕ) (ahead : SumsAhead) (old new : Gathered) (n : ℕ) : Type 0 where
  pub few : n ≤ most
  pub kept : (i : ℕ) → i < n → IsSumKept old.list.kind ahead (addr + i * 4096)
  pub lists : Lists old new (sectors_met (kept_sum ahead) n addr)

-- an extent at an address passes the end of a chunk of the table, or is a tree block that crosses an element of it
pub record IsCrossing (layout : Layout) (addr : ℕ) : Type 0 where
  pub chunk : Chunk
  pub there : Contains layout.chunks chunk
  pub extent : Extent
  pub at : extent.addr ≡ addr
  pub crosses : is_crossing chunk extent ≡ true

-- what lies behind a tree's fault
abbrev pub TreeCause : Layout → Seen → Seen → TreeFault → Type 0
TreeCause layout old new (tree.Crosses a) = FaultCause layout old new (tree.Crosses a) ⊎ IsCrossing layout a
TreeCause layout old new (tree.Malformed a) = Unit {0}
TreeCause layout old new fault = FaultCause layout old new fault

-- what lies behind a stop: a tree's fault has its cause; no other stop than these is answered
abbrev pub StopCause : {A : Type 0} → Layout → Seen → Seen → Result A Stop → Type 0
StopCause layout old new (Ok a) = Unit {0}
StopCause layout old new (Err (NoTree id)) = Unit {0}
StopCause layout old new (Err (Tree f)) = TreeCause layout old new f
StopCause layout old new (Err Memory) = Unit {0}
StopCause layout old new (Err stop) = ⊥

-- what is seen of a rack, a volume and a list
pub record Scene : Type 0 where
  pub rack : Seen
  pub vol : Volume
  pub list : Gathered

-- what is seen of a rack, a volume and a list, made of the three
abbrev pub scene : Seen → Volume → Gathered → Scene
scene rack vol list = record { rack = rack; vol = vol; list = list }

-- Calls only read, and the blocks that they met were listed: what they did follows a program, and they answered as it
-- ends. After a stop nothing is said of the list.
pub record Gathers {A : Type 0} (p : Meeting A) (x y : Scene) (answer : Result A Stop) : Type 0 where
  pub reads : OnlyReads x.rack y.rack
  pub volume : SameVolume x.vol y.vol
  pub serves : Serves y.rack y.vol.store
  pub done : List Met
  pub lists : OnOk answer (Lists x.list y.list done)
  pub content : Tells x.vol.store.layout x.rack y.rack (λ B. Follows (unread_by x.vol.store.layout x.rack y.rack) no_part [] (exec B p) done (ended answer))
  pub cause : StopCause x.vol.store.layout x.rack y.rack answer

-- Some of so many sectors were listed, which begin at an address: how many came out. A stop is
-- that of the first one.
abbrev pub GathersSome : Super → Option TreeRoot → ℕ → ℕ → Scene → Scene → Result ℕ Stop → Type 0
GathersSome s sums addr most x y (Ok n) =
    (1 ≤ n) × (n ≤ most) × Gathers (sectors s sums n addr) x y (Ok tt)
GathersSome s sums addr most x y (Err stop) = Gathers (sector s sums addr) x y (Err stop)

-- A program has come so far: some marks of it are past, whose steps are listed, and what is left is another program.
pub record HasPassed {A : Type 0} (p q : Meeting A) (x y : Scene) : Type 0 where
  pub reads : OnlyReads x.rack y.rack
  pub volume : SameVolume x.vol y.vol
  pub serves : Serves y.rack y.vol.store
  pub done : List Met
  pub lists : Lists x.list y.list done
  pub content : Tells x.vol.store.layout x.rack y.rack (λ B. (before : List (Mark Want Met)) × (exec B p ≡ prepend before (exec B q))
      × (done ≡ steps_of before))
