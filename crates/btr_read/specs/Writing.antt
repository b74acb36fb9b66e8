-- What reading into slots may do to a pool.
use Rattle.std.specs.Prelude.{◌≡◌, ◌≢◌, ℕ, Bool, true, false, List, [], ◌∷◌, length, slice_index_or, slice_set, Option, Some, None, IsSome, ◌≤◌, ◌+◌}
use Rattle.std.specs.Prelude.{◌-◌, ◌^◌, min}
use Rattle.btr_pool.specs.Slots.{Slots, IsLive, IsFree, bytes_at}
use Rattle.btr_read.specs.declared.row_slots.RowSlots.{RowSlots}
use Rattle.btr_read.specs.declared.want.Want.{Want}

-- the loans stay as they are, and only one of them, and slots that are free, change their bytes
pub record OnlyWrites (k : ℕ) (old new : Slots) : Type 0 where
  pub size : new.size ≡ old.size
  pub lent : new.lent ≡ old.lent
  pub count : length new.bytes ≡ length old.bytes
  pub others : (j : ℕ) → j ≢ k → slice_index_or old.lent j false ≡ true → bytes_at new j ≡ bytes_at old j

-- a slot is none of these
abbrev pub IsNoneOf : List ℕ → ℕ → Type 0
IsNoneOf [] j = Unit {0}
IsNoneOf (k ∷ ks) j = (j ≢ k) × IsNoneOf ks j

-- the loans stay as they are, and only these slots change their bytes
pub record OnlyWritesIn (ks : List ℕ) (old new : Slots) : Type 0 where
  pub size : new.size ≡ old.size
  pub lent : new.lent ≡ old.lent
  pub count : length new.bytes ≡ length old.bytes
  pub others : (j : ℕ) → IsNoneOf ks j → bytes_at new j ≡ bytes_at old j

-- three loans of a pool are live, each of a slot of its own
pub record AreThreeLoans (pool : Slots) (a b c : ℕ) : Type 0 where
  pub a_live : IsLive pool a
  pub b_live : IsLive pool b
  pub c_live : IsLive pool c
  pub ab : a ≢ b
  pub ac : a ≢ c
  pub bc : b ≢ c

-- four loans of a pool are live, each of a slot of its own
pub record AreFour (pool : Slots) (a b c d : ℕ) : Type 0 where
  pub first : AreThreeLoans pool a b c
  pub d_live : IsLive pool d
  pub ad : a ≢ d
  pub bd : b ≢ d
  pub cd : c ≢ d

-- the slots of a row are four live loans of a pool, each of a slot of its own
abbrev pub AreRowSlots : Slots → RowSlots → Type 0
AreRowSlots pool slots = AreFour pool slots.sought.now slots.p.now slots.q.now slots.spare.now

-- what is still known to stand in the slots was known before, and its bytes stand
abbrev pub StillKept : List (Option Want) → List (Option Want) → Slots → Slots → Type 0
StillKept old_wants new_wants old new =
    (j : ℕ) (want : Want) → slice_index_or new_wants j None ≡ Some want
    → (slice_index_or old_wants j None ≡ Some want) × (bytes_at new j ≡ bytes_at old j)

-- the same of the blocks that are known to be good nodes
abbrev pub StillNodes : List (Option Want) → List Bool → List (Option Want) → List Bool → Slots → Slots → Type 0
StillNodes old_wants old_nodes new_wants new_nodes old new =
    (j : ℕ) (want : Want) → slice_index_or new_wants j None ≡ Some want → slice_index_or new_nodes j false ≡ true
    → (slice_index_or old_wants j None ≡ Some want) × (slice_index_or old_nodes j false ≡ true) × (bytes_at new j ≡ bytes_at old j)

-- by the wants whose blocks stand in the slots: that of a want stands in no free slot
abbrev pub NoneKeeps : Slots → List (Option Want) → Want → Type 0
NoneKeeps pool wants want = (k : ℕ) → IsFree pool k → slice_index_or wants k None ≢ Some want

-- by the wants whose blocks stand in the slots, and the times of their last use: a slot is to be written no later than
-- another. What stands in it is forgotten only if something stands in the other too, and was used no earlier
abbrev pub ComesFirst : List (Option Want) → List ℕ → ℕ → ℕ → Type 0
ComesFirst wants used slot other =
    IsSome (slice_index_or wants slot None)
    → IsSome (slice_index_or wants other None) × (slice_index_or used slot 0 ≤ slice_index_or used other 0)

-- by the times of the slots' last use, and what the times have counted up to: a slot is used at a time of its own,
-- behind all others until the count stands still at its type's last value
pub record IsUsed (old_used : List ℕ) (old_clock slot : ℕ) (new_used : List ℕ) (new_clock : ℕ) : Type 0 where
  pub clock : new_clock ≡ min (old_clock + 1) (2 ^ 64 - 1)
  pub used : new_used ≡ slice_set old_used slot new_clock
