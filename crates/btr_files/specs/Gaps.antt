-- Sectors without checksums that follow each other.
use Rattle.std.specs.Prelude.{◌≡◌, ℕ, ◌+◌, ◌*◌, ◌<◌, ◌≤◌, Option, Some, None, Result, Ok, Err, ⊤}
use Rattle.btr_base.specs.declared.kind.SumKind.{SumKind}
use Rattle.btr_base.specs.declared.stored.Sum.{Sum as TheSum}
use Rattle.btr_prog.specs.Prog.{exec}
use Rattle.btr_volume.specs.declared.root.TreeRoot.{TreeRoot}
use Rattle.btr_walk.specs.Le.{le}
use Rattle.btr_walk.specs.Reach.{SameUpTo}
use Rattle.btr_walk.specs.Reading.{Map}
use Rattle.btr_walk.specs.declared.fault.TreeFault.{TreeFault}
use Rattle.btr_walk.specs.declared.found.Reach.{Reach}
use Rattle.btr_files.specs.declared.summed.Summed.{Summed}
use Rattle.btr_files.specs.declared.summed.Summed.TheVariants.{Sum, Gap}
use Rattle.btr_files.specs.Aheads.{item_reached, sum_key}
use Rattle.btr_files.specs.Sums.{sum_at}

-- the checksum of the first sector
abbrev pub first_sum : Result Summed TreeFault → Result (Option TheSum) TreeFault
first_sum (Ok (Sum sum)) = Ok (Some sum)
first_sum (Ok (Gap n)) = Ok None
first_sum (Err f) = Err f

-- a gap has a sector
abbrev pub HasFirst : Summed → Type 0
HasFirst (Sum sum) = ⊤
HasFirst (Gap n) = 1 ≤ n

-- n sectors from an address on have no checksum, each by its own lookup
abbrev pub HaveNone : SumKind → Map → Option TreeRoot → ℕ → ℕ → Type 0
HaveNone kind B sums addr n =
    (i : ℕ) → i < n → (exec B (sum_at kind sums (addr + i * 4096))).ending ≡ Ok None

-- the sectors of a gap that was answered have none
abbrev pub IsGap : SumKind → Map → Option TreeRoot → ℕ → Result Summed TreeFault → Type 0
IsGap kind B sums addr (Ok (Sum sum)) = ⊤
IsGap kind B sums addr (Ok (Gap n)) = HaveNone kind B sums addr n
IsGap kind B sums addr (Err f) = ⊤

-- where a lookup finds this item or none and reaches so far, the gap is one
abbrev pub IsReadGap : SumKind → ℕ → Reach → Result Summed TreeFault → Type 0
IsReadGap kind addr reach result =
    (B : Map) (sums : TreeRoot)
    → (exec B (le {S = ⊥} sums.place (sum_key addr))).ending ≡ Ok (item_reached reach)
    → SameUpTo B sums.place (sum_key addr) reach.until
    → IsGap kind B (Some sums) addr result
