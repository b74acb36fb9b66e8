-- How the bits of a number stand for the slots that are lent.
use Rattle.std.specs.Prelude.{ℕ, ◌^◌, ◌≤◌, ◌<◌, ◌==◌, Bool, List, map}
use Rattle.std.specs.Int.{bit_at}
use Rattle.std.specs.List.{range_with_len}
use Rattle.btr_pool.specs.declared.ledger.Ledger.TheInside.{Inside}

-- by slot, whether it is lent: its bit is 0
abbrev pub lent_of : ℕ → ℕ → List Bool
lent_of count free = map (λ k. bit_at free k == 0) (range_with_len 0 count)

-- at most 64 slots, and no bit behind the last
pub record IsLedger (ledger : Inside) : Type 0 where
  pub few : ledger.count ≤ 64
  pub within : ledger.free < 2 ^ ledger.count
  pub start : ledger.start < 64
