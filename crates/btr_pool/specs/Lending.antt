-- What a pool ends as, once a `&mut` into one of its slots has ended.
use Rattle.std.specs.Prelude.{ℕ, List}
use Rattle.std.specs.Borrow.{Lends, MutBor, Fml, Array, u8}
use Rattle.btr_pool.specs.Slots.{Slots, poured}
use Rattle.btr_pool.specs.contracts.pool.Pool.{the_row}

-- what was last behind r stands in the pool from the start of slot k on
abbrev pub LendsSlot : MutBor Slots → ℕ → MutBor (List ℕ) → Fml
LendsSlot pool k r = Lends the_row (Array u8 0) pool r (poured pool.now k)
