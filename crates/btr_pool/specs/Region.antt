-- How a region of bytes stands for the slots.
use Rattle.std.specs.Prelude.{◌≡◌, ◌*◌, ◌≤◌, ◌<◌, length}
use Rattle.btr_pool.specs.Slots.{Slots, pieces}
use Rattle.btr_pool.specs.declared.pool.Pool.TheInside.{Inside}

-- the region is cut into the slots, the first at its start
abbrev pub slots_of : Inside → Slots
slots_of pool = record { size = pool.size; lent = pool.ledger; bytes = pieces (length pool.ledger) pool.size pool.region.items }

-- slots of 1 to 65536 bytes, at most 64, fill the region
pub record IsPool (pool : Inside) : Type 0 where
  pub some : 0 < pool.size
  pub small : pool.size ≤ 65536
  pub few : length pool.ledger ≤ 64
  pub whole : length pool.region.items ≡ length pool.ledger * pool.size
