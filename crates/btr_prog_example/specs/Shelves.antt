-- What a shelf holds.
use Rattle.std.specs.Prelude.{ℕ, List, Option, Some, None, Result, Ok, Err, slice_get}
use Rattle.std.specs.declared.vec.Vec.{Vec}
use Rattle.btr_prog_example.specs.Blocks.{Held, addr_of}

-- what a read of a slot answers: the block, or its number as a fault
abbrev pub block_in : {Z : Type 0} → ℕ → Option (Vec ℕ Z) → Result (List ℕ) ℕ
block_in a (Some v) = Ok v.items
block_in a None = Err a

-- what the blocks of a shelf are, by their wants
abbrev pub held_by : {Y Z : Type 0} → Vec (Vec ℕ Z) Y → Held
held_by blocks n w = block_in (addr_of w) (slice_get blocks.items (addr_of w))
