-- How an object that is read was before calls and after them, and what may be said of what they read.
use Rattle.std.specs.Prelude.{◌≡◌, ℕ, ◌-◌, ◌^◌, ◌<◌, ◌≤◌}

-- what clauses see of the object: all that it holds, and the count of its reads that failed
pub record Seen (H : Type 0) : Type 0 where
  pub held : H
  pub faults : ℕ

-- no read failed: the count is as before, and not at its last value, where it would stand still
abbrev pub NoReadFailed : ℕ → ℕ → Type 0
NoReadFailed before now = (now ≡ before) × (now < 2 ^ 64 - 1)

-- how surely it is known which copy of a block was read: the first that passes its test, or any that does
pub data Sure : Type 0 where
  First : Sure
  Any : Sure

-- What was read can be told: as the first copies where no read failed, and as any where all that pass agree.
-- `Agreed` says that they do wherever there is a test.
abbrev pub CanTell : {H : Type 0} → (H → Type 0) → Sure → Seen H → Seen H → Type 0
CanTell Agreed First before now = NoReadFailed before.faults now.faults
CanTell Agreed Any before now = Agreed before.held

-- A call, or several in a row: what is held stays, the count never falls, and so far as what they read
-- can be told P holds of what is held.
pub record Calls {H : Type 0} (Agreed : H → Type 0) (before now : Seen H) (P : Sure → H → Type 0) : Type 0 where
  pub same : now.held ≡ before.held
  pub later : before.faults ≤ now.faults
  pub content : (sure : Sure) → CanTell Agreed sure before now → P sure before.held
