-- An output in memory.
use Rattle.std.specs.Prelude.{ℕ, List, []}
use Rattle.btr_rack.specs.Calls.{CallCount, no_calls}

-- an output in memory: its text, and its calls
pub record MemoryOut : Type 0 where
  pub text : List ℕ
  pub calls : CallCount

-- an output to which nothing was written
abbrev pub empty_out : MemoryOut
empty_out = record { text = []; calls = no_calls }
