-- The steps of restore.
use Rattle.std.specs.Prelude.{ℕ, List, take, min, Option, Some, None}

-- a call of the sink, by its name, its bytes or its count of zeros, or a line of the output
pub data Step : Type 0 where
  Start : List ℕ → Step
  Dir : List ℕ → Step
  Up : Step
  File : List ℕ → Step
  Bytes : List ℕ → Step
  Zeros : ℕ → Step
  Done : Step
  Line : List ℕ → Step

-- what stands of a step that is broken off after n bytes
abbrev pub part : Step → ℕ → Option Step
part (Start name) n = None
part (Dir name) n = None
part Up n = None
part (File name) n = None
part (Bytes bytes) n = Some (Bytes (take n bytes))
part (Zeros count) n = Some (Zeros (min n count))
part Done n = None
part (Line text) n = Some (Line (take n text))
