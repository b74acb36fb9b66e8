-- What writing a text does, over an output and the bytes that wait before it.
use Rattle.std.specs.Prelude.{◌≡◌, ℕ, List, [], ◌++◌, take, Option, Result, Ok, Err}
use Rattle.btr_rack.specs.declared.error.SinkError.{SinkError}
use Rattle.btr_rack.specs.Out.{Adds}

-- a text was written: what was put, and then what waits, is what waited before and then the text
pub record Wrote (old new : Option (List ℕ)) (waited waits text : List ℕ) : Type 0 where
  pub put : List ℕ
  pub adds : Adds old new put
  pub whole : put ++ waits ≡ waited ++ text

-- the output refused: a first part of what waited before and then of the text was put, and nothing waits
pub record WasCut (old new : Option (List ℕ)) (waited waits text : List ℕ) : Type 0 where
  pub count : ℕ
  pub adds : Adds old new (take count (waited ++ text))
  pub empty : waits ≡ []

-- what writing a text does
abbrev pub WritesOut : {T : Type 0} → Option (List ℕ) → Option (List ℕ) → List ℕ → List ℕ → List ℕ → Result T SinkError → Type 0
WritesOut old new waited waits text (Ok _) = Wrote old new waited waits text
WritesOut old new waited waits text (Err _) = WasCut old new waited waits text
