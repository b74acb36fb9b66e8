-- The rows of a sink.
use Rattle.std.specs.Prelude.{◌≡◌, ◌⊎◌, ℕ, List, [], ◌∷◌, ◌++◌, take, Option, Some, None, Result, Ok, Err}
use Rattle.btr_prog_example.specs.declared.sink.Refused.{Refused}

-- a row of a sink: some bytes, or the end of a page
pub data Row : Type 0 where
  Bytes : List ℕ → Row
  End : Row

-- what stands of a row that was broken off after n bytes
abbrev pub part : Row → ℕ → Option Row
part (Bytes bytes) n = Some (Bytes (take n bytes))
part End n = None

-- a call put the bytes as a row, or was refused and left none of it or a first part
abbrev pub PutsRow : List Row → List Row → List ℕ → Result (Unit {0}) Refused → Type 0
PutsRow old new bytes (Ok u) = new ≡ old ++ (Bytes bytes ∷ [])
PutsRow old new bytes (Err e) = (new ≡ old) ⊎ ((n : ℕ) × (new ≡ old ++ (Bytes (take n bytes) ∷ [])))

-- a call put the end of a page, or was refused and left nothing
abbrev pub PutsEnd : List Row → List Row → Result (Unit {0}) Refused → Type 0
PutsEnd old new (Ok u) = new ≡ old ++ (End ∷ [])
PutsEnd old new (Err e) = new ≡ old
