-- The standard output.
use Rattle.std.specs.Prelude.{◌≡◌, ℕ, List, [], ◌∷◌, ◌++◌, take, Result, Ok, Err}
use Rattle.btr_rack.specs.declared.raw_call.RawCall.TheVariants.{Stored}
use Rattle.btr_rack.specs.declared.raw_out.Refusal.{Refusal}
use Rattle.btr_rack.specs.History.{Event, event, refused}

-- what went out: the bytes that the calls took, one after the other; the newest call stands first
abbrev pub text_of : List Event → List ℕ
text_of [] = []
text_of (e ∷ older) = text_of older ++ e.bytes

-- a write of a first part of these bytes is noted, or that it was refused; an output has no offsets
abbrev pub NotesWrite : List ℕ → List Event → List Event → Result ℕ Refusal → Type 0
NotesWrite bytes old new (Ok n) = new ≡ event (Stored 0) (take n bytes) ∷ old
NotesWrite bytes old new (Err _) = new ≡ refused ∷ old
