-- The text of what a reader answers, and what writing a text to an output does.
use Rattle.std.specs.Prelude.{ℕ, List, [], Option, Result, Ok, Err}
use Rattle.std.specs.List.{flat_map}
use Rattle.btr_items.specs.declared.fault.ItemFault.{ItemFault}
use Rattle.btr_rack.specs.declared.error.SinkError.{SinkError}
use Rattle.btr_text.specs.Text.{WritesOut}

-- the text of what was read, and none of a fault
abbrev pub of_read : {T : Type 0} → (T → List ℕ) → Result T ItemFault → List ℕ
of_read line (Ok found) = line found
of_read line (Err fault) = []

-- the texts of what was read, one after another
abbrev pub of_parts : {T : Type 0} → (T → List ℕ) → List (Result T ItemFault) → List ℕ
of_parts line parts = flat_map (of_read line) parts

-- a text was written to an output, of which its own text is seen; what waits before it is a buffer's
abbrev pub WritesTo : {T O : Type 0} → (O → Option (List ℕ)) → O → O → List ℕ → List ℕ → List ℕ → Result T SinkError → Type 0
WritesTo seen old new waited waits text result = WritesOut (seen old) (seen new) waited waits text result
