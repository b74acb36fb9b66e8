-- What calls answer and put.
use Rattle.std.specs.Prelude.{◌≡◌, ℕ, Bool, List, [], ◌++◌, Result, Ok, Err}
use Rattle.btr_prog.specs.Prog.{Prog}
use Rattle.btr_prog.specs.Answers.{Halt, Fault, Broke}
use Rattle.btr_prog.specs.Answers as answers
use Rattle.btr_prog.specs.Goes.{Goes}
use Rattle.btr_prog_example.specs.declared.blocks.Want.{Want}
use Rattle.btr_prog_example.specs.declared.blocks.Stop.{Stop}
use Rattle.btr_prog_example.specs.declared.blocks.Stop.TheVariants.{Lost, Unread, Sink, Memory}
use Rattle.btr_prog_example.specs.Blocks.{IsTold}
use Rattle.btr_prog_example.specs.Rows.{Row, part}
use Rattle.btr_prog_example.specs.Listing.{rows}

-- a stop as a halt of the program: a fault of a page, a page that could not be read, or a step that was broken off
abbrev pub halt_of : Stop → Halt ℕ Want
halt_of (Lost a) = Fault a
halt_of (Unread told) = answers.Unread told
halt_of Sink = Broke
halt_of Memory = Broke

-- the answer of a call as an answer of the program
abbrev pub answer_of : {A : Type 0} → Result A Stop → Result A (Halt ℕ Want)
answer_of (Ok a) = Ok a
answer_of (Err stop) = Err (halt_of stop)

-- the rows that were put, and the answer, follow a run of the program
abbrev pub PutsRows : {A : Type 0} → (ℕ → Want → Result (List ℕ) ℕ) → Prog Want ℕ Row A → List Row → List Row → Result A Stop → Type 0
PutsRows Bs p old new result = (done : List Row) × (new ≡ old ++ done) × Goes IsTold part [] Bs p done (answer_of result)

-- the same of the rows of a page, which wants nothing
abbrev pub PutsPage : List ℕ → List Row → List Row → Result Bool Stop → Type 0
PutsPage bytes old new result = (Bs : ℕ → Want → Result (List ℕ) ℕ) → PutsRows Bs (rows bytes) old new result
