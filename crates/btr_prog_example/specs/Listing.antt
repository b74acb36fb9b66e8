-- The listing of a catalogue, as a program over wants.
use Rattle.std.specs.Prelude.{ℕ, Bool, true, false, List, [], ◌∷◌, Result, Ok, Err}
use Rattle.btr_prog.specs.Prog.{Prog, Return, Need, Emit, bind}
use Rattle.btr_prog.specs.Thread.{thread}
use Rattle.btr_prog_example.specs.declared.blocks.Want.{Want}
use Rattle.btr_prog_example.specs.declared.blocks.Want.TheVariants.{Catalogue, Page}
use Rattle.btr_prog_example.specs.Rows.{Row, Bytes, End}

-- the pages of a catalogue, as the steps of a program that wants it
abbrev pub items : List ℕ → Prog Want ℕ ℕ (Unit {0})
items [] = Return tt
items (page ∷ pages) = Emit page (items pages)

-- the pages of a catalogue, as a program that wants it
abbrev pub catalogue : ℕ → Prog Want ℕ ℕ (Unit {0})
catalogue a = Need (Catalogue a) items

-- the rows of a page, and whether it has bytes
abbrev pub rows : List ℕ → Prog Want ℕ Row Bool
rows [] = Return false
rows (b ∷ bytes) = Emit (Bytes (b ∷ bytes)) (Emit End (Return true))

-- the rows of a page, and whether it has bytes, as a program that wants it
abbrev pub shown : ℕ → Prog Want ℕ Row Bool
shown page = Need (Page page) rows

-- on from a page that was shown; an empty one ends the listing with the last
abbrev pub next : ℕ → ℕ → Bool → Result ℕ ℕ
next last page true = Ok page
next last page false = Err last

-- a page is shown, and the listing goes on by what came of it
abbrev pub treat : ℕ → ℕ → Prog Want ℕ Row (Result ℕ ℕ)
treat last page = bind (shown page) (λ more. Return (next last page more))

-- each page is shown wholly before the next is wanted
abbrev pub listing : ℕ → Prog Want ℕ Row ℕ
listing a = thread treat (λ last u. last) 0 (catalogue a)
