-- The rows of a tray.
use Rattle.btr_prog_example.specs.declared.tray.Kept.{Kept}
use Rattle.btr_prog_example.specs.declared.tray.Kept.TheVariants as kept
use Rattle.btr_prog_example.specs.Rows.{Row, Bytes, End}

-- the row that was kept
abbrev pub row_of : Kept → Row
row_of (kept.Bytes v) = Bytes v.items
row_of kept.End = End
