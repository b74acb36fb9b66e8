-- What stood in an output stays, whatever fails.
use Rattle.std.proofs.Common.{List, [], ◌++◌, take, Option, Result, Ok, Err}
use Rattle.btr_rack.specs.Out.{Puts}
use Rattle.btr_rack.specs.declared.error.SinkError.{SinkError}
use Rattle.btr_read.specs.Fate.{Lost}
use Rattle.btr_read.specs.declared.want.Want.{Want}
use Rattle.btr_text.specs.Text.{WritesOut as WritesText}
use Rattle.btr_text.proofs.Writing.{adds_nothing, adds_twice}
use Rattle.btr_walk.specs.Reading.{Map, UnreadBlock}
use Rattle.btr_volume.specs.declared.stop.Stop.{Stop}
use Rattle.btr_volume.specs.declared.stop.Stop.TheVariants.{NoTree, Tree, Deletion, Balance, Missing, Image, Sink, Out, Memory}
use Rattle.btr_dump.specs.Pieces.{Text}
use Rattle.btr_dump.specs.Showing.{Grows, TextRun, CutIn, ShowsText}

-- an output to which nothing is put grows by nothing
pub grows_none : (text : Option Text) → Grows text text
grows_none text = record { more = []; adds = adds_nothing text }

-- what stays while an output grows, and then while it grows on, stays
pub grows_twice : {a b c : Option Text} → Grows a b → Grows b c → Grows a c
grows_twice {a} {b} {c} one two = record { more = one.more ++ two.more; adds = adds_twice a b c one.more two.more one.adds two.adds }

-- by what was put
pub puts_grow : (T : Type 0) (old new : Option Text) (text : Text) (r : Result T SinkError) → Puts old new text r → Grows old new
puts_grow T old new text (Ok x) puts = record { more = text; adds = puts }
puts_grow T old new text (Err e) puts = record { more = take puts.0 text; adds = puts.1 }

-- by what was written of a text
pub text_grows : (T : Type 0) (old new : Option Text) (waited waits text : Text) (r : Result T SinkError) → WritesText old new waited waits text r
    → Grows old new
text_grows T old new waited waits text (Ok x) w = record { more = w.put; adds = w.adds }
text_grows T old new waited waits text (Err e) w = record { more = take w.count (waited ++ text); adds = w.adds }

-- by what was written of a run
pub run_grows : (Is : UnreadBlock → Want → Type 0) (seen : List Want) (r : TextRun (Unit {0})) (old new : Option Text) (waited waits : Text)
    (result : Result (Unit {0}) Stop) → ShowsText Is seen r old new waited waits result → Grows old new
run_grows Is seen r old new waited waits result = by result
  where
    -- a refusal of the output within the run lets stay what stood there
    cut : CutIn r old new waited waits → Grows old new
    cut c = record { more = _; adds = c.cut.adds }

    by : (result : Result (Unit {0}) Stop) → ShowsText Is seen r old new waited waits result → Grows old new
    by (Ok u) w = record { more = w.wrote.put; adds = w.wrote.adds }
    by (Err (Tree f)) w = record { more = w.wrote.put; adds = w.wrote.adds }
    by (Err Out) w = cut w
    by (Err Memory) w = cut w
    by (Err (NoTree n)) w = absurd w
    by (Err (Deletion n)) w = absurd w
    by (Err Balance) w = absurd w
    by (Err (Missing n)) w = absurd w
    by (Err (Image slot)) w = absurd w
    by (Err Sink) w = absurd w

-- a block map by which nothing is had
pub no_block : Map
no_block want = Err (Lost 0)
