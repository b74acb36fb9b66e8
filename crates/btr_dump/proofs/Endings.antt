-- How a text ends.
use Rattle.std.proofs.Common.{◌≡◌, ℕ, ◌+◌, true, false, List, [], ◌++◌, length, take, Option, Result, Ok, Err, sym, ap, ◌∙◌, subst}
use Rattle.std.proofs.lemmas.Bool.{false≢true}
use Rattle.std.proofs.Math.Seq.{take-append-add}
use Rattle.btr_prog.specs.Prog.{steps_of}
use Rattle.btr_prog.specs.Answers.{Halt, Broke, Follows}
use Rattle.btr_rack.specs.Out.{Adds}
use Rattle.btr_rack.specs.declared.error.SinkError.{SinkError}
use Rattle.btr_rack.specs.declared.error.SinkError.TheVariants as sink
use Rattle.btr_read.specs.Fate as fate
use Rattle.btr_read.specs.declared.want.Want.{Want}
use Rattle.btr_text.proofs.Writing.{adds_twice}
use Rattle.btr_walk.specs.Reading.{UnreadBlock, halt_of}
use Rattle.btr_volume.specs.declared.stop.Stop.{Stop}
use Rattle.btr_volume.specs.declared.stop.Stop.TheVariants.{NoTree, Tree, Deletion, Balance, Missing, Image, Sink, Out, Memory}
use Rattle.btr_dump.specs.Pieces.{Text}
use Rattle.btr_dump.specs.Showing.{part, whole, TextRun, PutsText, WroteAll, ShowsText}
use Rattle.btr_dump.specs.Stops.{stop_of, is_cut}
use Rattle.btr_dump.proofs.Writing.{IsDone, done_value, done_fault, broke_in}

module _ (Is : UnreadBlock → Want → Type 0) (r : TextRun (Unit {0})) where
  -- a first part of all that was written is put
  some_put : (begun mid new : Option Text) (waits : Text) (n : ℕ) (answer : Result (Unit {0}) (Halt fate.Fault UnreadBlock))
      (w : WroteAll Is [] r begun mid [] waits answer) → IsDone r w.done → Adds mid new (take n waits)
      → (done : List Text) × Adds begun new (whole done) × Follows Is part [] r done (Err Broke)
  some_put begun mid new waits n answer w d adds =
      let all : w.wrote.put ++ waits ≡ whole (steps_of d.before) = w.wrote.whole ∙ ap whole d.steps in
      broke_in Is r d.before d.behind begun new (length w.wrote.put + n) d.place
      (subst (Adds begun new) (sym (take-append-add w.wrote.put waits n) ∙ ap (take (length w.wrote.put + n)) all)
      (adds_twice begun mid new w.wrote.put (take n waits) w.wrote.adds adds))

  -- where the output refused on the way nothing waits: what was put follows the run
  pub finish_cut : (begun new : Option Text) (waits : Text) (shown : Result (Unit {0}) Stop) → is_cut shown ≡ true
      → ShowsText Is [] r begun new [] waits shown → PutsText Is r begun new shown
  finish_cut begun new waits (Ok u) cut w = absurd (false≢true cut)
  finish_cut begun new waits (Err Out) cut w =
      let b = broke_in Is r w.before w.behind begun new w.cut.count w.place w.cut.adds in record { done = b.0; adds = b.1; follows = b.2 }
  finish_cut begun new waits (Err Memory) cut w =
      let b = broke_in Is r w.before w.behind begun new w.cut.count w.place w.cut.adds in record { done = b.0; adds = b.1; follows = b.2 }
  finish_cut begun new waits (Err (NoTree n)) cut w = absurd w
  finish_cut begun new waits (Err (Tree f)) cut w = absurd (false≢true cut)
  finish_cut begun new waits (Err (Deletion n)) cut w = absurd w
  finish_cut begun new waits (Err Balance) cut w = absurd w
  finish_cut begun new waits (Err (Missing n)) cut w = absurd w
  finish_cut begun new waits (Err (Image slot)) cut w = absurd w
  finish_cut begun new waits (Err Sink) cut w = absurd w

  -- the output's refusal of the rest
  pub finish_refused : (begun mid new : Option Text) (waits : Text) (shown : Result (Unit {0}) Stop) (n : ℕ) (e : SinkError) → is_cut shown ≡ false
      → ShowsText Is [] r begun mid [] waits shown → Adds mid new (take n waits) → PutsText Is r begun new (Err (stop_of e))
  finish_refused begun mid new waits shown n e cut w adds = refused e (broke shown cut w)
    where
      -- whatever the run answered, what was put is that of a run that was broken off
      broke : (shown : Result (Unit {0}) Stop) → is_cut shown ≡ false → ShowsText Is [] r begun mid [] waits shown → (done : List Text)
          × Adds begun new (whole done) × Follows Is part [] r done (Err Broke)
      broke (Ok u) cut w = some_put begun mid new waits n (Ok u) w (done_value Is r w.done u w.follows) adds
      broke (Err (Tree f)) cut w = some_put begun mid new waits n (Err (halt_of f)) w (done_fault Is r w.done f w.follows) adds
      broke (Err Out) cut w = absurd (false≢true (sym cut))
      broke (Err Memory) cut w = absurd (false≢true (sym cut))
      broke (Err (NoTree n)) cut w = absurd w
      broke (Err (Deletion n)) cut w = absurd w
      broke (Err Balance) cut w = absurd w
      broke (Err (Missing n)) cut w = absurd w
      broke (Err (Image slot)) cut w = absurd w
      broke (Err Sink) cut w = absurd w

      -- a run that was broken off follows either refusal of the output
      refused : (e : SinkError) → (done : List Text) × Adds begun new (whole done) × Follows Is part [] r done (Err Broke)
          → PutsText Is r begun new (Err (stop_of e))
      refused sink.Failed b = record { done = b.0; adds = b.1; follows = b.2 }
      refused sink.Memory b = record { done = b.0; adds = b.1; follows = b.2 }
