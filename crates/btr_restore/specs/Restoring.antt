-- What calls of restore have done and answer, whatever failed.
use Rattle.std.specs.Prelude.{◌≡◌, ◌≢◌, ◌⊎◌, ℕ, List, [], ◌++◌, fold, replicate, Option, Some, None, Result, Ok, Err}
use Rattle.btr_prog.specs.Answers.{Halt}
use Rattle.btr_prog.specs.Goes.{Goes}
use Rattle.btr_rack.specs.Out.{CallAccount, Counts}
use Rattle.btr_rack.specs.Rack.{Seen}
use Rattle.btr_rack.specs.Sink.{Sink, started, entered, left, begun, grown, finished}
use Rattle.btr_rack.specs.declared.error.SinkError.TheVariants.{Failed}
use Rattle.btr_read.specs.Fate as fate
use Rattle.btr_read.specs.Layout.{Layout}
use Rattle.btr_read.specs.declared.want.Want.{Want}
use Rattle.btr_walk.specs.Reading.{Map, UnreadBlock, unread_by}
use Rattle.btr_volume.specs.Lookup.{Program}
use Rattle.btr_volume.specs.Stops.{IsBehindAnswer}
use Rattle.btr_volume.specs.declared.stop.Stop.{Stop}
use Rattle.btr_volume.specs.declared.stop.Stop.TheVariants.{NoTree, Tree, Sink as sink_stop, Out as out_stop, Memory}
use Rattle.btr_files.specs.Maps.{TellsAll}
use Rattle.btr_restore.specs.Outcome.{text_of}
use Rattle.btr_listing.specs.Step.{Step, Start, Dir, Up, File, Bytes, Zeros, Done, Line, part}

-- what a step does to a sink
abbrev pub sink_after : Sink → Step → Sink
sink_after s (Start name) = started name s
sink_after s (Dir name) = entered name s
sink_after s Up = left s
sink_after s (File name) = begun name s
sink_after s (Bytes bytes) = grown bytes s
sink_after s (Zeros count) = grown (replicate count 0) s
sink_after s Done = finished s
sink_after s (Line text) = s

-- what some steps do to the text of an output, where it is told
abbrev pub text_after : Option (List ℕ) → List Step → Option (List ℕ)
text_after None steps = None
text_after (Some text) steps = Some (text ++ text_of steps)

-- what is seen of the rack, the sink and the output
pub record Scene : Type 0 where
  pub rack : Seen
  pub sink : Sink
  pub text : Option (List ℕ)

-- what is seen of a rack, a sink and an output
abbrev pub scene : Seen → Sink → Option (List ℕ) → Scene
scene rack sink text = record { rack = rack; sink = sink; text = text }

-- Some steps were done in the sink and in the output; so far as the reads were steady, P holds of them, of what a block
-- may come to, and of which want could not be read.
pub record Did (layout : Layout) (before now : Scene) (P : (UnreadBlock → Want → Type 0) → (ℕ → Map) → List Step → Type 0) : Type 0 where
  pub done : List Step
  pub sink : now.sink ≡ fold sink_after before.sink done
  pub text : now.text ≡ text_after before.text done
  pub content : TellsAll layout before.rack now.rack (λ Bs. P (unread_by layout before.rack now.rack) Bs done)

-- what was done and answered follows a run of a program
abbrev pub Does : {A : Type 0} → Layout → Program Step A → Scene → Scene → Result A (Halt fate.Fault UnreadBlock) → Type 0
Does layout p before now answer = Did layout before now (λ Is Bs done. Goes Is part [] Bs p done answer)

-- the stops that may be answered
abbrev pub IsRestoreStop : Stop → Type 0
IsRestoreStop (NoTree id) = Unit {0}
IsRestoreStop (Tree f) = Unit {0}
IsRestoreStop sink_stop = Unit {0}
IsRestoreStop out_stop = Unit {0}
IsRestoreStop Memory = Unit {0}
IsRestoreStop stop = ⊥

-- what lies behind an answer
abbrev pub RestoreStopCause : {A : Type 0} → Layout → Seen → Seen → Result A Stop → Type 0
RestoreStopCause layout old new answer = IsBehindAnswer IsRestoreStop layout old new answer

-- the account of the sink at a stop: it changed only where a call of it failed
abbrev pub SinkStops : CallAccount → CallAccount → Stop → Type 0
SinkStops old new sink_stop = Counts {T = Unit {0}} old new (Err Failed)
SinkStops old new stop = new ≡ old

-- the account of the output at a stop: it changed only where a call of it failed, after which the
-- sink may have failed too
abbrev pub OutStops : CallAccount → CallAccount → Stop → Type 0
OutStops old new sink_stop = (new ≡ old) ⊎ Counts {T = Unit {0}} old new (Err Failed)
OutStops old new out_stop = Counts {T = Unit {0}} old new (Err Failed)
OutStops old new stop = new ≡ old

-- the account of the sink after an answer
abbrev pub SinkCounts : {A : Type 0} → CallAccount → CallAccount → Result A Stop → Type 0
SinkCounts old new (Ok a) = new ≡ old
SinkCounts old new (Err stop) = SinkStops old new stop

-- the account of the output after an answer
abbrev pub OutCounts : {A : Type 0} → CallAccount → CallAccount → Result A Stop → Type 0
OutCounts old new (Ok a) = new ≡ old
OutCounts old new (Err stop) = OutStops old new stop

-- what waits in a sink was stored before a stop is answered; where that failed the answer is that the sink did
abbrev pub Settles : Stop → CallAccount → CallAccount → Stop → Type 0
Settles stop old new result =
    ((result ≡ stop) × (new ≡ old)) ⊎ ((stop ≢ sink_stop) × (result ≡ sink_stop) × Counts {T = Unit {0}} old new (Err Failed))

-- Calls that read nothing did the steps of a program, whatever a block may come to.
pub record Emits
    {A : Type 0} (p : Program Step A) (s s' : Sink) (told told' : Option (List ℕ))
    (answer : Result A (Halt fate.Fault UnreadBlock)) : Type 0 where
  pub done : List Step
  pub sink : s' ≡ fold sink_after s done
  pub text : told' ≡ text_after told done
  pub goes : (layout : Layout) (old new : Seen) (Bs : ℕ → Map) → Goes (unread_by layout old new) part [] Bs p done answer
