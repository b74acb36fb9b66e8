-- What a call did and how it answered, whatever failed.
use Rattle.std.specs.Prelude.{◌≡◌, ℕ, Bool, true, false, List, [], take, Option, Some, None, Result, Ok, Err}
use Rattle.std.specs.List.{flat_map}
use Rattle.btr_prog.specs.Answers.{Follows}
use Rattle.btr_prog.specs.Prog.{exec}
use Rattle.btr_prog.specs.Quiet.{quiet}
use Rattle.btr_rack.specs.Out.{Adds, CallAccount, Counts}
use Rattle.btr_rack.specs.Rack.{Seen, OnlyReads}
use Rattle.btr_rack.specs.declared.error.SinkError.TheVariants as sink
use Rattle.btr_read.specs.Layout.{Layout}
use Rattle.btr_walk.specs.Reading.{Tells, unread_by}
use Rattle.btr_super.specs.declared.superblock.Super.{Super}
use Rattle.btr_volume.specs.Looking.{SameVolume}
use Rattle.btr_volume.specs.Readable.{CanRead}
use Rattle.btr_volume.specs.Lookup.{Lookup, Program}
use Rattle.btr_volume.specs.Stops.{IsBehindAnswer, ended}
use Rattle.btr_volume.specs.declared.stop.Stop.{Stop}
use Rattle.btr_volume.specs.declared.stop.Stop.TheVariants.{Tree, Out, Memory}
use Rattle.btr_volume.specs.declared.volume.Volume.{Volume}
use Rattle.btr_resolve.specs.Resolving.{Line}

-- what stands of a line that was broken off after n bytes
abbrev pub part : Line → ℕ → Option Line
part line n = Some (take n line)

-- lines one after another
abbrev pub whole : List Line → List ℕ
whole lines = flat_map (λ line. line) lines

-- what is seen of a rack, a volume and an output
pub record World : Type 0 where
  pub rack : Seen
  pub vol : Volume
  pub text : Option (List ℕ)
  pub calls : CallAccount

-- these seen together
abbrev pub world : Seen → Volume → Option (List ℕ) → CallAccount → World
world rack vol text calls = record { rack = rack; vol = vol; text = text; calls = calls }

-- the stops that may be answered
abbrev pub IsResolveStop : Stop → Type 0
IsResolveStop (Tree f) = Unit {0}
IsResolveStop Out = Unit {0}
IsResolveStop Memory = Unit {0}
IsResolveStop stop = ⊥

-- what lies behind an answer
abbrev pub ResolveStopCause : {A : Type 0} → Layout → Seen → Seen → Result A Stop → Type 0
ResolveStopCause layout old new answer = IsBehindAnswer IsResolveStop layout old new answer

-- the account of the output at a stop: it changed only where a call of it failed
abbrev pub CountsStop : CallAccount → CallAccount → Stop → Type 0
CountsStop old new Out = Counts {T = Unit {0}} old new (Err sink.Failed)
CountsStop old new stop = new ≡ old

-- the account of the output after an answer
abbrev pub StopCounts : {A : Type 0} → CallAccount → CallAccount → Result A Stop → Type 0
StopCounts old new (Ok a) = new ≡ old
StopCounts old new (Err stop) = CountsStop old new stop

-- A call put the lines of a program: what was put and answered follows its run, so far as the reads were steady,
-- whatever failed. It only read, its volume can be read on, and its fault has its cause.
pub record Ran {A : Type 0} (p : Program Line A) (x y : World) (answer : Result A Stop) : Type 0 where
  pub reads : OnlyReads x.rack y.rack
  pub volume : SameVolume x.vol y.vol
  pub ready : CanRead 4 y.rack y.vol
  pub lines : List Line
  pub adds : Adds x.text y.text (whole lines)
  pub content :
      Tells x.vol.store.layout x.rack y.rack
      (λ B. Follows (unread_by x.vol.store.layout x.rack y.rack) part [] (exec B p) lines (ended answer))
  pub cause : ResolveStopCause x.vol.store.layout x.rack y.rack answer
  pub calls : StopCounts x.calls y.calls answer

-- the same of a program by the superblock of the volume
abbrev pub RanFor : {A : Type 0} → (Super → Program Line A) → World → World → Result A Stop → Type 0
RanFor p x y answer = (s : Super) → s ≡ x.vol.sup → Ran (p s) x y answer

-- a call that puts nothing, beside any output
abbrev pub RanBeside : {A : Type 0} → Lookup A → Seen → Volume → Seen → Volume → Result A Stop → Type 0
RanBeside p rack vol rack' vol' answer =
    (text : Option (List ℕ)) (calls : CallAccount) → Ran (quiet p) (world rack vol text calls) (world rack' vol' text calls) answer

-- a call that reads nothing, beside any volume
abbrev pub RanAlone : {A : Type 0} → Program Line A → Option (List ℕ) → CallAccount → Option (List ℕ) → CallAccount → Result A Stop → Type 0
RanAlone p text calls text' calls' answer =
    (rack : Seen) (vol : Volume) → CanRead 4 rack vol → Ran p (world rack vol text calls) (world rack vol text' calls') answer

-- the same answer with a value: what was counted by then
abbrev pub counted : ℕ → Result (Unit {0}) Stop → Result ℕ Stop
counted count (Ok u) = Ok count
counted count (Err stop) = Err stop

-- the same answer with a path, if it was found
abbrev pub pathed : List ℕ → Result Bool Stop → Result (Option (List ℕ)) Stop
pathed path (Ok true) = Ok (Some path)
pathed path (Ok false) = Ok None
pathed path (Err stop) = Err stop

-- the same answer with a directory and the path below it, if there is one
abbrev pub stepped : List ℕ → Result (Option ℕ) Stop → Result (Option (ℕ × List ℕ)) Stop
stepped path (Ok (Some dir)) = Ok (Some (dir, path))
stepped path (Ok None) = Ok None
stepped path (Err stop) = Err stop

-- the same answer with what was listed
abbrev pub listed : {A : Type 0} → A → Result (Unit {0}) Stop → Result A Stop
listed found (Ok u) = Ok found
listed found (Err stop) = Err stop
