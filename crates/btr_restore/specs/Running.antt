-- What a call of restore did and how it answered, in one word.
use Rattle.std.specs.Prelude.{◌≡◌, ℕ, ◌+◌, Bool, true, false, List, Option, Result, Ok, Err}
use Rattle.btr_prog.specs.Prog.{Return}
use Rattle.btr_prog.specs.Quiet.{quiet}
use Rattle.btr_rack.specs.Out.{CallAccount}
use Rattle.btr_rack.specs.Rack.{Seen, OnlyReads}
use Rattle.btr_rack.specs.Sink.{Sink, BetweenFiles}
use Rattle.btr_super.specs.declared.superblock.Super.{Super}
use Rattle.btr_volume.specs.Lookup.{Lookup, Program}
use Rattle.btr_files.specs.declared.plan.RestorePlan.{RestorePlan}
use Rattle.btr_restore.specs.Journey.{row}
use Rattle.btr_volume.specs.Looking.{SameVolume}
use Rattle.btr_volume.specs.Readable.{CanRead}
use Rattle.btr_volume.specs.declared.stop.Stop.{Stop}
use Rattle.btr_volume.specs.declared.stop.Stop.TheVariants.{Sink as SinkStop, Out as OutStop, Memory}
use Rattle.btr_volume.specs.declared.volume.Volume.{Volume}
use Rattle.btr_restore.specs.Restoring.{Scene, scene, Does, Emits, RestoreStopCause, SinkCounts, OutCounts}
use Rattle.btr_volume.specs.Stops.{ended}
use Rattle.btr_listing.specs.Step.{Step}
use Rattle.btr_restore.specs.declared.treated.Treated.{Treated}
use Rattle.btr_restore.specs.declared.treated.Treated.TheVariants.{Over, Within}

-- what is seen of a sink and an output
pub record Outside : Type 0 where
  pub sink : Sink
  pub sink_calls : CallAccount
  pub text : Option (List ℕ)
  pub out_calls : CallAccount

-- a sink and an output with the accounts of their calls
abbrev pub outside : Sink → CallAccount → Option (List ℕ) → CallAccount → Outside
outside sink sink_calls text out_calls = record { sink = sink; sink_calls = sink_calls; text = text; out_calls = out_calls }

-- what is seen of a sink and an output, each by what its calls show
abbrev pub outside_of : {T O : Type 0} → (T → Sink) → (T → CallAccount) → (O → Option (List ℕ)) → (O → CallAccount) → T → O → Outside
outside_of sink sink_calls text out_calls tree out = outside (sink tree) (sink_calls tree) (text out) (out_calls out)

-- what is seen of a rack, a volume, a sink and an output
pub record World : Type 0 where
  pub rack : Seen
  pub vol : Volume
  pub out : Outside

-- a rack, a volume, and what is outside of them
abbrev pub world : Seen → Volume → Outside → World
world rack vol out = record { rack = rack; vol = vol; out = out }

-- the same of a rack, a volume and a sink, beside an output
abbrev pub beside : {R T : Type 0} → (R → Seen) → (T → Sink) → (T → CallAccount) → R → Volume → T → Option (List ℕ) → CallAccount → World
beside seen sink sink_calls rack vol tree text out_calls = world (seen rack) vol (outside (sink tree) (sink_calls tree) text out_calls)

-- what is seen of it without the accounts
abbrev pub scene_of : World → Scene
scene_of x = scene x.rack x.out.sink x.out.text

-- the stops of calls that read nothing: those of the sink and the output, and for want of memory
abbrev pub IsOutsideStop : Stop → Type 0
IsOutsideStop SinkStop = Unit {0}
IsOutsideStop OutStop = Unit {0}
IsOutsideStop Memory = Unit {0}
IsOutsideStop stop = ⊥

-- no other stop is answered
abbrev pub StopsOutside : {A : Type 0} → Result A Stop → Type 0
StopsOutside (Ok a) = Unit {0}
StopsOutside (Err stop) = IsOutsideStop stop

-- a call that reads nothing did the steps of a program, and counted its refusal
pub record Wrote {A : Type 0} (p : Program Step A) (x y : Outside) (answer : Result A Stop) : Type 0 where
  pub did : Emits p x.sink y.sink x.text y.text (ended answer)
  pub sink_calls : SinkCounts x.sink_calls y.sink_calls answer
  pub out_calls : OutCounts x.out_calls y.out_calls answer
  pub stops : StopsOutside answer

-- a call did the steps of a program: it only read, its volume can be read on, and its fault has its cause
pub record Ran {A : Type 0} (p : Program Step A) (x y : World) (answer : Result A Stop) : Type 0 where
  pub reads : OnlyReads x.rack y.rack
  pub volume : SameVolume x.vol y.vol
  pub ready : CanRead 6 y.rack y.vol
  pub did : Does x.vol.store.layout p (scene_of x) (scene_of y) (ended answer)
  pub cause : RestoreStopCause x.vol.store.layout x.rack y.rack answer
  pub sink_calls : SinkCounts x.out.sink_calls y.out.sink_calls answer
  pub out_calls : OutCounts x.out.out_calls y.out.out_calls answer

-- calls of the sink did the steps of a program, whatever the output is
abbrev pub WroteIn : {A T : Type 0} → Program Step A → (T → Sink) → (T → CallAccount) → T → T → Result A Stop → Type 0
WroteIn p sink calls tree tree' answer =
    (text : Option (List ℕ)) (out_calls : CallAccount)
    → Wrote p (outside (sink tree) (calls tree) text out_calls) (outside (sink tree') (calls tree') text out_calls) answer

-- a call of the sink did a step, unless the run is dry
abbrev pub WroteRow : {T : Type 0} → RestorePlan → Step → (T → Sink) → (T → CallAccount) → T → T → Result (Unit {0}) Stop → Type 0
WroteRow plan step = WroteIn (row plan step (Return tt))

-- calls of the output did the steps of a program, whatever the sink is
abbrev pub WroteLines : {A O : Type 0} → Program Step A → (O → Option (List ℕ)) → (O → CallAccount) → O → O → Result A Stop → Type 0
WroteLines p text calls out out' answer =
    (sink : Sink) (sink_calls : CallAccount)
    → Wrote p (outside sink sink_calls (text out) (calls out)) (outside sink sink_calls (text out') (calls out')) answer

-- a call did the steps of a program by the superblock of its volume
abbrev pub RanFor : {A : Type 0} → (Super → Program Step A) → World → World → Result A Stop → Type 0
RanFor p x y answer = (s : Super) → s ≡ x.vol.sup → Ran (p s) x y answer

-- a call did the steps of a program by the superblock of its volume, whatever the output is
abbrev pub RanBeside : {A : Type 0} → Super → (Super → Program Step A) → (Option (List ℕ) → CallAccount → World)
    → (Option (List ℕ) → CallAccount → World) → Result A Stop → Type 0
RanBeside sup p x y answer =
    (s : Super) (text : Option (List ℕ)) (calls : CallAccount) → s ≡ sup → Ran (p s) (x text calls) (y text calls) answer

-- a call did a lookup by the superblock of its volume, whatever the sink and the output are
abbrev pub LookedFor : {A : Type 0} → (Super → Lookup A) → Seen → Volume → Seen → Volume → Result A Stop → Type 0
LookedFor p rack vol rack' vol' answer =
    (x : Outside) (s : Super) → s ≡ vol.sup → Ran (quiet (p s)) (world rack vol x) (world rack' vol' x) answer

-- a dry run makes no call of the sink: it is as it was
abbrev pub KeepsSink : {T : Type 0} → Bool → T → T → Type 0
KeepsSink dry old new = dry ≡ true → new ≡ old

-- a sink stands between two files, so deep below the destination, unless the run is dry
abbrev pub StandsBetweenFiles : Bool → ℕ → Sink → Type 0
StandsBetweenFiles dry depth s = dry ≡ false → (s.stage ≡ BetweenFiles) × (s.depth ≡ depth)

-- so it does after an entry; where a directory was entered it is one deeper
abbrev pub StandsAfter : Bool → ℕ → Sink → Result Treated Stop → Type 0
StandsAfter dry depth s (Ok Over) = StandsBetweenFiles dry depth s
StandsAfter dry depth s (Ok (Within tree dirid)) = StandsBetweenFiles dry (depth + 1) s
StandsAfter dry depth s (Err stop) = Unit {0}

-- where a sink stood, it stands so after an entry
abbrev pub KeepsStanding : Bool → Sink → Sink → Result Treated Stop → Type 0
KeepsStanding dry old new result = (depth : ℕ) → StandsBetweenFiles dry depth old → StandsAfter dry depth new result
