-- What a call of salvage did and how it answered, in one word.
use Rattle.std.specs.Prelude.{◌≡◌, Result, Ok, Err}
use Rattle.btr_prog.specs.Answers.{Halt}
use Rattle.btr_rack.specs.Rack.{Seen, OnlyReads}
use Rattle.btr_read.specs.Fate.{Fault}
use Rattle.btr_read.specs.Layout.{Layout}
use Rattle.btr_super.specs.declared.superblock.Super.{Super}
use Rattle.btr_walk.specs.Reading.{UnreadBlock}
use Rattle.btr_walk.specs.declared.fault.TreeFault.{TreeFault}
use Rattle.btr_volume.specs.Looking.{SameVolume}
use Rattle.btr_volume.specs.Readable.{CanRead}
use Rattle.btr_volume.specs.declared.stop.Stop.{Stop}
use Rattle.btr_volume.specs.declared.stop.Stop.TheVariants.{Tree}
use Rattle.btr_volume.specs.declared.volume.Volume.{Volume}
use Rattle.btr_listing.specs.Step.{part}
use Rattle.btr_restore.specs.Restoring.{Scene, Did, RestoreStopCause, SinkCounts, OutCounts}
use Rattle.btr_volume.specs.Stops.{ended}
use Rattle.btr_restore.specs.Running.{Outside, World, scene_of, world}
use Rattle.btr_prog.specs.Attempts.{Tries}
use Rattle.btr_salvage.specs.Salvaging.{Attempt}

-- what was done and answered follows a run of a program that tries its wants
abbrev pub Does : {A : Type 0} → Layout → Attempt A → Scene → Scene → Result A (Halt Fault UnreadBlock) → Type 0
Does layout p before now answer = Did layout before now (λ Is Bs done. Tries Is part Bs p done answer)

-- a call did the steps of a program: it only read, its volume can be read on, and its fault has its cause
pub record Ran {A : Type 0} (p : Attempt A) (x y : World) (answer : Result A Stop) : Type 0 where
  pub reads : OnlyReads x.rack y.rack
  pub volume : SameVolume x.vol y.vol
  pub ready : CanRead 6 y.rack y.vol
  pub did : Does x.vol.store.layout p (scene_of x) (scene_of y) (ended answer)
  pub cause : RestoreStopCause x.vol.store.layout x.rack y.rack answer
  pub sink_calls : SinkCounts x.out.sink_calls y.out.sink_calls answer
  pub out_calls : OutCounts x.out.out_calls y.out.out_calls answer

-- a call did the steps of a program by the superblock of its volume
abbrev pub RanFor : {A : Type 0} → (Super → Attempt A) → World → World → Result A Stop → Type 0
RanFor p x y answer = (s : Super) → s ≡ x.vol.sup → Ran (p s) x y answer

-- a fault of a tree as the stop that it is
abbrev pub stopped : {A : Type 0} → Result A TreeFault → Result A Stop
stopped (Ok a) = Ok a
stopped (Err f) = Err (Tree f)

-- a call that only reads, whatever the sink and the output are
abbrev pub ReadFor : {A : Type 0} → (Super → Attempt A) → Seen → Volume → Seen → Volume → Result A TreeFault → Type 0
ReadFor p rack vol rack' vol' answer =
    (x : Outside) (s : Super) → s ≡ vol.sup → Ran (p s) (world rack vol x) (world rack' vol' x) (stopped answer)
