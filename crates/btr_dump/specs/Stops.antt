-- The causes of answers.
use Rattle.std.specs.Prelude.{◌≡◌, Bool, true, false, Result, Ok, Err, ⊤}
use Rattle.btr_rack.specs.Out.{CallAccount, Counts}
use Rattle.btr_rack.specs.Rack.{Seen}
use Rattle.btr_rack.specs.declared.error.SinkError.{SinkError}
use Rattle.btr_rack.specs.declared.error.SinkError.TheVariants as sink
use Rattle.btr_read.specs.Layout.{Layout}
use Rattle.btr_walk.specs.Reading.{FaultCause}
use Rattle.btr_volume.specs.declared.stop.Stop.{Stop}
use Rattle.btr_volume.specs.declared.stop.Stop.TheVariants.{NoTree, Tree, Out, Memory}

-- a refusal of the output
abbrev pub stop_of : SinkError → Stop
stop_of sink.Failed = Out
stop_of sink.Memory = Memory

-- a fault of the output is answered where a call on it failed, and only there; so is want of memory
abbrev pub StopCounts : {A : Type 0} → CallAccount → CallAccount → Result A Stop → Type 0
StopCounts old new (Ok a) = new ≡ old
StopCounts old new (Err (Tree f)) = new ≡ old
StopCounts {A} old new (Err Out) = Counts {T = A} old new (Err sink.Failed)
StopCounts {A} old new (Err Memory) = Counts {T = A} old new (Err sink.Memory)
StopCounts old new (Err (NoTree n)) = new ≡ old
StopCounts old new (Err stop) = ⊥

-- a fault of a tree has its cause
abbrev pub DumpStopCause : {A : Type 0} → Layout → Seen → Seen → Result A Stop → Type 0
DumpStopCause layout old new (Err (Tree f)) = FaultCause layout old new f
DumpStopCause layout old new answer = ⊤

-- the output refused on the way, so nothing waits any more
abbrev pub is_cut : {A : Type 0} → Result A Stop → Bool
is_cut (Err Out) = true
is_cut (Err Memory) = true
is_cut answer = false
