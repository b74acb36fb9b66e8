-- How a stop ends a run, and what lies behind it.
use Rattle.std.specs.Prelude.{Result, Ok, Err}
use Rattle.btr_prog.specs.Answers.{Halt, Fault as halt_fault, Broke}
use Rattle.btr_rack.specs.Rack.{Seen}
use Rattle.btr_rack.specs.declared.error.SinkError.{SinkError}
use Rattle.btr_rack.specs.declared.error.SinkError.TheVariants.{Failed, Memory as NoMemory}
use Rattle.btr_read.specs.Fate as fate
use Rattle.btr_read.specs.Layout.{Layout}
use Rattle.btr_walk.specs.Reading.{UnreadBlock, FaultCause, halt_of}
use Rattle.btr_volume.specs.declared.stop.Stop.{Stop}
use Rattle.btr_volume.specs.declared.stop.Stop.TheVariants.{NoTree, Tree}
use Rattle.btr_volume.specs.declared.stop.Stop.TheVariants.{Sink, Out, Memory}

-- how a stop ends a run: by its fault, or at any place
abbrev pub stop_halt : Stop → Halt fate.Fault UnreadBlock
stop_halt (NoTree id) = halt_fault (fate.NoTree id)
stop_halt (Tree f) = halt_of f
stop_halt stop = Broke

-- the answer of a call as the answer of its program
abbrev pub ended : {A : Type 0} → Result A Stop → Result A (Halt fate.Fault UnreadBlock)
ended (Ok a) = Ok a
ended (Err stop) = Err (stop_halt stop)

-- the stop that a failed call of an output is
abbrev pub stops_out : SinkError → Stop
stops_out Failed = Out
stops_out NoMemory = Memory

-- the stop that a failed call of a sink is
abbrev pub stops_sink : SinkError → Stop
stops_sink Failed = Sink
stops_sink NoMemory = Memory

-- what lies behind an answer: a tree's fault has its cause, and of all other stops only some may be
-- answered
module _ (May : Stop → Type 0) where
  -- what lies behind a stop
  abbrev pub IsBehindStop : Layout → Seen → Seen → Stop → Type 0
  IsBehindStop layout old new (Tree f) = FaultCause layout old new f
  IsBehindStop layout old new stop = May stop

  -- what lies behind an answer: nothing has to where it is no stop
  abbrev pub IsBehindAnswer : {A : Type 0} → Layout → Seen → Seen → Result A Stop → Type 0
  IsBehindAnswer layout old new (Ok a) = Unit {0}
  IsBehindAnswer layout old new (Err stop) = IsBehindStop layout old new stop
