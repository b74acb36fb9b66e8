-- Stops, and the accounts of calls in a row.
use Rattle.std.proofs.Common.{◌≡◌, Result, Ok, Err, refl, sym, subst, inl}
use Rattle.btr_rack.specs.Out.{CallAccount, Counts}
use Rattle.btr_rack.specs.Rack.{Seen}
use Rattle.btr_rack.specs.declared.error.SinkError.{SinkError}
use Rattle.btr_rack.specs.declared.error.SinkError.TheVariants.{Failed, Memory as NoMemory}
use Rattle.btr_read.specs.Layout.{Layout}
use Rattle.btr_volume.specs.declared.stop.Stop.{Stop as TheStop}
use Rattle.btr_volume.specs.declared.stop.Stop.TheVariants as stop
use Rattle.btr_restore.specs.Restoring.{RestoreStopCause, SinkCounts, OutCounts}
use Rattle.btr_volume.specs.Stops.{stops_out, stops_sink}
use Rattle.btr_restore.specs.Running.{StopsOutside}

-- accounts of calls in a row
pub sinks_then : {A C : Type 0} (a b c : CallAccount) (v : A) (r : Result C TheStop) → SinkCounts a b (Ok v) → SinkCounts b c r → SinkCounts a c r
sinks_then a b c v r e h = subst (λ (x : CallAccount). SinkCounts x c r) e h

-- accounts of the output over calls in a row
pub outs_then : {A C : Type 0} (a b c : CallAccount) (v : A) (r : Result C TheStop) → OutCounts a b (Ok v) → OutCounts b c r → OutCounts a c r
outs_then a b c v r e h = subst (λ (x : CallAccount). OutCounts x c r) e h

-- a call that reads nothing has no other stop than those outside
pub no_cause : {A : Type 0} (layout : Layout) (old new : Seen) (r : Result A TheStop) → StopsOutside r → RestoreStopCause layout old new r
no_cause layout old new (Ok v) h = tt
no_cause layout old new (Err (stop.NoTree id)) h = tt
no_cause layout old new (Err (stop.Tree f)) h = absurd h
no_cause layout old new (Err other) h = h

-- a refusal of the output, and one of the sink
pub sinks_of_out : (A : Type 0) (a : CallAccount) (s : TheStop) (e : SinkError) → s ≡ stops_out e → SinkCounts {A = A} a a (Err s)
sinks_of_out A a s Failed is = subst (λ (x : TheStop). SinkCounts {A = A} a a (Err x)) (sym is) refl
sinks_of_out A a s NoMemory is = subst (λ (x : TheStop). SinkCounts {A = A} a a (Err x)) (sym is) refl

-- a refusal of the sink leaves the account of the output as it was
pub outs_of_sink : (A : Type 0) (a : CallAccount) (s : TheStop) (e : SinkError) → s ≡ stops_sink e → OutCounts {A = A} a a (Err s)
outs_of_sink A a s Failed is = subst (λ (x : TheStop). OutCounts {A = A} a a (Err x)) (sym is) (inl refl)
outs_of_sink A a s NoMemory is = subst (λ (x : TheStop). OutCounts {A = A} a a (Err x)) (sym is) refl

-- a refusal of the output is one of the stops outside
pub out_stops : (A : Type 0) (s : TheStop) (e : SinkError) → s ≡ stops_out e → StopsOutside {A = A} (Err s)
out_stops A s Failed is = subst (λ (x : TheStop). StopsOutside {A = A} (Err x)) (sym is) tt
out_stops A s NoMemory is = subst (λ (x : TheStop). StopsOutside {A = A} (Err x)) (sym is) tt

-- a refusal of the sink is one of the stops outside
pub sink_stops : (A : Type 0) (s : TheStop) (e : SinkError) → s ≡ stops_sink e → StopsOutside {A = A} (Err s)
sink_stops A s Failed is = subst (λ (x : TheStop). StopsOutside {A = A} (Err x)) (sym is) tt
sink_stops A s NoMemory is = subst (λ (x : TheStop). StopsOutside {A = A} (Err x)) (sym is) tt

-- a refusal of the output is counted in its account
pub outs_of_out : (T A : Type 0) (a b : CallAccount) (s : TheStop) (e : SinkError) → s ≡ stops_out e → Counts {T = T} a b (Err e)
    → OutCounts {A = A} a b (Err s)
outs_of_out T A a b s Failed is h = subst (λ (x : TheStop). OutCounts {A = A} a b (Err x)) (sym is) h
outs_of_out T A a b s NoMemory is h = subst (λ (x : TheStop). OutCounts {A = A} a b (Err x)) (sym is) h.1

-- a refusal of the sink is counted in its account
pub sinks_of_sink : (T A : Type 0) (a b : CallAccount) (s : TheStop) (e : SinkError) → s ≡ stops_sink e → Counts {T = T} a b (Err e)
    → SinkCounts {A = A} a b (Err s)
sinks_of_sink T A a b s Failed is h = subst (λ (x : TheStop). SinkCounts {A = A} a b (Err x)) (sym is) h
sinks_of_sink T A a b s NoMemory is h = subst (λ (x : TheStop). SinkCounts {A = A} a b (Err x)) (sym is) h.1
