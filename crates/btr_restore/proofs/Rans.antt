-- Calls of restore one after another.
use Rattle.std.proofs.Common.{◌≡◌, ℕ, Bool, true, false, cond, List, [], ◌∷◌, ◌++◌, Option, Some, None, Result, Ok, Err, refl, sym, ap, ◌∙◌, subst, append-nil}
use Rattle.std.proofs.Common.{IsErrAnd, arith}
use Rattle.btr_prog.specs.Answers.{Broke}
use Rattle.btr_prog.specs.Prog.{Return, Stop, Emit, run, bind}
use Rattle.btr_prog.specs.Quiet.{quiet}
use Rattle.btr_prog.proofs.Choices.{goes_nowhere, goes_step, goes_broke}
use Rattle.btr_rack.specs.Out.{CallAccount, Counts as Counted}
use Rattle.btr_rack.specs.Rack.{Seen}
use Rattle.btr_rack.specs.declared.error.SinkError.{SinkError}
use Rattle.btr_rack.specs.Sink.{Sink}
use Rattle.btr_read.specs.Fate as fate
use Rattle.btr_walk.specs.Reading.{unread_by}
use Rattle.btr_walk.specs.declared.fault.TreeFault.{TreeFault}
use Rattle.btr_volume.specs.Readable.{CanRead}
use Rattle.btr_volume.specs.Lookup.{Program, Lookup, looks}
use Rattle.btr_listing.specs.Looked.{Looked}
use Rattle.btr_volume.specs.Stops.{stop_halt, stops_sink, ended}
use Rattle.btr_rack.proofs.Reading.{reads_none, reads_more}
use Rattle.btr_volume.proofs.Onward.{behind_since, reads_on, same_self, same_then, stop_passed}
use Rattle.btr_volume.specs.declared.stop.Stop.{Stop as TheStop}
use Rattle.btr_volume.specs.declared.stop.Stop.TheVariants as stop
use Rattle.btr_volume.specs.declared.volume.Volume.{Volume}
use Rattle.btr_files.specs.declared.counts.Counts.{Counts}
use Rattle.btr_restore.specs.Outcome.{text_of}
use Rattle.btr_restore.specs.Restoring.{IsRestoreStop, sink_after, text_after, Emits}
use Rattle.btr_restore.specs.Running.{Outside, World, outside, world, scene_of, Wrote, Ran}
use Rattle.btr_restore.specs.Treating.{came}
use Rattle.btr_restore.specs.declared.treated.Treated.{Treated}
use Rattle.btr_listing.specs.Step.{Step, part}
use Rattle.btr_restore.proofs.Doing.{emits_then, emits_halt}
use Rattle.btr_restore.proofs.Emitting.{text_none, emits_none}
use Rattle.btr_restore.proofs.Goings.{does_emits, does_halt, does_look, does_then}
use Rattle.btr_restore.proofs.Stopping.{no_cause, outs_of_sink, outs_then, sink_stops, sinks_of_sink, sinks_then}

-- calls that write only, one after another
module _ {A C : Type 0} (p : Program Step A) (k : A → Program Step C) (x y z : Outside) where
  -- calls that write only, one after another, did the steps of their programs in a row
  pub wrote_then : (a : A) (r : Result C TheStop) → Wrote p x y (Ok a) → Wrote (k a) y z r → Wrote (bind p k) x z r
  wrote_then a r h g = record {
    did = emits_then p k x.sink y.sink z.sink x.text y.text z.text a (ended r) h.did g.did;
    sink_calls = sinks_then x.sink_calls y.sink_calls z.sink_calls a r h.sink_calls g.sink_calls;
    out_calls = outs_then x.out_calls y.out_calls z.out_calls a r h.out_calls g.out_calls;
    stops = g.stops;
  }

  -- a call that writes only and met a stop did what its program and another behind it do
  pub wrote_halt : (s : TheStop) → Wrote p x y (Err s) → Wrote (bind p k) x y (Err s)
  wrote_halt s h = record {
    did = emits_halt p k x.sink y.sink y.sink x.text y.text y.text (stop_halt s) h.did;
    sink_calls = h.sink_calls;
    out_calls = h.out_calls;
    stops = h.stops;
  }

-- calls that read and write, one after another
module _ {A C : Type 0} (p : Program Step A) (k : A → Program Step C) (x y z : World) where
  -- calls that read and write, one after another, did the steps of their programs in a row
  pub ran_then : (a : A) (r : Result C TheStop) → Ran p x y (Ok a) → Ran (k a) y z r → Ran (bind p k) x z r
  ran_then a r h g = record {
    reads = reads_more h.reads g.reads;
    volume = same_then h.volume g.volume;
    ready = g.ready;
    did = does_then x.vol.store.layout y.vol.store.layout h.volume.store.layout p k (scene_of x) (scene_of y) (scene_of z) a (ended r) h.reads h.did g.did;
    cause = behind_since IsRestoreStop z.rack x.vol.store.layout y.vol.store.layout r h.volume.store.layout h.reads g.cause;
    sink_calls = sinks_then x.out.sink_calls y.out.sink_calls z.out.sink_calls a r h.sink_calls g.sink_calls;
    out_calls = outs_then x.out.out_calls y.out.out_calls z.out.out_calls a r h.out_calls g.out_calls;
  }

  -- a call that met a stop did what its program and another behind it do
  pub ran_halt : (s : TheStop) → Ran p x y (Err s) → Ran (bind p k) x y (Err s)
  ran_halt s h = record {
    reads = h.reads;
    volume = h.volume;
    ready = h.ready;
    did = does_halt x.vol.store.layout x.vol.store.layout refl p k (scene_of x) (scene_of y) (scene_of y) (stop_halt s) h.did;
    cause = h.cause;
    sink_calls = h.sink_calls;
    out_calls = h.out_calls;
  }

-- a stop that is passed on
pub wrote_passed : {A : Type 0} {p : Program Step A} {x y : Outside} {s : TheStop} (r : Result A TheStop) → IsErrAnd r (λ e. e ≡ s)
    → Wrote p x y (Err s) → Wrote p x y r
wrote_passed {p = p} {x = x} {y = y} {s = s} r is h = stop_passed (λ q. Wrote p x y q) r s is h

-- a stop of a call that reads too is passed on
pub ran_passed : {A : Type 0} {p : Program Step A} {x y : World} {s : TheStop} (r : Result A TheStop) → IsErrAnd r (λ e. e ≡ s)
    → Ran p x y (Err s) → Ran p x y r
ran_passed {p = p} {x = x} {y = y} {s = s} r is h = stop_passed (λ q. Ran p x y q) r s is h

-- a stop is the same where the counts are told with the answer
pub came_passed : (counts : Counts) (r : Result Treated TheStop) (s : TheStop) → IsErrAnd r (λ e. e ≡ s) → IsErrAnd (came counts r) (λ e. e ≡ s)
came_passed counts (Ok t) s is = absurd is
came_passed counts (Err e) s is = is

-- a call that reads nothing, beside a rack and a volume
module _ {A : Type 0} (p : Program Step A) (rack : Seen) (vol : Volume) (x y : Outside) where
  -- a call that reads nothing did the steps of its program beside any rack and volume that can be read
  pub ran_wrote : (r : Result A TheStop) → CanRead 6 rack vol → Wrote p x y r → Ran p (world rack vol x) (world rack vol y) r
  ran_wrote r ready w = record {
    reads = reads_none rack;
    volume = same_self vol;
    ready = ready;
    did = does_emits vol.store.layout rack p x.sink y.sink x.text y.text (ended r) w.did;
    cause = no_cause vol.store.layout rack rack r w.stops;
    sink_calls = w.sink_calls;
    out_calls = w.out_calls;
  }

-- the slots that a lookup needs are free
pub can_look : {rack : Seen} {vol : Volume} → CanRead 6 rack vol → CanRead 4 rack vol
can_look ready = record { serves = ready.serves; room = omega (arith, ready.room) }

-- a lookup
module _ {A : Type 0} (p : Lookup A) (old new : Seen) (vol after : Volume) (x : Outside) where
  -- a lookup that came to a value did no step
  pub ran_found : (a : A) → CanRead 6 old vol → Looked p old vol new after (Ok a) → Ran (quiet p) (world old vol x) (world new after x) (Ok a)
  ran_found a ready looked = record {
    reads = looked.reads;
    volume = looked.volume;
    ready = reads_on new vol after ready looked.ready.serves looked.volume;
    did = does_look vol.store.layout old new p x.sink x.text (Ok a) looked.content;
    cause = tt;
    sink_calls = refl;
    out_calls = refl;
  }

  -- a lookup that came to a fault did no step, and stops for that fault of a tree
  pub ran_fault : (f : TreeFault) → CanRead 6 old vol → Looked p old vol new after (Err f)
      → Ran (quiet p) (world old vol x) (world new after x) (Err (stop.Tree f))
  ran_fault f ready looked = record {
    reads = looked.reads;
    volume = looked.volume;
    ready = reads_on new vol after ready looked.ready.serves looked.volume;
    did = does_look vol.store.layout old new p x.sink x.text (Err f) looked.content;
    cause = looked.cause;
    sink_calls = refl;
    out_calls = refl;
  }

-- a call of the sink failed, of which the stop says which failure it was
pub wrote_refused : {A : Type 0} {p : Program Step A} {s s' : Sink} {before after calls : CallAccount} {text : Option (List ℕ)} {t : TheStop}
    (e : SinkError) → t ≡ stops_sink e → Counted {T = Unit {0}} before after (Err e) → Emits p s s' text text (Err (stop_halt t))
    → Wrote p (outside s before text calls) (outside s' after text calls) (Err t)
wrote_refused {A} {before = before} {after = after} {calls = calls} {t = t} e is counts did = record {
  did = did;
  sink_calls = sinks_of_sink (Unit {0}) A before after t e is counts;
  out_calls = outs_of_sink A calls t e is;
  stops = sink_stops A t e is;
}

-- a stop that comes before anything was done
pub wrote_memory : {A : Type 0} (p : Program Step A) (x : Outside) → Wrote p x x (Err stop.Memory)
wrote_memory p x = record {
  did = record { done = []; sink = refl; text = text_none x.text; goes = λ layout old new Bs. goes_nowhere Bs (unread_by layout old new) part [] 0 p };
  sink_calls = refl;
  out_calls = refl;
  stops = tt;
}

-- the calls of the sink and the lines that come before the rest of a program
module _ {C : Type 0} (b : Bool) (step : Step) (rest : Program Step C) where
  -- the step, if the test says so
  abbrev maybe : Bool → Program Step (Unit {0})
  maybe x = cond x (Emit step (Return tt)) (Return tt)

  -- the step, unless the test says so
  abbrev unless : Bool → Program Step (Unit {0})
  unless x = cond x (Return tt) (Emit step (Return tt))

  -- a program, and then the rest
  abbrev before : Program Step (Unit {0}) → Program Step C
  before p = bind p (λ u. rest)

  -- one of two programs, by a test
  abbrev pick : Bool → Program Step C → Program Step C → Program Step C
  pick x p q = cond x p q

  -- a step that a test asks for, and then the rest, is a choice between the step before the rest and the rest alone
  maybe_bind : (x : Bool) → before (maybe x) ≡ pick x (Emit step rest) rest
  maybe_bind true = refl
  maybe_bind false = refl

  -- a step unless a test forbids it, and then the rest, is a choice between the rest alone and the step before it
  unless_bind : (x : Bool) → before (unless x) ≡ pick x rest (Emit step rest)
  unless_bind true = refl
  unless_bind false = refl

  module _ (x y z : Outside) (r : Result C TheStop) where
    -- a line, if it is asked for, and then the rest were done
    pub line_then : Wrote (maybe b) x y (Ok tt) → Wrote rest y z r → Wrote (cond b (Emit step rest) rest) x z r
    line_then h g = subst (λ (p : Program Step C). Wrote p x z r) (maybe_bind b) (wrote_then (maybe b) (λ u. rest) x y z tt r h g)

    -- a call of the sink, unless the run is dry, and then the rest were done
    pub row_then : Wrote (unless b) x y (Ok tt) → Wrote rest y z r → Wrote (cond b rest (Emit step rest)) x z r
    row_then h g = subst (λ (p : Program Step C). Wrote p x z r) (unless_bind b) (wrote_then (unless b) (λ u. rest) x y z tt r h g)

  module _ (x y : Outside) (s : TheStop) where
    -- a line that was refused leaves the rest undone
    pub line_halt : Wrote (maybe b) x y (Err s) → Wrote (cond b (Emit step rest) rest) x y (Err s)
    line_halt h = subst (λ (p : Program Step C). Wrote p x y (Err s)) (maybe_bind b) (wrote_halt (maybe b) (λ u. rest) x y y s h)

    -- a call of the sink that was refused leaves the rest undone
    pub row_halt : Wrote (unless b) x y (Err s) → Wrote (cond b rest (Emit step rest)) x y (Err s)
    row_halt h = subst (λ (p : Program Step C). Wrote p x y (Err s)) (unless_bind b) (wrote_halt (unless b) (λ u. rest) x y y s h)

-- the calls of the sink and the lines that come before the rest of a program that reads too
module _ {C : Type 0} (b : Bool) (step : Step) (rest : Program Step C) (rack : Seen) (vol : Volume) (x y : Outside) (z : World) (r : Result C TheStop) where
  -- a call of the sink, unless the run is dry, and then a rest that reads too were done
  pub row_ran : CanRead 6 rack vol → Wrote (unless b step rest b) x y (Ok tt) → Ran rest (world rack vol y) z r
      → Ran (cond b rest (Emit step rest)) (world rack vol x) z r
  row_ran ready w h = subst (λ (p : Program Step C). Ran p (world rack vol x) z r) (unless_bind b step rest b)
      (ran_then (unless b step rest b) (λ u. rest) (world rack vol x) (world rack vol y) z tt r
      (ran_wrote (unless b step rest b) rack vol x y (Ok tt) ready w) h)

-- nothing is done
pub wrote_none : {A : Type 0} (a : A) (x : Outside) → Wrote (Return a) x x (Ok a)
wrote_none a x = record { did = emits_none a x.sink x.text; sink_calls = refl; out_calls = refl; stops = tt }

-- a lookup, and then a program by its value
module _ {A C : Type 0} (p : Lookup A) (k : A → Program Step C) (x y : World) (result : Result A TheStop) where
  -- a lookup came to a value, and the program of that value was done
  pub look_then : (z : World) (a : A) (r : Result C TheStop) → Ran (quiet p) x y result → result ≡ Ok a → Ran (k a) y z r → Ran (looks p k) x z r
  look_then z a r h e g = ran_then (quiet p) k x y z a r (subst (λ (b : Result A TheStop). Ran (quiet p) x y b) e h) g

  -- a lookup that met a stop leaves the program behind it undone
  pub look_halt : (s : TheStop) → Ran (quiet p) x y result → result ≡ Err s → Ran (looks p k) x y (Err s)
  look_halt s h e = ran_halt (quiet p) k x y y s (subst (λ (b : Result A TheStop). Ran (quiet p) x y b) e h)

-- where a test decides
module _ {A : Type 0} (p q : Program Step A) (x y : World) (r : Result A TheStop) where
  -- where the test is true the first program was done
  pub ran_if : (b : Bool) → b ≡ true → Ran p x y r → Ran (cond b p q) x y r
  ran_if true e h = h
  ran_if false e h = cc

  -- where the test is false the second program was done
  pub ran_else : (b : Bool) → b ≡ false → Ran q x y r → Ran (cond b p q) x y r
  ran_else true e h = cc
  ran_else false e h = h

-- want of memory, before anything was done
pub ran_memory : {A : Type 0} (p : Program Step A) (rack : Seen) (vol : Volume) (x : Outside) → CanRead 6 rack vol
    → Ran p (world rack vol x) (world rack vol x) (Err stop.Memory)
ran_memory p rack vol x ready = ran_wrote p rack vol x x (Err stop.Memory) ready (wrote_memory p x)

-- a step of the sink that was done, and one that was broken off
silent_text : (t : Step) → text_of (t ∷ []) ≡ [] → (u : Option (List ℕ)) → u ≡ text_after u (t ∷ [])
silent_text t silent None = refl
silent_text t silent (Some text) = ap Some (sym (ap (λ x. text ++ x) silent ∙ append-nil text))

module _ {A : Type 0} (step : Step) (s s' : Sink) (told : Option (List ℕ)) where
  -- a step that is no line was done in the sink
  pub emits_step : (v : A) → text_of (step ∷ []) ≡ [] → s' ≡ sink_after s step → Emits (Emit step (Return v)) s s' told told (Ok v)
  emits_step v silent is = record {
    done = step ∷ [];
    sink = is;
    text = silent_text step silent told;
    goes = λ layout old new Bs. goes_step Bs (unread_by layout old new) part [] step (Return v) [] (Ok v) (run [] (Ok v), refl, (refl, refl));
  }

  -- of a step that is no line a part was done in the sink, and the run is broken off
  pub emits_part : (t : Step) (n : ℕ) (p : Program Step A) → part step n ≡ Some t → text_of (t ∷ []) ≡ [] → s' ≡ sink_after s t
      → Emits (Emit step p) s s' told told (Err Broke)
  emits_part t n p cut silent is = record {
    done = t ∷ [];
    sink = is;
    text = silent_text t silent told;
    goes = λ layout old new Bs. goes_broke Bs (unread_by layout old new) part [] 0 step t n p cut;
  }

-- a call of the sink did its step
pub wrote_step : {A : Type 0} (step : Step) (v : A) {s s' : Sink} {before after calls : CallAccount} {text : Option (List ℕ)} → text_of (step ∷ []) ≡ []
    → s' ≡ sink_after s step → after ≡ before → Wrote (Emit step (Return v)) (outside s before text calls) (outside s' after text calls) (Ok v)
wrote_step step v {s} {s'} {text = text} silent is counts = record {
  did = emits_step step s s' text v silent is;
  sink_calls = counts;
  out_calls = refl;
  stops = tt;
}

-- a lookup where a test decides
module _ {A : Type 0} (p q : Lookup A) (x y : World) (r : Result A TheStop) where
  -- where the test is true the first lookup was done
  pub look_if : (b : Bool) → b ≡ true → Ran (quiet p) x y r → Ran (quiet (cond b p q)) x y r
  look_if true e h = h
  look_if false e h = cc

  -- where the test is false the second lookup was done
  pub look_else : (b : Bool) → b ≡ false → Ran (quiet q) x y r → Ran (quiet (cond b p q)) x y r
  look_else true e h = cc
  look_else false e h = h

-- there is no such tree
pub ran_no_tree : {A : Type 0} (id : ℕ) (x : World) → CanRead 6 x.rack x.vol → Ran {A = A} (Stop (fate.NoTree id)) x x (Err (stop.NoTree id))
ran_no_tree {A} id x ready = record {
  reads = reads_none x.rack;
  volume = same_self x.vol;
  ready = ready;
  did = does_emits x.vol.store.layout x.rack (Stop (fate.NoTree id)) x.out.sink x.out.sink x.out.text x.out.text (Err (stop_halt (stop.NoTree id)))
      (record { done = []; sink = refl; text = text_none x.out.text; goes = λ layout old new Bs. (run [] (Err (fate.NoTree id)), refl, (refl, refl)) });
  cause = tt;
  sink_calls = refl;
  out_calls = refl;
}
