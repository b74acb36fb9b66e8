-- What waits in a sink is stored before a stop is answered.
use Rattle.std.proofs.Common.{◌≡◌, ℕ, List, [], ◌∷◌, Option, Some, None, Result, Ok, Err, refl, sym, ◌∙◌, subst, inl, inr}
use Rattle.std.specs.Prelude.{◌≢◌}
use Rattle.std.proofs.lemmas.List.{append-nil}
use Rattle.btr_prog.specs.Answers.{Breaks, Follows, Halt, Fault as halt_fault, Unread as halt_unread, Broke, Leaves, no_part}
use Rattle.btr_prog.specs.Goes.{GoesTo}
use Rattle.btr_prog.specs.Prog.{Mark, Wants, Does, Run, steps_of}
use Rattle.btr_prog.proofs.Successive.{calls_as}
use Rattle.btr_rack.specs.Out.{CallAccount, Counts}
use Rattle.btr_rack.specs.Rack.{Seen}
use Rattle.btr_rack.specs.Sink.{Sink}
use Rattle.btr_rack.specs.declared.error.SinkError.TheVariants.{Failed}
use Rattle.btr_read.specs.Fate as fate
use Rattle.btr_read.specs.Layout.{Layout}
use Rattle.btr_read.specs.declared.want.Want.{Want}
use Rattle.btr_walk.specs.Reading.{Map, UnreadBlock, unread_by}
use Rattle.btr_volume.specs.Lookup.{Program}
use Rattle.btr_volume.specs.declared.stop.Stop.{Stop as TheStop}
use Rattle.btr_volume.specs.declared.stop.Stop.TheVariants as stop
use Rattle.btr_volume.specs.declared.volume.Volume.{Volume}
use Rattle.btr_restore.specs.Listing.{maps_of}
use Rattle.btr_restore.specs.Restoring.{Did, Scene, OutCounts, Settles, SinkCounts}
use Rattle.btr_volume.specs.Stops.{stop_halt}
use Rattle.btr_restore.specs.Running.{Ran, World, outside, world}
use Rattle.btr_listing.specs.Step.{Step, part}
use Rattle.btr_restore.proofs.Goings.{if_map}

-- what is left of a step that isn't done in part
left_whole : {W : Type 0} (left : Option Step) (ms : List (Mark W Step)) → Leaves no_part left ms → Leaves part left ms
left_whole None ms leaves = tt
left_whole (Some t) [] leaves = leaves
left_whole (Some t) (Wants w ∷ ms) leaves = leaves
left_whole (Some t) (Does s ∷ ms) leaves = absurd (cc leaves.1)

-- what follows a run may as well have been broken off there
pub broken : {W A U : Type 0} (Is : U → W → Type 0) (r : Run W fate.Fault Step A) (done : List Step) (answer : Result A (Halt fate.Fault U))
    → Follows Is part [] r done answer → Follows Is part [] r done (Err Broke)
broken {W} {A} {U} Is r done answer = of answer
  where
    -- a run of which all steps were done may as well have been broken off at its end
    all : done ≡ steps_of r.marks → Breaks part (λ (ws : List W). Unit {0}) r done
    all is = record {
      before = r.marks;
      behind = [];
      left = None;
      place = sym (append-nil r.marks);
      steps = is ∙ sym (append-nil
          (steps_of r.marks));
      leaves = tt;
      holds = tt;
    }

    -- whatever the answer is, the run may as well have been broken off there
    of : (answer : Result A (Halt fate.Fault U)) → Follows Is part [] r done answer → Follows Is part [] r done (Err Broke)
    of (Ok a) f = all f.0
    of (Err (halt_fault x)) f = all f.0
    of (Err (halt_unread u)) f = record {
      before = f.before;
      behind = f.behind;
      left = f.left;
      place = f.place;
      steps = f.steps;
      leaves = left_whole f.left f.behind f.leaves;
      holds = tt;
    }
    of (Err Broke) f = f

-- what was done of a program may as well have been broken off there, whichever runs it allows
pub did_broken : {A : Type 0} (Allows : (ℕ → Map) → Run Want fate.Fault Step A → Type 0) {layout : Layout} {x y : Scene}
    (answer : Result A (Halt fate.Fault UnreadBlock))
    → Did layout x y (λ Is Bs done. (r : Run Want fate.Fault Step A) × Allows Bs r × Follows Is part [] r done answer)
    → Did layout x y (λ Is Bs done. (r : Run Want fate.Fault Step A) × Allows Bs r × Follows Is part [] r done (Err Broke))
did_broken {A} Allows {layout} {x} {y} answer h =
    let Follow : Result A (Halt fate.Fault UnreadBlock) → (ℕ → Map) → Type 0 =
    λ ans Bs. (r : Run Want fate.Fault Step A) × Allows Bs r × Follows (unread_by layout x.rack y.rack) part [] r h.done ans in
    record {
      done = h.done;
      sink = h.sink;
      text = h.text;
      content = record {
        calls = calls_as (λ sure held f.
            if_map (λ images. Follow answer (maps_of layout sure images)) (λ images. Follow (Err Broke) (maps_of layout sure images)) held
            (λ images g. (g.0, g.1, broken (unread_by layout x.rack y.rack) g.0 h.done answer g.2)) f) h.content.calls;
      };
    }

-- the sink failed behind another stop
pub sink_behind : (A : Type 0) (a b c : CallAccount) (s : TheStop) → s ≢ stop.Sink → SinkCounts {A = A} a b (Err s)
    → Counts {T = Unit {0}} b c (Err Failed) → SinkCounts {A = A} a c (Err stop.Sink)
sink_behind A a b c stop.Sink other h f = absurd (other refl)
sink_behind A a b c s other h f = subst (λ (x : CallAccount). Counts {T = Unit {0}} x c (Err Failed)) h f

-- an account of the output at some stop may stand behind a failure of the sink too
pub out_before : (A : Type 0) (a b : CallAccount) (s : TheStop) → OutCounts {A = A} a b (Err s) → OutCounts {A = A} a b (Err stop.Sink)
out_before A a b stop.Sink h = h
out_before A a b stop.Out h = inr h
out_before A a b s h = inl h

-- what waited was stored before a stop is answered, or that failed
pub at_settled : (At : CallAccount → TheStop → Type 0) (before after : CallAccount)
    → ((s : TheStop) → s ≢ stop.Sink → Counts {T = Unit {0}} before after (Err Failed) → At before s → At after stop.Sink)
    → (s result : TheStop) → Settles s before after result → At before s → At after result
at_settled At before after failed s result (inl e) h = subst (λ (r : TheStop). At after r) (sym e.0) (subst (λ (c : CallAccount). At c s) (sym e.1) h)
at_settled At before after failed s result (inr e) h = subst (λ (r : TheStop). At after r) (sym e.1) (failed s e.0 e.2 h)

-- a call did the steps of a program, and what waited was stored before its stop is answered
pub ran_settled : {A : Type 0} (p : Program Step A) (x : World) (rack : Seen) (vol : Volume) (sink : Sink) (before after : CallAccount)
    (text : Option (List ℕ)) (out_calls : CallAccount) (s result : TheStop) (sink' : Sink) → sink' ≡ sink → Settles s before after result
    → Ran p x (world rack vol (outside sink before text out_calls)) (Err s) → Ran p x (world rack vol (outside sink' after text out_calls)) (Err result)
ran_settled {A} p x rack vol sink before after text out_calls s result sink' same settles h =
    subst (λ (k : Sink). Ran p x (world rack vol (outside k after text out_calls)) (Err result)) (sym same)
    (at_settled (λ calls t. Ran p x (world rack vol (outside sink calls text out_calls)) (Err t)) before after (λ t other f r. record {
      reads = r.reads;
      volume = r.volume;
      ready = r.ready;
      did = did_broken (λ Bs. GoesTo Bs p) (Err (stop_halt t)) r.did;
      cause = tt;
      sink_calls = sink_behind A x.out.sink_calls before after t other r.sink_calls f;
      out_calls = out_before A x.out.out_calls out_calls t r.out_calls;
    }) s result settles h)
