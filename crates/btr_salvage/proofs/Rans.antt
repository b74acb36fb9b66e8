-- Calls of salvage one after another.
use Rattle.std.proofs.Common.{◌≡◌, ℕ, List, [], ◌++◌, Some, None, Result, Ok, Err, IsErrAnd, refl, sym, ap, ◌∙◌, subst}
use Rattle.std.specs.Prelude.{fold}
use Rattle.btr_prog.specs.Answers.{Halt, Fault, Unread, Broke, Follows, Names, no_part}
use Rattle.btr_prog.specs.Goes.{AfterTo, Goes}
use Rattle.btr_prog.specs.Prog.{Mark, Run, run, prepend, after, and_then, steps_of, wants_of}
use Rattle.btr_prog.specs.Quiet.{quiet}
use Rattle.btr_prog.specs.Trying.{Done, attempt, try_then}
use Rattle.btr_prog.proofs.Follow.{breaks_longer, broke_here, follows_alone, follows_as, follows_behind, follows_halt}
use Rattle.btr_prog.proofs.Successive.{calls_as, calls_none, calls_then}
use Rattle.btr_rack.specs.Rack.{OnlyReads, Seen}
use Rattle.btr_rack.specs.Sink.{Sink}
use Rattle.btr_read.specs.Fate as fate
use Rattle.btr_read.specs.Layout.{Layout}
use Rattle.btr_read.specs.declared.want.Want.{Want}
use Rattle.btr_tour.specs.Steps.{reason}
use Rattle.btr_walk.specs.Reading.{Map, UnreadBlock, unread_by, halt_of}
use Rattle.btr_walk.specs.declared.fault.TreeFault.{TreeFault}
use Rattle.btr_walk.specs.declared.fault.TreeFault.TheVariants as tree
use Rattle.btr_walk.proofs.Fetched.{since}
use Rattle.btr_volume.specs.Lookup.{Program, Lookup}
use Rattle.btr_volume.specs.declared.stop.Stop.{Stop as TheStop}
use Rattle.btr_volume.specs.declared.stop.Stop.TheVariants as stop
use Rattle.btr_volume.specs.declared.volume.Volume.{Volume}
use Rattle.btr_listing.specs.Step.{Step, part}
use Rattle.btr_rack.proofs.Reading.{reads_none, reads_more}
use Rattle.btr_volume.proofs.Onward.{behind_since, same_self, same_then, stop_passed}
use Rattle.btr_volume.specs.Stops.{ended, stop_halt}
use Rattle.btr_restore.specs.Listing.{maps_of}
use Rattle.btr_restore.specs.Restoring.{IsRestoreStop, OutCounts, Scene, SinkCounts, sink_after, text_after}
use Rattle.btr_restore.specs.Restoring as restoring
use Rattle.btr_volume.specs.Readable.{CanRead}
use Rattle.btr_restore.specs.Running.{Outside, World, Wrote, scene_of, world}
use Rattle.btr_restore.specs.Running as running
use Rattle.btr_restore.proofs.Doing.{fold-append, text_then}
use Rattle.btr_restore.proofs.Emitting.{text_none}
use Rattle.btr_restore.proofs.Goings.{if_both, if_map, if_some}
use Rattle.btr_restore.proofs.Rans.{ran_wrote}
use Rattle.btr_restore.proofs.Stopping.{outs_then, sinks_then}
use Rattle.btr_prog.specs.Attempts.{TriesTo, Tries, on_value, value_then}
use Rattle.btr_salvage.specs.Running.{Does, Ran}
use Rattle.btr_salvage.specs.Salvaging.{Attempt, tries}
use Rattle.btr_prog.proofs.Attempts.{comes_some, tries_attempt, tries_then, tries_value}

-- what is handed on of an answer: a value, or a program's own fault
abbrev Hands : {A : Type 0} → Result A (Halt fate.Fault UnreadBlock) → Result A fate.Fault → Type 0
Hands (Ok a) x = x ≡ Ok a
Hands (Err (Fault f)) x = x ≡ Err f
Hands (Err (Unread u)) x = ⊥
Hands (Err Broke) x = ⊥

module _ (Bs : ℕ → Map) (One Is : UnreadBlock → Want → Type 0) where
  -- an answer whose ending is known: all steps were done
  all_done : {A : Type 0} (r : Run Want fate.Fault Step A) (done : List Step) (ans : Result A (Halt fate.Fault UnreadBlock)) (x : Result A fate.Fault)
      → Hands ans x → Follows One part [] r done ans → (done ≡ steps_of r.marks) × (r.ending ≡ x)
  all_done r done (Ok a) x h f = (f.0, f.1 ∙ sym h)
  all_done r done (Err (Fault e)) x h f = (f.0, f.1 ∙ sym h)
  all_done r done (Err (Unread u)) x h f = absurd h
  all_done r done (Err Broke) x h f = absurd h

  -- one, and then another by how it ended
  pub tries_next : {A C : Type 0} (p : Attempt A) (h : Result A fate.Fault → Attempt C) (ans : Result A (Halt fate.Fault UnreadBlock))
      (x : Result A fate.Fault) (done more : List Step) (last : Result C (Halt fate.Fault UnreadBlock)) → Hands ans x → Tries One part Bs p done ans
      → Tries Is part Bs (h x) more last → Tries Is part Bs (try_then p h) (done ++ more) last
  tries_next p h ans x done more last hands one two =
      let q = one.0 in
      let r = two.0 in
      let all = all_done q done ans x hands one.2 in (
        prepend q.marks r,
        tries_then Bs p h q r one.1 (subst (λ y. TriesTo Bs (h y) r) (sym all.1) two.1),
        subst (λ (l : List Step). Follows Is part [] (prepend q.marks r) (l ++ more) last) (sym all.0)
            (follows_behind Is part [] q.marks r more last (follows_alone Is part (wants_of q.marks) r more last two.2)),
      )

  -- a block could not be read
  pub tries_unread : {A C : Type 0} (p : Attempt A) (h : Result A fate.Fault → Attempt C) (u : UnreadBlock) (done : List Step)
      → Tries Is part Bs p done (Err (Unread u)) → Tries Is part Bs (try_then p h) done (Err (Unread u))
  tries_unread p h u done one =
      let q = one.0 in
      let s = comes_some Bs 0 (h q.ending) in (
        prepend q.marks (run s.0 s.1),
        tries_then Bs p h q (run s.0 s.1) one.1 s.2,
        breaks_longer no_part (λ ws. Names Is u ([] ++ ws)) q s.0 s.1 done one.2,
      )

  -- the first didn't come to a value
  some_after : {A C : Type 0} (k : A → Attempt C) (ms : List (Mark Want Step)) (x : Result A fate.Fault)
      → AfterTo ms x (λ a. TriesTo Bs (k a)) (after ms x (λ a. let s = comes_some Bs 0 (k a) in run s.0 s.1))
  some_after k ms (Ok a) = let s = comes_some Bs 0 (k a) in (run s.0 s.1, refl, s.2)
  some_after k ms (Err f) = refl

  -- a program that didn't come to a value halts the one that goes on by its value
  pub tries_halt : {A C : Type 0} (p : Attempt A) (k : A → Attempt C) (halt : Halt fate.Fault UnreadBlock) (done : List Step)
      → Tries Is part Bs p done (Err halt) → Tries Is part Bs (value_then p k) done (Err halt)
  tries_halt p k halt done one =
      let q = one.0 in
      let rest : _ → Run Want fate.Fault Step _ = λ a. let s = comes_some Bs 0 (k a) in run s.0 s.1 in (
        and_then q rest,
        tries_value Bs p k q (and_then q rest) one.1 (some_after k q.marks q.ending),
        follows_halt Is part [] q rest done halt one.2,
      )

  -- less may be said of the want that could not be read
  pub tries_as : {A : Type 0} (p : Attempt A) (done : List Step) (ans : Result A (Halt fate.Fault UnreadBlock))
      → ((u : UnreadBlock) (w : Want) → One u w → Is u w) → Tries One part Bs p done ans → Tries Is part Bs p done ans
  tries_as p done ans f h = (h.0, h.1, follows_as One Is f part [] h.0 done ans h.2)

-- a program of restore as a part
pub does_attempt : {A : Type 0} (layout : Layout) (p : Program Step A) (x y : Scene) (ans : Result A (Halt fate.Fault UnreadBlock))
    → restoring.Does layout p x y ans → Does layout (attempt p) x y ans
does_attempt layout p x y ans h = record {
  done = h.done;
  sink = h.sink;
  text = h.text;
  content = record {
    calls = calls_as (λ sure held f.
        if_map (λ images. Goes (unread_by layout x.rack y.rack) part [] (maps_of layout sure images) p h.done ans)
        (λ images. Tries (unread_by layout x.rack y.rack) part (maps_of layout sure images) (attempt p) h.done ans) held
        (λ images g. (g.0, tries_attempt (maps_of layout sure images) p g.0 g.1, g.2)) f) h.content.calls;
  };
}

-- a call that did the steps of a program of restore did those of its part in salvage
pub ran_of : {A : Type 0} (p : Program Step A) (x y : World) (r : Result A TheStop) → running.Ran p x y r → Ran (attempt p) x y r
ran_of p x y r h = record {
  reads = h.reads;
  volume = h.volume;
  ready = h.ready;
  did = does_attempt x.vol.store.layout p (scene_of x) (scene_of y) (ended r) h.did;
  cause = h.cause;
  sink_calls = h.sink_calls;
  out_calls = h.out_calls;
}

-- a stop that is passed on
pub ran_passed : {A : Type 0} {p : Attempt A} {x y : World} {s : TheStop} (r : Result A TheStop) → IsErrAnd r (λ e. e ≡ s) → Ran p x y (Err s) → Ran p x y r
ran_passed {p = p} {x = x} {y = y} {s = s} r is h = stop_passed (λ q. Ran p x y q) r s is h

-- calls that only write
pub ran_writes : {A : Type 0} (p : Program Step A) (rack : Seen) (vol : Volume) (x y : Outside) (r : Result A TheStop) → CanRead 6 rack vol → Wrote p x y r
    → Ran (attempt p) (world rack vol x) (world rack vol y) r
ran_writes p rack vol x y r ready w = ran_of p (world rack vol x) (world rack vol y) r (ran_wrote p rack vol x y r ready w)

-- one call, and then another by how it ended
module _ {A C : Type 0} (layout layout' : Layout) (same : layout' ≡ layout) (p : Attempt A) (h : Result A fate.Fault → Attempt C) (x y z : Scene) where
  -- what a call did, and then the next by how it ended, is what their programs do in a row
  pub does_next : (ans : Result A (Halt fate.Fault UnreadBlock)) (v : Result A fate.Fault) (last : Result C (Halt fate.Fault UnreadBlock)) → Hands ans v
      → OnlyReads x.rack y.rack → Does layout p x y ans → Does layout' (h v) y z last → Does layout (try_then p h) x z last
  does_next ans v last hands reads one two =
      let t = subst (λ (l : Layout). Does l (h v) y z last) same two in
      record {
        done = one.done ++ t.done;
        sink = t.sink ∙ (ap (λ (s : Sink). fold sink_after s t.done) one.sink ∙ sym (fold-append sink_after x.sink one.done t.done));
        text = t.text ∙ (ap (λ u. text_after u t.done) one.text ∙ text_then x.text one.done t.done);
        content = record {
          calls = calls_then (λ sure held f f'.
              if_both (λ images. Tries (unread_by layout x.rack y.rack) part (maps_of layout sure images) p one.done ans)
              (λ images. Tries (unread_by layout y.rack z.rack) part (maps_of layout sure images) (h v) t.done last)
              (λ images. Tries (unread_by layout x.rack z.rack) part (maps_of layout sure images) (try_then p h) (one.done ++ t.done) last) held
              (λ images g g'. tries_next (maps_of layout sure images) (unread_by layout x.rack y.rack)
              (unread_by layout x.rack z.rack) p h ans v one.done t.done last hands g
              (tries_as (maps_of layout sure images) (unread_by layout y.rack z.rack) (unread_by layout x.rack z.rack) (h v) t.done last
              (λ u w i. since layout layout refl reads u w i) g')) f f')
              one.content.calls t.content.calls;
        };
      }

  -- a call that met a block which could not be read did what its program and another behind it do
  pub does_unread : (u : UnreadBlock) → Does layout p x y (Err (Unread u)) → Does layout (try_then p h) x y (Err (Unread u))
  does_unread u one = record {
    done = one.done;
    sink = one.sink;
    text = one.text;
    content = record {
      calls = calls_as (λ sure held f.
          if_map (λ images. Tries (unread_by layout x.rack y.rack) part (maps_of layout sure images) p one.done (Err (Unread u)))
          (λ images. Tries (unread_by layout x.rack y.rack) part (maps_of layout sure images) (try_then p h) one.done (Err (Unread u))) held
          (λ images g. tries_unread (maps_of layout sure images) (unread_by layout x.rack y.rack) (unread_by layout x.rack y.rack) p h u one.done g) f)
          one.content.calls;
    };
  }

module _ {A C : Type 0} (layout : Layout) (p : Attempt A) (k : A → Attempt C) (x y : Scene) where
  -- a call that was halted did what its program and another by its value do
  pub does_stop : (halt : Halt fate.Fault UnreadBlock) → Does layout p x y (Err halt) → Does layout (value_then p k) x y (Err halt)
  does_stop halt one = record {
    done = one.done;
    sink = one.sink;
    text = one.text;
    content = record {
      calls = calls_as (λ sure held f.
          if_map (λ images. Tries (unread_by layout x.rack y.rack) part (maps_of layout sure images) p one.done (Err halt))
          (λ images. Tries (unread_by layout x.rack y.rack) part (maps_of layout sure images) (value_then p k) one.done (Err halt)) held
          (λ images g. tries_halt (maps_of layout sure images) (unread_by layout x.rack y.rack) (unread_by layout x.rack y.rack) p k halt one.done g) f)
          one.content.calls;
    };
  }

-- calls with their causes
module _ {A C : Type 0} (p : Attempt A) (h : Result A fate.Fault → Attempt C) (x y z : World) where
  -- a call, and then the next by what is handed on of its answer, did the steps of their programs in a row
  next_by : (ans : Result A TheStop) (v : Result A fate.Fault) (r : Result C TheStop) → Hands (ended ans) v
      → SinkCounts {A = Unit {0}} x.out.sink_calls y.out.sink_calls (Ok (tt {0})) → OutCounts {A = Unit {0}} x.out.out_calls y.out.out_calls (Ok (tt {0}))
      → Ran p x y ans → Ran (h v) y z r → Ran (try_then p h) x z r
  next_by ans v r hands sinks outs one two = record {
    reads = reads_more one.reads two.reads;
    volume = same_then one.volume two.volume;
    ready = two.ready;
    did = does_next x.vol.store.layout y.vol.store.layout one.volume.store.layout p h (scene_of x) (scene_of y) (scene_of z) (ended ans) v
        (ended r) hands one.reads one.did two.did;
    cause = behind_since IsRestoreStop z.rack x.vol.store.layout y.vol.store.layout r one.volume.store.layout one.reads two.cause;
    sink_calls = sinks_then x.out.sink_calls y.out.sink_calls z.out.sink_calls (tt {0}) r sinks two.sink_calls;
    out_calls = outs_then x.out.out_calls y.out.out_calls z.out.out_calls (tt {0}) r outs two.out_calls;
  }

  -- on by a value
  pub ran_handed : (a : A) (r : Result C TheStop) → Ran p x y (Ok a) → Ran (h (Ok a)) y z r → Ran (try_then p h) x z r
  ran_handed a r one two = next_by (Ok a) (Ok a) r refl one.sink_calls one.out_calls one two

  -- a fault of a block that can't be had is handed on
  hands_fault : (f : TreeFault) (fault : fate.Fault) → reason f ≡ Some fault → Hands {A = A} (Err (halt_of f)) (Err fault)
  hands_fault (tree.Lost a) fault e = cc
  hands_fault (tree.Unread a slot) fault e = cc
  hands_fault (tree.Unmapped a) fault e = cc
  hands_fault (tree.Crosses a) fault e = cc
  hands_fault (tree.Malformed a) fault e = cc

  -- on by a fault of a block that can't be had
  pub ran_caught : (f : TreeFault) (fault : fate.Fault) (r : Result C TheStop) → reason f ≡ Some fault → Ran p x y (Err (stop.Tree f))
      → Ran (h (Err fault)) y z r → Ran (try_then p h) x z r
  ran_caught f fault r e one two = next_by (Err (stop.Tree f)) (Err fault) r (hands_fault f fault e) one.sink_calls one.out_calls one two

  -- a block could not be read
  unread_so : (f : TreeFault) → reason f ≡ None → Does x.vol.store.layout p (scene_of x) (scene_of y) (Err (halt_of f))
      → Does x.vol.store.layout (try_then p h) (scene_of x) (scene_of y) (Err (halt_of f))
  unread_so (tree.Lost a) e d = cc
  unread_so (tree.Unread a slot) e d = does_unread x.vol.store.layout x.vol.store.layout refl p h (scene_of x) (scene_of y) (scene_of z)
      (record { addr = a; slot = slot }) d
  unread_so (tree.Unmapped a) e d = cc
  unread_so (tree.Crosses a) e d = cc
  unread_so (tree.Malformed a) e d = cc

  -- a call that stopped at a block which could not be read did what its program and another behind it do
  pub ran_unread : (f : TreeFault) → reason f ≡ None → Ran p x y (Err (stop.Tree f)) → Ran (try_then p h) x y (Err (stop.Tree f))
  ran_unread f e one = record {
    reads = one.reads;
    volume = one.volume;
    ready = one.ready;
    did = unread_so f e one.did;
    cause = one.cause;
    sink_calls = one.sink_calls;
    out_calls = one.out_calls;
  }

module _ {A C : Type 0} (p : Attempt A) (k : A → Attempt C) (x y z : World) where
  -- a call that came to a value, and then the next by that value, did the steps of their programs in a row
  pub ran_then : (a : A) (r : Result C TheStop) → Ran p x y (Ok a) → Ran (k a) y z r → Ran (value_then p k) x z r
  ran_then a r one two = ran_handed p (on_value k) x y z a r one two

  -- a call that met a stop did what its program and another by its value do
  pub ran_halt : (s : TheStop) → Ran p x y (Err s) → Ran (value_then p k) x y (Err s)
  ran_halt s one = record {
    reads = one.reads;
    volume = one.volume;
    ready = one.ready;
    did = does_stop x.vol.store.layout p k (scene_of x) (scene_of y) (stop_halt s) one.did;
    cause = one.cause;
    sink_calls = one.sink_calls;
    out_calls = one.out_calls;
  }

-- nothing is done
pub ran_value : {A : Type 0} (a : A) (x : World) → CanRead 6 x.rack x.vol → Ran (Done (Ok a)) x x (Ok a)
ran_value a x ready = record {
  reads = reads_none x.rack;
  volume = same_self x.vol;
  ready = ready;
  did = record {
    done = [];
    sink = refl;
    text = text_none x.out.text;
    content = record {
      calls = calls_none (λ sure. if_some (λ images. Tries (unread_by x.vol.store.layout x.rack x.rack) part (maps_of x.vol.store.layout sure images)
          (Done (Ok a)) [] (Ok a)) x.rack.held (λ images. (run [] (Ok a), (refl, refl), (refl, refl))));
    };
  };
  cause = tt;
  sink_calls = refl;
  out_calls = refl;
}

-- want of memory, before anything was done
pub ran_memory : {A : Type 0} (p : Attempt A) (rack : Seen) (vol : Volume) (x : Outside) → CanRead 6 rack vol
    → Ran p (world rack vol x) (world rack vol x) (Err stop.Memory)
ran_memory {A} p rack vol x ready =
    let layout = vol.store.layout in
    record {
      reads = reads_none rack;
      volume = same_self vol;
      ready = ready;
      did = record {
        done = [];
        sink = refl;
        text = text_none x.text;
        content = record {
          calls = calls_none (λ sure. if_some (λ images. Tries (unread_by layout rack rack) part (maps_of layout sure images) p [] (Err Broke)) rack.held
              (λ images. let s = comes_some (maps_of layout sure images) 0 p in
              (run s.0 s.1, s.2, broke_here (unread_by layout rack rack) part [] (run s.0 s.1))));
        };
      };
      cause = tt;
      sink_calls = refl;
      out_calls = refl;
    }

-- a lookup of restore, and then a program by its value; or its stop
module _ {A C : Type 0} (p : Lookup A) (k : A → Attempt C) (x y : World) (result : Result A TheStop) where
  -- a lookup of restore came to a value, and the program of that value was done
  pub finds_then : (z : World) (a : A) (r : Result C TheStop) → running.Ran (quiet p) x y result → result ≡ Ok a → Ran (k a) y z r
      → Ran (value_then (tries p) k) x z r
  finds_then z a r h e g = ran_then (tries p) k x y z a r (ran_of (quiet p) x y (Ok a) (subst (λ (b : Result A TheStop). running.Ran (quiet p) x y b) e h)) g

  -- a lookup of restore that met a stop leaves the program behind it undone
  pub finds_halt : (s : TheStop) → running.Ran (quiet p) x y result → result ≡ Err s → Ran (value_then (tries p) k) x y (Err s)
  finds_halt s h e = ran_halt (tries p) k x y y s (ran_of (quiet p) x y (Err s) (subst (λ (b : Result A TheStop). running.Ran (quiet p) x y b) e h))
