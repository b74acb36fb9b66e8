-- A program whose steps are treated one after another.
use Rattle.std.proofs.Common.{◌≡◌, List, [], ◌∷◌, Result, Ok, Err, refl, sym, ap, ◌∙◌, subst, append-nil}
use Rattle.btr_scrub.proofs.Common.{Follows, Map, Mark, Return, UnreadBlock, Want, bind, exec, exec-bind, no_part, steps_of}
use Rattle.btr_prog.specs.Answers.{Halt}
use Rattle.btr_prog.specs.Goes.{AfterTo, GoOnTo, ThreadsTo}
use Rattle.btr_prog.specs.Prog.{Wants, Does, Run, run, first, prepend, and_then, after, want_marks}
use Rattle.btr_prog.specs.Thread.{end_of, go_on_run, thread_run}
use Rattle.btr_prog.proofs.Cursors.{cursor_halts}
use Rattle.btr_prog.proofs.SoFars.{threads_exec}
use Rattle.btr_prog.proofs.Threads.{after_same, exec-thread}
use Rattle.btr_read.specs.Fate as fate
use Rattle.btr_volume.specs.Lookup.{Program, each}

module _ {X T St : Type 0} (treat : St → X → Program T St) (B : Map) where
  -- an item treated, which leaves a state to go on with
  abbrev body : St → X → Program T (Result St St)
  body st x = bind (treat st x) (λ v. Return (Ok v))

  -- at the end the state is as it is
  abbrev fin : St → Unit {0} → St
  fin st u = st

  -- a run each of whose items is treated, from a state on
  abbrev run_each : St → Run Want fate.Fault X (Unit {0}) → Run Want fate.Fault T St
  run_each st r = thread_run (λ st x. exec B (body st x)) fin st r.marks r.ending

  -- a run that does nothing, and goes on with a state
  abbrev gone_on : St → Run Want fate.Fault T (Result St St)
  gone_on a = run [] (Ok (Ok a))

  -- to run a program that treats each item is to treat each item of its run
  exec_each : (st : St) (p : Program X (Unit {0})) → exec B (each treat st p) ≡ run_each st (exec B p)
  exec_each st p = exec-thread B body fin st p

  -- wants before a run stay before it when its items are treated
  each_past : (ws : List Want) (st : St) (r : Run Want fate.Fault X (Unit {0})) → run_each st (prepend (want_marks ws) r)
      ≡ prepend (want_marks ws) (run_each st r)
  each_past [] st r = refl
  each_past (w ∷ ws) st r = ap (first (Wants w)) (each_past ws st r)

  -- to say that it goes on with a value, and to go on with it, is to go on with it at once
  twice : (ms : List (Mark Want T)) (e : Result St fate.Fault) (k : St → Run Want fate.Fault T St) → and_then (after ms e gone_on) (go_on_run k) ≡ after ms e k
  twice ms (Ok a) k = ap (λ m. prepend m (k a)) (append-nil ms)
  twice ms (Err f) k = refl

  -- where a run begins with an item, that is treated first, and the rest from the state that it left
  each_does : (x : X) (st : St) (r : Run Want fate.Fault X (Unit {0})) → run_each st (first (Does x) r) ≡ and_then (exec B (treat st x)) (λ v. run_each v r)
  each_does x st r =
      ap (λ b. and_then b (go_on_run (λ v. thread_run (λ st x. exec B (body st x)) fin v r.marks r.ending))) (exec-bind B (treat st x) (λ v. Return (Ok v)))
      ∙ twice (exec B (treat st x)).marks (exec B (treat st x)).ending (λ v. thread_run (λ st x. exec B (body st x)) fin v r.marks r.ending)

  -- an item behind some wants
  pub each_gives : (st : St) (p q : Program X (Unit {0})) (x : X) (ws : List Want) → exec B p ≡ prepend (want_marks ws) (first (Does x) (exec B q))
      → exec B (each treat st p) ≡ prepend (want_marks ws) (exec B (bind (treat st x) (λ v. each treat v q)))
  each_gives st p q x ws is =
      exec_each st p
      ∙ ap (run_each st) is
      ∙ each_past ws st (first (Does x) (exec B q))
      ∙ ap (prepend (want_marks ws)) (each_does x st (exec B q)
      ∙ after_same (exec B (treat st x)).marks (exec B (treat st x)).ending (λ v. run_each v (exec B q)) (λ v. exec B (each treat v q))
      (λ v. sym (exec_each v q))
      ∙ sym (exec-bind B (treat st x) (λ v. each treat v q)))

  -- a run is that of an item treated
  abbrev Exec : St → X → Run Want fate.Fault T (Result St St) → Type 0
  Exec st x b = b ≡ exec B (body st x)

  -- behind one item's run it goes on from the state that this left, or ends with its result, or with its fault
  some_after : (ms : List (Mark Want X)) (e : Result (Unit {0}) fate.Fault)
      → ((st : St) → ThreadsTo Exec fin st ms e (thread_run (λ st x. exec B (body st x)) fin st ms e))
      → (marks : List (Mark Want T)) (y : Result (Result St St) fate.Fault)
      → AfterTo marks y (GoOnTo (λ st. ThreadsTo Exec fin st ms e)) (after marks y (go_on_run (λ st. thread_run (λ st x. exec B (body st x)) fin st ms e)))
  some_after ms e h marks (Ok (Ok st)) = (thread_run (λ st x. exec B (body st x)) fin st ms e, refl, h st)
  some_after ms e h marks (Ok (Err y)) = (run [] (Ok y), refl, refl)
  some_after ms e h marks (Err f) = refl

  -- it treats the items one after another, each by the run of treating it
  some_all : (st : St) (ms : List (Mark Want X)) (e : Result (Unit {0}) fate.Fault)
      → ThreadsTo Exec fin st ms e (thread_run (λ st x. exec B (body st x)) fin st ms e)
  some_all st [] e = refl
  some_all st (Wants w ∷ ms) e = (thread_run (λ st x. exec B (body st x)) fin st ms e, refl, some_all st ms e)
  some_all st (Does x ∷ ms) e = let b = exec B (body st x) in (b, refl, some_after ms e (λ v. some_all v ms e) b.marks b.ending)

  -- the items came to a fault
  pub each_halts : (Is : UnreadBlock → Want → Type 0) (seen : List Want) (st : St) (p : Program X (Unit {0})) (h : Halt fate.Fault UnreadBlock)
      → Follows Is no_part seen (exec B p) [] (Err h) → Follows Is no_part seen (exec B (each treat st p)) [] (Err h)
  each_halts Is seen st p h f =
      let g = cursor_halts Exec fin (λ st r. (thread_run (λ st x. exec B (body st x)) fin st r.marks r.ending, some_all st r.marks r.ending)) Is no_part
      seen st (exec B p) h f in
      subst (λ q. Follows Is no_part seen q [] (Err h)) (threads_exec B body fin st p g.0 g.1) g.2

  -- where a run has no items and came to its end, nothing is done, and the state is as it was
  all_none : (st : St) (ms : List (Mark Want X)) (e : Result (Unit {0}) fate.Fault) → [] ≡ steps_of ms → e ≡ Ok tt
      → ([] ≡ steps_of (run_each st (run ms e)).marks) × ((run_each st (run ms e)).ending ≡ Ok st)
  all_none st [] e n h = (
    subst (λ x. [] ≡ steps_of (end_of {W = Want} {F = fate.Fault} {T = T} fin st x).marks) (sym h) refl,
    subst (λ x. (end_of {W = Want} {F = fate.Fault} {T = T} fin st x).ending ≡ Ok st) (sym h) refl,
  )
  all_none st (Wants w ∷ ms) e n h = all_none st ms e n h
  all_none st (Does x ∷ ms) e n h = cc

  -- the items came to their end
  pub each_ends : (Is : UnreadBlock → Want → Type 0) (seen : List Want) (st : St) (p : Program X (Unit {0}))
      → Follows Is no_part seen (exec B p) [] (Ok tt) → Follows Is no_part seen (exec B (each treat st p)) [] (Ok st)
  each_ends Is seen st p f = subst (λ q. Follows Is no_part seen q [] (Ok st)) (sym (exec_each st p)) (all_none st (exec B p).marks (exec B p).ending f.0 f.1)
