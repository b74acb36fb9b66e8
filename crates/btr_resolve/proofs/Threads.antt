-- A program that treats the steps of another one, by a cursor over them.
use Rattle.std.proofs.Common.{◌≡◌, List, [], ◌∷◌, Result, Ok, Err, refl, sym, ap, ◌∙◌, subst, append-nil}
use Rattle.std.proofs.Math.Path.{fun_ext}
use Rattle.std.specs.Prelude.{ℕ, Option}
use Rattle.btr_prog.specs.Prog.{Mark, Wants, Does, Return, Run, run, first, prepend, exec, bind, after, and_then, steps_of, want_marks}
use Rattle.btr_prog.specs.Thread.{thread, go_on_run, thread_run, end_of}
use Rattle.btr_prog.specs.Answers.{Halt, Follows, no_part}
use Rattle.btr_prog.specs.Goes.{AfterTo, GoOnTo, ThreadsTo}
use Rattle.btr_prog.proofs.Cursors.{cursor_halts}
use Rattle.btr_prog.proofs.Runs.{exec-bind}
use Rattle.btr_prog.proofs.SoFars.{threads_exec}
use Rattle.btr_prog.proofs.Threads.{exec-thread}
use Rattle.btr_read.specs.Fate as fate
use Rattle.btr_read.specs.declared.want.Want.{Want}
use Rattle.btr_walk.specs.Reading.{Map, UnreadBlock}
use Rattle.btr_volume.specs.Lookup.{Program}

-- a run over wants, with such steps and such a value
abbrev pub RunOf : Type 0 → Type 0 → Type 0
RunOf T R = Run Want fate.Fault T R

module _ {S T St R : Type 0} (B : Map) (body : St → S → Program T (Result St R)) (fin : St → Unit {0} → R) where
  -- the run that treats the steps of a run, from a state on
  abbrev run_from : St → RunOf S (Unit {0}) → RunOf T R
  run_from st r = thread_run (λ st' s. exec B (body st' s)) fin st r.marks r.ending

  -- wants before some steps are wants before what the steps are treated by
  run_past : (ws : List Want) (st : St) (r : RunOf S (Unit {0})) → run_from st (prepend (want_marks ws) r) ≡ prepend (want_marks ws) (run_from st r)
  run_past [] st r = refl
  run_past (w ∷ ws) st r = ap (first (Wants w)) (run_past ws st r)

  -- what is left from a state on
  abbrev pub left : St → Program S (Unit {0}) → RunOf T R
  left st p = exec B (thread body fin st p)

  -- the cursor came to a step behind some wants
  pub turned : (p q : Program S (Unit {0})) (x : S) (past : List Want) (st : St)
      → exec B p ≡ prepend (want_marks past) (first (Does x) (exec B q))
      → left st p ≡ prepend (want_marks past) (and_then (exec B (body st x)) (go_on_run (λ st'. left st' q)))
  turned p q x past st is =
      exec-thread B body fin st p ∙ ap (run_from st) is ∙ run_past past st (first (Does x) (exec B q))
      ∙ ap (λ (k : St → RunOf T R). prepend (want_marks past) (and_then (exec B (body st x)) (go_on_run k)))
      (fun_ext (λ st'. sym (exec-thread B body fin st' q)))

  abbrev Exec : St → S → RunOf T (Result St R) → Type 0
  Exec st s b = b ≡ exec B (body st s)

  -- behind what one step is treated by, the others are treated
  some_after : (ms : List (Mark Want S)) (e : Result (Unit {0}) fate.Fault)
      → ((st : St) → ThreadsTo Exec fin st ms e (run_from st (run ms e)))
      → (marks : List (Mark Want T)) (x : Result (Result St R) fate.Fault)
      → AfterTo marks x (GoOnTo (λ st. ThreadsTo Exec fin st ms e)) (after marks x (go_on_run (λ st. run_from st (run ms e))))
  some_after ms e h marks (Ok (Ok st)) = (run_from st (run ms e), refl, h st)
  some_after ms e h marks (Ok (Err y)) = (run [] (Ok y), refl, refl)
  some_after ms e h marks (Err f) = refl

  -- the run treats the steps one after another
  some_run : (st : St) (ms : List (Mark Want S)) (e : Result (Unit {0}) fate.Fault) → ThreadsTo Exec fin st ms e (run_from st (run ms e))
  some_run st [] e = refl
  some_run st (Wants w ∷ ms) e = (run_from st (run ms e), refl, some_run st ms e)
  some_run st (Does s ∷ ms) e =
      let b = exec B (body st s) in
      (b, refl, some_after ms e (λ st'. some_run st' ms e) b.marks b.ending)

  -- it came to no step more, by a fault
  pub turn_halts : (Is : UnreadBlock → Want → Type 0) (part : T → ℕ → Option T) (seen : List Want) (st : St)
      (p : Program S (Unit {0})) (h : Halt fate.Fault UnreadBlock) → Follows Is no_part seen (exec B p) [] (Err h)
      → Follows Is part seen (left st p) [] (Err h)
  turn_halts Is part seen st p h f =
      let g = cursor_halts Exec fin (λ s r. (run_from s r, some_run s r.marks r.ending)) Is part seen st (exec B p) h f in
      subst (λ (q : RunOf T R). Follows Is part seen q [] (Err h)) (threads_exec B body fin st p g.0 g.1) g.2

  -- where there is no step more, the run does nothing more and ends with the last state
  run_ends : (st : St) (ms : List (Mark Want S)) (e : Result (Unit {0}) fate.Fault) → [] ≡ steps_of ms → e ≡ Ok tt
      → ([] ≡ steps_of (run_from st (run ms e)).marks) × ((run_from st (run ms e)).ending ≡ Ok (fin st tt))
  run_ends st [] e n h = (
    subst (λ x. [] ≡ steps_of (end_of {W = Want} {F = fate.Fault} {T = T} fin st x).marks) (sym h) refl,
    subst (λ x. (end_of {W = Want} {F = fate.Fault} {T = T} fin st x).ending ≡ Ok (fin st tt)) (sym h) refl,
  )
  run_ends st (Wants w ∷ ms) e n h = run_ends st ms e n h
  run_ends st (Does s ∷ ms) e n h = cc

  -- it came to no step more, as there is none
  pub turn_ends : (Is : UnreadBlock → Want → Type 0) (part : T → ℕ → Option T) (seen : List Want) (st : St)
      (p : Program S (Unit {0})) → Follows Is no_part seen (exec B p) [] (Ok tt) → Follows Is part seen (left st p) [] (Ok (fin st tt))
  turn_ends Is part seen st p f =
      subst (λ (q : RunOf T R). Follows Is part seen q [] (Ok (fin st tt))) (sym (exec-thread B body fin st p))
      (run_ends st (exec B p).marks (exec B p).ending f.0 f.1)

-- a program whose value is the next state
module _ {S T St : Type 0} (B : Map) (treat : St → S → Program T St) where
  -- a step's program, with its value as the next state
  abbrev pub body_of : St → S → Program T (Result St St)
  body_of st s = bind (treat st s) (λ st'. Return (Ok st'))

  -- the last state is the value
  abbrev pub last_of : St → Unit {0} → St
  last_of st u = st

  -- a run without marks that goes on with a state
  abbrev gone_on : St → RunOf T (Result St St)
  gone_on st = run [] (Ok (Ok st))

  -- a run that goes on with its value, and then the rest, is that run and then the rest
  twice : (ms : List (Mark Want T)) (e : Result St fate.Fault) (k : St → RunOf T St) → and_then (after ms e gone_on) (go_on_run k) ≡ after ms e k
  twice ms (Ok a) k = ap (λ m. prepend m (k a)) (append-nil ms)
  twice ms (Err f) k = refl

  -- the cursor came to a step behind some wants
  pub each_turned : (p q : Program S (Unit {0})) (x : S) (past : List Want) (st : St)
      → exec B p ≡ prepend (want_marks past) (first (Does x) (exec B q))
      → left B body_of last_of st p ≡ prepend (want_marks past) (and_then (exec B (treat st x)) (λ st'. left B body_of last_of st' q))
  each_turned p q x past st is =
      turned B body_of last_of p q x past st is
      ∙ ap (prepend (want_marks past))
      (ap (λ b. and_then b (go_on_run (λ st'. left B body_of last_of st' q))) (exec-bind B (treat st x) (λ st'. Return (Ok st')))
      ∙ twice (exec B (treat st x)).marks (exec B (treat st x)).ending (λ st'. left B body_of last_of st' q))
