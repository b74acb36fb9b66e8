-- A fold goes on as its scan does.
use Rattle.std.proofs.Common.{◌≡◌, ℕ, List, [], ◌∷◌, Result, Ok, Err, refl, sym, ap, subst}
use Rattle.btr_prog.specs.Prog.{Prog, Mark, Wants, Does, Run, run, first, prepend, exec, after, steps_of, want_marks}
use Rattle.btr_prog.specs.Thread.{go_on_run, thread_run, end_of}
use Rattle.btr_prog.specs.Answers.{Halt, Follows, no_part}
use Rattle.btr_prog.specs.Goes.{AfterTo, GoOnTo, ThreadsTo}
use Rattle.btr_prog.proofs.Threads.{exec-thread}
use Rattle.btr_prog.proofs.SoFars.{threads_exec}
use Rattle.btr_prog.proofs.Cursors.{cursor_halts}
use Rattle.btr_read.specs.Fate as fate
use Rattle.btr_read.specs.declared.want.Want.{Want}
use Rattle.btr_walk.specs.Le.{TreeItem}
use Rattle.btr_walk.specs.Range.{RangeProg}
use Rattle.btr_walk.specs.Reading.{Map, UnreadBlock}
use Rattle.btr_walk.specs.Scans.{wants}
use Rattle.btr_walk.specs.Folds.{Next, Go, End, Broken, next_prog, folded_over}

module _ {St R : Type 0} (step : St → TreeItem → Next St R) (answer : St → R) (B : Map) where
  -- what a fold makes of an item, as a program
  abbrev body : St → TreeItem → Prog Want fate.Fault ⊥ (Result St R)
  body st item = next_prog item.leaf (step st item)

  -- what a fold answers at the end of its items, by its last state
  abbrev fin : St → Unit {0} → R
  fin st u = answer st

  -- the run of a fold of a run
  abbrev pub fold_run : St → Run Want fate.Fault TreeItem (Unit {0}) → Run Want fate.Fault ⊥ R
  fold_run st r = thread_run (λ st' item. exec B (body st' item)) fin st r.marks r.ending

  -- the run of a fold is the fold of the run of its items
  pub exec_fold : (st : St) (p : RangeProg) → exec B (folded_over step answer st p) ≡ fold_run st (exec B p)
  exec_fold st p = exec-thread B body fin st p

  -- wants before a run are wants before its fold
  pub fold_past : (ws : List Want) (st : St) (r : Run Want fate.Fault TreeItem (Unit {0})) → fold_run st (prepend (wants ws) r)
      ≡ prepend (want_marks ws) (fold_run st r)
  fold_past [] st r = refl
  fold_past (w ∷ ws) st r = ap (first (Wants w)) (fold_past ws st r)

  -- an item that gives a state leads to what follows from that state
  treated : (leaf : ℕ) (x : Next St R) (st' : St) (k : St → Run Want fate.Fault ⊥ R) → x ≡ Go st'
      → after (exec B (next_prog leaf x)).marks (exec B (next_prog leaf x)).ending (go_on_run k) ≡ k st'
  treated leaf x st' k e = subst (λ y. after (exec B (next_prog leaf y)).marks (exec B (next_prog leaf y)).ending (go_on_run k) ≡ k st') (sym e) refl

  -- an item that gives a state leaves the fold of what comes behind it, from that state on
  pub fold_go : (st st' : St) (item : TreeItem) (r : Run Want fate.Fault TreeItem (Unit {0})) → step st item ≡ Go st'
      → fold_run st (first (Does item) r) ≡ fold_run st' r
  fold_go st st' item r e = treated item.leaf (step st item) st' (λ s. fold_run s r) e

  -- an item that gives an answer leads to that answer, and to nothing more
  ended : (leaf : ℕ) (x : Next St R) (out : R) (k : St → Run Want fate.Fault ⊥ R) → x ≡ End out
      → after (exec B (next_prog leaf x)).marks (exec B (next_prog leaf x)).ending (go_on_run k) ≡ run [] (Ok out)
  ended leaf x out k e = subst (λ y. after (exec B (next_prog leaf y)).marks (exec B (next_prog leaf y)).ending (go_on_run k) ≡ run [] (Ok out)) (sym e) refl

  -- an item that gives an answer ends the fold with it
  pub fold_end : (st : St) (item : TreeItem) (r : Run Want fate.Fault TreeItem (Unit {0})) (out : R) → step st item ≡ End out
      → fold_run st (first (Does item) r) ≡ run [] (Ok out)
  fold_end st item r out e = ended item.leaf (step st item) out (λ s. fold_run s r) e

  -- an item that breaks its form leads to nothing more: its leaf is malformed
  broke : (leaf : ℕ) (x : Next St R) (k : St → Run Want fate.Fault ⊥ R) → x ≡ Broken
      → after (exec B (next_prog leaf x)).marks (exec B (next_prog leaf x)).ending (go_on_run k) ≡ run [] (Err (fate.Malformed leaf))
  broke leaf x k e = subst (λ y. after (exec B (next_prog leaf y)).marks (exec B (next_prog leaf y)).ending (go_on_run k)
      ≡ run [] (Err (fate.Malformed leaf))) (sym e) refl

  -- an item that breaks its form ends the fold: its leaf is malformed
  pub fold_broken : (st : St) (item : TreeItem) (r : Run Want fate.Fault TreeItem (Unit {0})) → step st item ≡ Broken
      → fold_run st (first (Does item) r) ≡ run [] (Err (fate.Malformed item.leaf))
  fold_broken st item r e = broke item.leaf (step st item) (λ s. fold_run s r) e

  -- a run is that of what the fold makes of an item
  abbrev Exec : St → TreeItem → Run Want fate.Fault ⊥ (Result St R) → Type 0
  Exec st item b = b ≡ exec B (body st item)

  -- where from every state the fold treats what comes behind an item one by one, it does so behind what it makes of the item
  some_after : (ms : List (Mark Want TreeItem)) (e : Result (Unit {0}) fate.Fault) → ((st : St) → ThreadsTo Exec fin st ms e (fold_run st (run ms e)))
      → (marks : List (Mark Want ⊥)) (x : Result (Result St R) fate.Fault)
      → AfterTo marks x (GoOnTo (λ st. ThreadsTo Exec fin st ms e)) (after marks x (go_on_run (λ st. fold_run st (run ms e))))
  some_after ms e h marks (Ok (Ok st)) = (fold_run st (run ms e), refl, h st)
  some_after ms e h marks (Ok (Err y)) = (run [] (Ok y), refl, refl)
  some_after ms e h marks (Err f) = refl

  -- the fold of a run treats its items one after another, each by what the step makes of it
  some_fold : (st : St) (ms : List (Mark Want TreeItem)) (e : Result (Unit {0}) fate.Fault) → ThreadsTo Exec fin st ms e (fold_run st (run ms e))
  some_fold st [] e = refl
  some_fold st (Wants w ∷ ms) e = (fold_run st (run ms e), refl, some_fold st ms e)
  some_fold st (Does item ∷ ms) e =
      let b = exec B (body st item) in
      (b, refl, some_after ms e (λ st'. some_fold st' ms e) b.marks b.ending)

  -- the scan came to no item: what it answers is answered of the fold
  pub fold_halts : (Is : UnreadBlock → Want → Type 0) (seen : List Want) (st : St) (p : RangeProg) (h : Halt fate.Fault UnreadBlock)
      → Follows Is no_part seen (exec B p) [] (Err h) → Follows Is no_part seen (exec B (folded_over step answer st p)) [] (Err h)
  fold_halts Is seen st p h f =
      let g = cursor_halts Exec fin (λ s r. (fold_run s r, some_fold s r.marks r.ending)) Is no_part seen st (exec B p) h f in
      subst (λ q. Follows Is no_part seen q [] (Err h)) (threads_exec B body fin st p g.0 g.1) g.2

  -- a run that gives no item and comes to its end is folded to the answer of the state it began with
  fold_all : (st : St) (ms : List (Mark Want TreeItem)) (e : Result (Unit {0}) fate.Fault) → [] ≡ steps_of ms → e ≡ Ok tt
      → ([] ≡ steps_of (fold_run st (run ms e)).marks) × ((fold_run st (run ms e)).ending ≡ Ok (answer st))
  fold_all st [] e n h = (
    subst (λ x. [] ≡ steps_of (end_of {W = Want} {F = fate.Fault} {T = ⊥} fin st x).marks) (sym h) refl,
    subst (λ x. (end_of {W = Want} {F = fate.Fault} {T = ⊥} fin st x).ending ≡ Ok (answer st)) (sym h) refl,
  )
  fold_all st (Wants w ∷ ms) e n h = fold_all st ms e n h
  fold_all st (Does item ∷ ms) e n h = cc

  -- the scan came to its end
  pub fold_ends : (Is : UnreadBlock → Want → Type 0) (seen : List Want) (st : St) (p : RangeProg) → Follows Is no_part seen (exec B p) [] (Ok tt)
      → Follows Is no_part seen (exec B (folded_over step answer st p)) [] (Ok (answer st))
  fold_ends Is seen st p f = subst (λ q. Follows Is no_part seen q [] (Ok (answer st))) (sym (exec_fold st p))
      (fold_all st (exec B p).marks (exec B p).ending f.0 f.1)
