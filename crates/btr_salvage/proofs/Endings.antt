-- Programs that come to an end, and the steps that they do.
use Rattle.std.proofs.Common.{◌≡◌, ℕ, List, [], ◌∷◌, ◌++◌, Bool, true, false, cond, Result, Ok, Err, refl, sym, ap, ◌∙◌, append-nil}
use Rattle.btr_prog.specs.Outcomes.{RunOutcome, outcome_of, thread_outcome}
use Rattle.btr_prog.specs.Prog.{BlockMap, Prog, Return, Stop, Need, Emit, Mark, Wants, Does, Run, given, exec, bind, steps_of, wants_of}
use Rattle.btr_prog.specs.Quiet.{quiet, quiet_marks}
use Rattle.btr_prog.specs.Thread.{go_on}
use Rattle.btr_prog.specs.Trying.{Trying, Done, attempt, gathered, tried, try_then}
use Rattle.btr_prog.proofs.Quieting.{exec-quiet, quiet_ends}
use Rattle.btr_prog.proofs.Runs.{after-err, after-ok, exec-bind, steps_of-append}
use Rattle.btr_prog.proofs.Treated.{outcome_of-thread}
use Rattle.btr_prog.proofs.Tries.{steps_of-marks, tried-attempt, tried-gathered, tried-then}
use Rattle.btr_read.specs.Fate.{Fault}
use Rattle.btr_walk.specs.Reading.{Map}
use Rattle.btr_volume.specs.Lookup.{Program, each}
use Rattle.btr_prog.specs.Attempts.{ending_of, on_value, value_then}

-- a lookup has no steps among its marks
quiet_steps : {W S : Type 0} (ms : List (Mark W ⊥)) → steps_of (quiet_marks {S = S} ms) ≡ []
quiet_steps [] = refl
quiet_steps (Wants w ∷ ms) = quiet_steps ms
quiet_steps (Does s ∷ ms) = absurd s

module _ {W F S : Type 0} (B : BlockMap W F) where
  -- a program does these steps, and ends so
  abbrev pub Did : {A : Type 0} → Prog W F S A → List S → Result A F → Type 0
  Did p ss x = (steps_of (exec B p).marks ≡ ss) × ((exec B p).ending ≡ x)

  -- so does one that tries its wants: it comes to a value
  abbrev pub Came : {A : Type 0} → Trying W F S A → List S → A → Type 0
  Came p ss a = (steps_of (tried B p).marks ≡ ss) × ((tried B p).ending ≡ Ok a)

  -- one, and then another by its value
  pub did_then : {A C : Type 0} (p : Prog W F S A) (k : A → Prog W F S C) (a : A) (ss ts : List S) (x : Result C F) → Did p ss (Ok a) → Did (k a) ts x
      → Did (bind p k) (ss ++ ts) x
  did_then p k a ss ts x h g =
      let e = exec-bind B p k ∙ after-ok (exec B p) a (λ y. exec B (k y)) h.1 in (
        ap (λ (r : Run W F S _). steps_of r.marks) e
            ∙ steps_of-append (exec B p).marks (exec B (k a)).marks
            ∙ ap (λ l. l ++ steps_of (exec B (k a)).marks) h.0
            ∙ ap (λ l. ss ++ l) g.0,
        ap (λ (r : Run W F S _). r.ending) e ∙ g.1,
      )

  -- where both come to a value, so did the first
  value_by : {A C : Type 0} (p : Prog W F S A) (k : A → Prog W F S C) (c : C) (x : Result A F) → (exec B p).ending ≡ x → (exec B (bind p k)).ending ≡ Ok c
      → (a : A) × ((exec B p).ending ≡ Ok a) × ((exec B (k a)).ending ≡ Ok c)
  value_by p k c (Ok a) e h = (a, e, sym (ap (λ (r : Run W F S _). r.ending) (exec-bind B p k ∙ after-ok (exec B p) a (λ y. exec B (k y)) e)) ∙ h)
  value_by p k c (Err f) e h =
      let g = sym (ap (λ (r : Run W F S _). r.ending) (exec-bind B p k ∙ after-err (exec B p) f (λ y. exec B (k y)) e)) ∙ h in absurd (cc)

  -- where two programs in a row come to a value, the first came to one from which the second comes to it
  pub bind_value : {A C : Type 0} (p : Prog W F S A) (k : A → Prog W F S C) (c : C) → (exec B (bind p k)).ending ≡ Ok c → (a : A) × ((exec B p).ending ≡ Ok a)
      × ((exec B (k a)).ending ≡ Ok c)
  bind_value p k c h = value_by p k c (exec B p).ending refl h

  -- a step that a flag leaves out
  pub did_unless : {A : Type 0} (b : Bool) (s : S) (p : Prog W F S A) (ss : List S) (x : Result A F) → Did p ss x
      → Did (cond b p (Emit s p)) (cond b [] (s ∷ []) ++ ss) x
  did_unless true s p ss x h = h
  did_unless false s p ss x h = (ap (λ l. s ∷ l) h.0, h.1)

  -- a program ends so too without a step that a flag may leave out before it
  pub unless_ends : {A : Type 0} (b : Bool) (s : S) (p : Prog W F S A) (x : Result A F) → (exec B (cond b p (Emit s p))).ending ≡ x → (exec B p).ending ≡ x
  unless_ends true s p x h = h
  unless_ends false s p x h = h

  -- a step that a flag asks for
  pub did_where : {A : Type 0} (b : Bool) (s : S) (p : Prog W F S A) (ss : List S) (x : Result A F) → Did p ss x
      → Did (cond b (Emit s p) p) (cond b (s ∷ []) [] ++ ss) x
  did_where true s p ss x h = (ap (λ l. s ∷ l) h.0, h.1)
  did_where false s p ss x h = h

  -- a lookup does nothing
  pub did_quiet : {A : Type 0} (p : Prog W F ⊥ A) (x : Result A F) → (exec B p).ending ≡ x → Did (quiet p) [] x
  did_quiet p x h = (
    ap (λ (r : Run W F S _). steps_of r.marks) (exec-quiet B p) ∙ quiet_steps (exec B p).marks,
    quiet_ends S B p ∙ h,
  )

  -- one that tries its wants, and then another by its value
  pub came_then : {A C : Type 0} (p : Trying W F S A) (k : A → Trying W F S C) (a : A) (ss ts : List S) (c : C) → Came p ss a → Came (k a) ts c
      → Came (try_then p k) (ss ++ ts) c
  came_then p k a ss ts c h g =
      let e = tried-then B p k ∙ after-ok (tried B p) a (λ y. tried B (k y)) h.1 in (
        ap (λ (r : Run W F S _). steps_of r.marks) e
            ∙ steps_of-append (tried B p).marks (tried B (k a)).marks
            ∙ ap (λ l. l ++ steps_of (tried B (k a)).marks) h.0
            ∙ ap (λ l. ss ++ l) g.0,
        ap (λ (r : Run W F S _). r.ending) e ∙ g.1,
      )

  -- one that tries its wants and hands on a value, and then another by that value
  pub came_value : {A C : Type 0} (p : Trying W F S (Result A F)) (k : A → Trying W F S (Result C F)) (a : A) (ss ts : List S) (x : Result C F)
      → Came p ss (Ok a) → Came (k a) ts x → Came (value_then p k) (ss ++ ts) x
  came_value p k a ss ts x h g = came_then p (on_value k) (Ok a) ss ts x h g

  -- a program as a part of one that tries its wants does its steps, and its ending is handed on
  pub came_attempt : {A : Type 0} (p : Prog W F S A) (ss : List S) (x : Result A F) → Did p ss x → Came (attempt p) ss x
  came_attempt p ss x h = (
    ap (λ (r : Run W F S _). steps_of r.marks) (tried-attempt B p) ∙ h.0,
    ap (λ (r : Run W F S _). r.ending) (tried-attempt B p) ∙ ap Ok h.1,
  )

  -- how a program ends, none of whose steps is done
  pub came_ending : {T A : Type 0} (p : Prog W F T A) (x : Result A F) → (exec B p).ending ≡ x → Came (ending_of p) [] x
  came_ending p x h =
      came_then (gathered p) (λ o. Done o.ending) (outcome_of (exec B p)) [] [] x (
        ap (λ (r : Run W F S _). steps_of r.marks) (tried-gathered B p)
            ∙ steps_of-marks S (wants_of (exec B p).marks),
        ap (λ (r : Run W F S _). r.ending) (tried-gathered B p),
      )
      (refl, ap Ok h)

module _ {S T St : Type 0} (B : Map) (treat : St → S → Program T St) where
  -- the others are treated, if the first came to a value
  abbrev more : Program S (Unit {0}) → Result St St → Program T St
  more p = go_on (λ st. each treat st p)

  -- a step is treated, and its value is the one to go on with
  abbrev one : St → S → Program T (Result St St)
  one st s = bind (treat st s) (λ st'. Return (Ok st'))

  -- one step is treated, and then the others
  pub did_first : (st after : St) (s : S) (p : Program S (Unit {0})) → (exec B (treat st s)).ending ≡ Ok after
      → Did B (each treat st (Emit s p)) (steps_of (exec B (treat st s)).marks ++ steps_of (exec B (each treat after p)).marks)
      (exec B (each treat after p)).ending
  did_first st after s p h =
      let first = did_then B (treat st s) (λ st'. Return (Ok st')) after (steps_of (exec B (treat st s)).marks) [] (Ok (Ok after)) (refl, h) (refl, refl) in
      did_then B (one st s) (more p) (Ok after) (steps_of (exec B (treat st s)).marks) (steps_of (exec B (each treat after p)).marks)
      (exec B (each treat after p)).ending
      (first.0 ∙ append-nil (steps_of (exec B (treat st s)).marks), first.1) (refl, refl)

  -- where all steps are treated to a value, so is the first
  pub first_value : (st last : St) (s : S) (p : Program S (Unit {0})) → (exec B (each treat st (Emit s p))).ending ≡ Ok last → (after : St)
      × ((exec B (treat st s)).ending ≡ Ok after)
  first_value st last s p h =
      let both = bind_value B (one st s) (more p) last h in
      let first = bind_value B (treat st s) (λ st'. Return (Ok st')) both.0 both.1 in
      (first.0, first.1)

  -- where the steps behind a want are treated to a value, the program behind it came to its end, if so for all bytes
  given_value : (x : Result (List ℕ) Fault) (k : List ℕ → Program S (Unit {0})) (st last : St)
      → ((bytes : List ℕ) → (exec B (each treat st (k bytes))).ending ≡ Ok last → (exec B (k bytes)).ending ≡ Ok tt)
      → (given x (λ bytes. exec B (each treat st (k bytes)))).ending ≡ Ok last → (given x (λ bytes. exec B (k bytes))).ending ≡ Ok tt
  given_value (Ok bytes) k st last ih h = ih bytes h
  given_value (Err f) k st last ih h = absurd (cc)

  -- where all are treated to a value, the program came to its end
  pub each_value : (p : Program S (Unit {0})) (st last : St) → (exec B (each treat st p)).ending ≡ Ok last → (exec B p).ending ≡ Ok tt
  each_value (Return u) st last h = refl
  each_value (Stop f) st last h = absurd (cc)
  each_value (Need w k) st last h = given_value (B w) k st last (λ bytes g. each_value (k bytes) st last g) h
  each_value (Emit s p) st last h =
      let after = first_value st last s p h in
      each_value p after.0 last (sym (did_first st after.0 s p after.1).1 ∙ h)

  -- what comes of it hangs on the steps and the ending alone
  pub each_same : (p q : Program S (Unit {0})) (st : St) → outcome_of (exec B p) ≡ outcome_of (exec B q) → outcome_of (exec B (each treat st p))
      ≡ outcome_of (exec B (each treat st q))
  each_same p q st same =
      outcome_of-thread B one (λ st u. st) st p
      ∙ (ap (λ (o : RunOutcome Fault S (Unit {0})). thread_outcome (λ st s. outcome_of (exec B (one st s))) (λ st u. st) st o.steps o.ending) same
      ∙ sym (outcome_of-thread B one (λ st u. st) st q))
