-- Two maps one after another.
use Rattle.std.proofs.Common.{◌≡◌, ◌⊎◌, ℕ, List, [], ◌∷◌, ◌++◌, Option, Result, Ok, Err, refl, sym, ap, ◌∙◌, subst, append-nil}
use Rattle.btr_prog.specs.Prog.{BlockMap, Prog, Mark, Run, run, exec, and_then, wants_of, needs}
use Rattle.btr_prog.specs.Maps.{Each, IsWithin, cut, Loses}
use Rattle.btr_prog.specs.Answers.{Halt, Follows}
use Rattle.btr_prog.specs.Goes.{Goes}
use Rattle.btr_prog.specs.Stages.{Staged, Early, Late, both, renamed, renamed_marks, renamed_run, unless_refused, run_unless_refused, staged, staged_run}
use Rattle.btr_prog.specs.Stages.{staged_needs, IsWithinBoth}
use Rattle.btr_prog.proofs.Runs.{exec-bind, wants_of-append, cut_law}
use Rattle.btr_prog.proofs.Threads.{after_same}
use Rattle.btr_prog.proofs.Lost.{lost_law}
use Rattle.btr_prog.proofs.Follow.{follows_then, follows_halt, follows_alone}
use Rattle.btr_prog.proofs.Choices.{goes_then, goes_halt}
use Rattle.btr_prog.proofs.Renaming.{each_renamed, each_original, wants_of-renamed, exec-renamed, follows_renamed, goes_renamed}

module _ {W : Type 0} (P : W → Type 0) where
  -- what holds of each of two lists holds of both together
  pub each_append : (vs ws : List W) → Each P vs → Each P ws → Each P (vs ++ ws)
  each_append [] ws h g = g
  each_append (v ∷ vs) ws h g = (h.0, each_append vs ws h.1 g)

  -- what holds of each holds of the first ones, of the last ones, and of one that stands among them
  pub each_first : (vs ws : List W) → Each P (vs ++ ws) → Each P vs
  each_first [] ws h = tt
  each_first (v ∷ vs) ws h = (h.0, each_first vs ws h.1)

  -- what holds of each of both lists holds of the last ones
  pub each_last : (vs ws : List W) → Each P (vs ++ ws) → Each P ws
  each_last [] ws h = h
  each_last (v ∷ vs) ws h = each_last vs ws h.1

  -- what holds of each holds of one that stands among them
  pub each_there : (vs ws : List W) (w : W) → Each P (vs ++ (w ∷ ws)) → P w
  each_there [] ws w h = h.0
  each_there (v ∷ vs) ws w h = each_there vs ws w h.1

module _ {T X W F S A : Type 0} (refused : X → A) where
  -- the run of the rest, or the refusal
  exec-rest : (B : BlockMap W F) (D : T → BlockMap W F) (k : T → Prog W F S A) (x : Result T X)
      → exec (both B D) (unless_refused refused (λ t. renamed (Late t) (k t)) x) ≡ run_unless_refused refused (λ t. renamed_run (Late t) (exec (D t) (k t))) x
  exec-rest B D k (Ok t) = exec-renamed (Late t) (both B D) (k t)
  exec-rest B D k (Err x) = refl

  -- the run of both parts is the run of the first, and then that of the rest under its table's map
  pub exec-staged : (B : BlockMap W F) (D : T → BlockMap W F) (p : Prog W F S (Result T X)) (k : T → Prog W F S A)
      → exec (both B D) (staged refused p k) ≡ staged_run refused (exec B p) (λ t. exec (D t) (k t))
  exec-staged B D p k =
      let r = exec B p in
      let rest : Result T X → Prog (Staged T W) F S A = unless_refused refused (λ t. renamed (Late t) (k t)) in
      let runs : Result T X → Run (Staged T W) F S A = run_unless_refused refused (λ t. renamed_run (Late t) (exec (D t) (k t))) in
      exec-bind (both B D) (renamed Early p) rest
      ∙ (ap (λ (x : Run (Staged T W) F S (Result T X)). and_then x (λ y. exec (both B D) (rest y))) (exec-renamed Early (both B D) p)
      ∙ after_same (renamed_marks Early r.marks) r.ending (λ y. exec (both B D) (rest y)) runs (exec-rest B D k))

  -- the wants of a run of both parts are those of the first, and those of the rest under its table
  wants_of-staged : (ms : List (Mark W S)) (e : Result (Result T X) F) (k : T → Run W F S A) → wants_of (staged_run refused (run ms e) k).marks
      ≡ staged_needs (wants_of ms) e (λ t. wants_of (k t).marks)
  wants_of-staged ms (Ok (Ok t)) k =
      wants_of-append (renamed_marks Early ms) (renamed_marks (Late t) (k t).marks)
      ∙ (λ i. wants_of-renamed Early ms i ++ wants_of-renamed (Late t) (k t).marks i)
  wants_of-staged ms (Ok (Err x)) k = ap wants_of (append-nil (renamed_marks Early ms)) ∙ wants_of-renamed Early ms
  wants_of-staged ms (Err f) k = wants_of-renamed Early ms

  -- the wants of both parts
  pub needs-staged : (B : BlockMap W F) (D : T → BlockMap W F) (p : Prog W F S (Result T X)) (k : T → Prog W F S A)
      → needs (both B D) (staged refused p k) ≡ staged_needs (needs B p) (exec B p).ending (λ t. needs (D t) (k t))
  needs-staged B D p k = ap (λ (r : Run (Staged T W) F S A). wants_of r.marks) (exec-staged B D p k)
      ∙ wants_of-staged (exec B p).marks (exec B p).ending (λ t. exec (D t) (k t))

  module _ (P : Staged T W → Type 0) (B : BlockMap W F) (D : T → BlockMap W F) (p : Prog W F S (Result T X)) (k : T → Prog W F S A) where
    -- the run of both parts where the first has these marks and this ending
    abbrev Runs : List (Mark W S) → Result (Result T X) F → Run (Staged T W) F S A
    Runs ms e = staged_run refused (run ms e) (λ t. exec (D t) (k t))

    -- it holds of each want of the rest under a table
    abbrev Rest : T → Type 0
    Rest t = Each (λ w. P (Late t w)) (needs (D t) (k t))

    -- what holds of all wants holds of those of a first part with these marks
    early_after : (ms : List (Mark W S)) (e : Result (Result T X) F) → Each P (wants_of (Runs ms e).marks) → Each (λ w. P (Early w)) (wants_of ms)
    early_after ms (Ok (Ok t)) h =
        let ns = renamed_marks (Late t) (exec (D t) (k t)).marks in
        each_original Early P ms (each_first P (wants_of (renamed_marks Early ms)) (wants_of ns)
        (subst (Each P) (wants_of-append (renamed_marks Early ms) ns) h))
    early_after ms (Ok (Err x)) h = each_original Early P ms (subst (λ ns. Each P (wants_of ns)) (append-nil (renamed_marks Early ms)) h)
    early_after ms (Err f) h = each_original Early P ms h

    -- what holds of all wants holds of those of the rest, where the first part gave its table
    late_after : (ms : List (Mark W S)) (t : T) → Each P (wants_of (Runs ms (Ok (Ok t))).marks) → Rest t
    late_after ms t h =
        let ns = renamed_marks (Late t) (exec (D t) (k t)).marks in
        each_original (Late t) P (exec (D t) (k t)).marks (each_last P (wants_of (renamed_marks Early ms)) (wants_of ns)
        (subst (Each P) (wants_of-append (renamed_marks Early ms) ns) h))

    -- what holds of the first part's wants and of the rest's holds of all
    both_after : (ms : List (Mark W S)) (e : Result (Result T X) F) → Each (λ w. P (Early w)) (wants_of ms) → ((t : T) → e ≡ Ok (Ok t) → Rest t)
        → Each P (wants_of (Runs ms e).marks)
    both_after ms (Ok (Ok t)) h g =
        let ns = renamed_marks (Late t) (exec (D t) (k t)).marks in
        subst (Each P) (sym (wants_of-append (renamed_marks Early ms) ns))
        (each_append P (wants_of (renamed_marks Early ms)) (wants_of ns) (each_renamed Early P ms h)
        (each_renamed (Late t) P (exec (D t) (k t)).marks (g t refl)))
    both_after ms (Ok (Err x)) h g = subst (λ ns. Each P (wants_of ns)) (sym (append-nil (renamed_marks Early ms))) (each_renamed Early P ms h)
    both_after ms (Err f) h g = each_renamed Early P ms h

    -- it holds of each want of a run of both parts
    abbrev OfBoth : Run (Staged T W) F S A → Type 0
    OfBoth r = Each P (wants_of r.marks)

    -- what holds of each want of both parts holds of the first part's
    pub early_wants : Each P (needs (both B D) (staged refused p k)) → Each (λ w. P (Early w)) (needs B p)
    early_wants h = early_after (exec B p).marks (exec B p).ending (subst OfBoth (exec-staged B D p k) h)

    -- what holds of each want of both parts holds of the rest's under the table that was given
    pub late_wants : (t : T) → (exec B p).ending ≡ Ok (Ok t) → Each P (needs (both B D) (staged refused p k)) → Rest t
    late_wants t is h = late_after (exec B p).marks t (subst (λ e. OfBoth (Runs (exec B p).marks e)) is (subst OfBoth (exec-staged B D p k) h))

    -- what holds of each want of the first part, and of the rest, holds of both parts
    pub both_wants : Each (λ w. P (Early w)) (needs B p) → ((t : T) → (exec B p).ending ≡ Ok (Ok t) → Rest t) → Each P (needs (both B D) (staged refused p k))
    both_wants h g = subst OfBoth (sym (exec-staged B D p k)) (both_after (exec B p).marks (exec B p).ending h g)

  module _ (B C : BlockMap W F) (D E : T → BlockMap W F) (p : Prog W F S (Result T X)) (k : T → Prog W F S A) where
    -- where B and D have of C's and E's bytes or none, so has the map of both parts
    pub within_staged : IsWithinBoth B C D E p k → Each (λ w. IsWithin (both B D w) (both C E w)) (needs (both C E) (staged refused p k))
    within_staged h = both_wants (λ w. IsWithin (both B D w) (both C E w)) C E p k h.0 h.1

    -- under maps that lack blocks the run of both parts is cut at the first want that is lacked
    pub staged_cut : IsWithinBoth B C D E p k → exec (both B D) (staged refused p k) ≡ cut (both B D) (exec (both C E) (staged refused p k))
    staged_cut h = cut_law (both B D) (both C E) (staged refused p k) (within_staged h)

    -- under maps that lack blocks the run of both parts is the same, or stops at the first want that is lacked
    pub staged_lost : IsWithinBoth B C D E p k → (exec (both B D) (staged refused p k) ≡ exec (both C E) (staged refused p k))
        ⊎ Loses (both B D) (exec (both C E) (staged refused p k)) (exec (both B D) (staged refused p k))
    staged_lost h = lost_law (both B D) (both C E) (staged refused p k) (within_staged h)

module _ {T X W F S A U : Type 0} (refused : X → A) (Is : U → Staged T W → Type 0) (part : S → ℕ → Option S) where
  module _ (B : BlockMap W F) (D : T → BlockMap W F) (p : Prog W F S (Result T X)) (k : T → Prog W F S A) where
    -- the run of the first part, its wants as early ones
    early : Run (Staged T W) F S (Result T X)
    early = renamed_run Early (exec B p)

    -- the run of the rest by the table, or the refusal
    rest : Result T X → Run (Staged T W) F S A
    rest = run_unless_refused refused (λ t. renamed_run (Late t) (exec (D t) (k t)))

    -- what is answered of the runs of both parts is answered of the whole
    whole : (done : List S) (ans : Result A (Halt F U)) → Follows Is part [] (staged_run refused (exec B p) (λ t. exec (D t) (k t))) done ans
        → Follows Is part [] (exec (both B D) (staged refused p k)) done ans
    whole done ans h = subst (λ (r : Run (Staged T W) F S A). Follows Is part [] r done ans) (sym (exec-staged refused B D p k)) h

    -- a call that ran the first part to a table, and then one that ran the rest under it
    pub staged_then : (t : T) (done more : List S) (ans : Result A (Halt F U)) → Follows (λ u w. Is u (Early w)) part [] (exec B p) done (Ok (Ok t))
        → Follows (λ u w. Is u (Late t w)) part [] (exec (D t) (k t)) more ans → Follows Is part [] (exec (both B D) (staged refused p k)) (done ++ more) ans
    unfolding early rest
    staged_then t done more ans h g = whole (done ++ more) ans
        (follows_then Is part [] early (Ok t) rest done more ans (follows_renamed Early Is part (exec B p) done (Ok (Ok t)) h)
        (follows_alone Is part (wants_of early.marks) (rest (Ok t)) more ans (follows_renamed (Late t) Is part (exec (D t) (k t)) more ans g)))

    -- a call that ran the first part to a refusal answers with it
    pub staged_refused : (x : X) (done : List S) → Follows (λ u w. Is u (Early w)) part [] (exec B p) done (Ok (Err x))
        → Follows Is part [] (exec (both B D) (staged refused p k)) done (Ok (refused x))
    unfolding early rest
    staged_refused x done h = whole done (Ok (refused x))
        (subst (λ (ss : List S). Follows Is part [] (and_then early rest) ss (Ok (refused x))) (append-nil done)
        (follows_then Is part [] early (Err x) rest done [] (Ok (refused x)) (follows_renamed Early Is part (exec B p) done (Ok (Err x)) h) (refl, refl)))

    -- a call that ran the first part to no value answers for the whole
    pub staged_halt : (done : List S) (h : Halt F U) → Follows (λ u w. Is u (Early w)) part [] (exec B p) done (Err h)
        → Follows Is part [] (exec (both B D) (staged refused p k)) done (Err h)
    unfolding early rest
    staged_halt done h g = whole done (Err h) (follows_halt Is part [] early rest done h (follows_renamed Early Is part (exec B p) done (Err h) g))

  module _ {I : Type 0} (Bs : I → BlockMap W F) (Ds : I → T → BlockMap W F) (p : Prog W F S (Result T X)) (k : T → Prog W F S A) where
    -- the map of both parts by one of several
    abbrev maps : I → BlockMap (Staged T W) F
    maps i = both (Bs i) (Ds i)

    -- the rest under a table, or the refusal as the value
    abbrev after_early : Result T X → Prog (Staged T W) F S A
    after_early = unless_refused refused (λ t. renamed (Late t) (k t))

    -- by some run of each part: a call of the first to a table, and then one of the rest under it
    pub goes_staged : (t : T) (done more : List S) (ans : Result A (Halt F U)) → Goes (λ u w. Is u (Early w)) part [] Bs p done (Ok (Ok t))
        → Goes (λ u w. Is u (Late t w)) part [] (λ i. Ds i t) (k t) more ans → Goes Is part [] maps (staged refused p k) (done ++ more) ans
    goes_staged t done more ans h g =
        goes_then maps Is part [] (renamed Early p) after_early (renamed_run Early h.0) (Ok t) done more ans
        (goes_renamed Early maps p h.0 h.1) (follows_renamed Early Is part h.0 done (Ok (Ok t)) h.2) (
          renamed_run (Late t) g.0,
          goes_renamed (Late t) maps (k t) g.0 g.1,
          follows_alone Is part (wants_of (renamed_marks Early h.0.marks)) (renamed_run (Late t) g.0) more ans
              (follows_renamed (Late t) Is part g.0 more ans g.2),
        )

    -- by some run: a call of the first part to a refusal answers with it
    pub goes_staged_refused : (x : X) (done : List S) → Goes (λ u w. Is u (Early w)) part [] Bs p done (Ok (Err x))
        → Goes Is part [] maps (staged refused p k) done (Ok (refused x))
    goes_staged_refused x done h = subst (λ (ss : List S). Goes Is part [] maps (staged refused p k) ss (Ok (refused x))) (append-nil done)
        (goes_then maps Is part [] (renamed Early p) after_early (renamed_run Early h.0) (Err x) done [] (Ok (refused x))
        (goes_renamed Early maps p h.0 h.1) (follows_renamed Early Is part h.0 done (Ok (Err x)) h.2) (run [] (Ok (refused x)), refl, (refl, refl)))

    -- by some run: a call of the first part that halted halts the whole
    pub goes_staged_halt : (i : I) (done : List S) (h : Halt F U) → Goes (λ u w. Is u (Early w)) part [] Bs p done (Err h)
        → Goes Is part [] maps (staged refused p k) done (Err h)
    goes_staged_halt i done h g =
        goes_halt maps Is part [] (renamed Early p) after_early i done h
        (renamed_run Early g.0, goes_renamed Early maps p g.0 g.1, follows_renamed Early Is part g.0 done (Err h) g.2)
