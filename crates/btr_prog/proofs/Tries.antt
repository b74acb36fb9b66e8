-- Programs that go on behind faults, and programs as parts of them.
use Rattle.std.proofs.Common.{◌≡◌, ℕ, List, [], ◌∷◌, ◌++◌, Option, None, IsOk, Result, Ok, Err, refl, sym, ap, ◌∙◌, subst, append-nil}
use Rattle.btr_prog.specs.Prog.{BlockMap, Prog, Return, Stop, Need, Emit, Mark, Wants, Does, Run, run, first, given, exec, after, and_then, steps_of, wants_of}
use Rattle.btr_prog.specs.Prog.{want_marks}
use Rattle.btr_prog.specs.Outcomes.{RunOutcome, outcome, outcome_of}
use Rattle.btr_prog.specs.Maps.{Each}
use Rattle.btr_prog.specs.Answers.{Halt, Fault, Unread, Broke, Breaks, Follows}
use Rattle.btr_prog.specs.Trying.{Trying, Done, Try, Act, tried, try_then, by_fate, attempt, gathered}
use Rattle.btr_prog.specs.TryingLaws.{attempted, gathered_by}
use Rattle.btr_prog.proofs.Runs.{wants_of-append}
use Rattle.btr_prog.proofs.Follow.{follows_behind}

-- some wants, and no step among them
pub wants_of-marks : {W : Type 0} (S : Type 0) (ws : List W) → wants_of {S = S} (want_marks ws) ≡ ws
wants_of-marks S [] = refl
wants_of-marks S (w ∷ ws) = ap (λ x. w ∷ x) (wants_of-marks S ws)

-- among some wants there are no steps
pub steps_of-marks : {W : Type 0} (S : Type 0) (ws : List W) → steps_of {S = S} (want_marks ws) ≡ []
steps_of-marks S [] = refl
steps_of-marks S (w ∷ ws) = steps_of-marks S ws

-- the marks of wants behind wants are those of the first and then of the others
pub want_marks-append : {W S : Type 0} (vs ws : List W) → want_marks {S = S} (vs ++ ws) ≡ want_marks vs ++ want_marks ws
want_marks-append [] ws = refl
want_marks-append (v ∷ vs) ws = ap (λ x. Wants v ∷ x) (want_marks-append vs ws)

module _ {W F S : Type 0} where
  -- a mark before a run and what follows it is one more mark of the run
  first_then : {A C : Type 0} (m : Mark W S) (ms : List (Mark W S)) (e : Result A F) (k : A → Run W F S C) → first m (after ms e k) ≡ after (m ∷ ms) e k
  first_then m ms (Ok a) k = refl
  first_then m ms (Err f) k = refl

  -- the run of one trying program after another is one run after another
  pub tried-then : {A C : Type 0} (B : BlockMap W F) (p : Trying W F S A) (k : A → Trying W F S C) → tried B (try_then p k)
      ≡ and_then (tried B p) (λ a. tried B (k a))
  tried-then B (Done a) k = refl
  tried-then B (Try w g) k =
      let r = tried B (g (B w)) in
      ap (first (Wants w)) (tried-then B (g (B w)) k) ∙ first_then (Wants w) r.marks r.ending (λ a. tried B (k a))
  tried-then B (Act s p) k =
      let r = tried B p in
      ap (first (Does s)) (tried-then B p k) ∙ first_then (Does s) r.marks r.ending (λ a. tried B (k a))

  -- no fault ends a run of a trying program
  pub tried_ends : {A : Type 0} (B : BlockMap W F) (p : Trying W F S A) → IsOk (tried B p).ending
  tried_ends B (Done a) = refl
  tried_ends B (Try w k) = tried_ends B (k (B w))
  tried_ends B (Act s p) = tried_ends B p

  -- a trying program's run hangs on the fates of its own wants alone
  pub only_tried : {A : Type 0} (B C : BlockMap W F) (p : Trying W F S A) → Each (λ w. B w ≡ C w) (wants_of (tried B p).marks) → tried B p ≡ tried C p
  only_tried B C (Done a) h = refl
  only_tried B C (Try w k) h = ap (first (Wants w)) (only_tried B C (k (B w)) h.1 ∙ ap (λ x. tried C (k x)) h.0)
  only_tried B C (Act s p) h = ap (first (Does s)) (only_tried B C p h)

  -- a run whose ending is handed on
  abbrev handed : {A : Type 0} → Run W F S A → Run W F S (Result A F)
  handed r = run r.marks (Ok r.ending)

  -- of one want: what follows it, attempted, has its own run and hands on its ending
  given_handed : {A : Type 0} (B : BlockMap W F) (x : Result (List ℕ) F) (k : List ℕ → Prog W F S A)
      → ((b : List ℕ) → tried B (attempt (k b)) ≡ handed (exec B (k b))) → tried B (by_fate x (λ b. attempt (k b)) (λ f. Err f))
      ≡ handed (given x (λ b. exec B (k b)))
  given_handed B (Ok b) k h = h b
  given_handed B (Err f) k h = refl

  -- an attempted program has its own run, and how that ends is the value
  pub tried-attempt : {A : Type 0} (B : BlockMap W F) (p : Prog W F S A) → tried B (attempt p) ≡ handed (exec B p)
  tried-attempt B (Return a) = refl
  tried-attempt B (Stop f) = refl
  tried-attempt B (Need w k) = ap (first (Wants w)) (given_handed B (B w) k (λ b. tried-attempt B (k b)))
  tried-attempt B (Emit s p) = ap (first (Does s)) (tried-attempt B p)

module _ {W F S T : Type 0} where
  -- a run without its steps, which are handed on with its ending
  abbrev collected : {A : Type 0} → Run W F T A → Run W F S (RunOutcome F T A)
  collected r = run (want_marks (wants_of r.marks)) (Ok (outcome_of r))

  -- of one want: what follows it, gathered, has its wants and hands on its steps
  given_collected : {A : Type 0} (B : BlockMap W F) (x : Result (List ℕ) F) (k : List ℕ → Prog W F T A)
      → ((b : List ℕ) → tried B (gathered (k b)) ≡ collected (exec B (k b))) → tried B (by_fate x (λ b. gathered (k b)) (λ f. outcome [] (Err f)))
      ≡ collected (given x (λ b. exec B (k b)))
  given_collected B (Ok b) k h = h b
  given_collected B (Err f) k h = refl

  -- of a program whose steps are gathered only the wants are there; its steps and ending are the value
  pub tried-gathered : {A : Type 0} (B : BlockMap W F) (p : Prog W F T A) → tried B (gathered p) ≡ collected (exec B p)
  tried-gathered B (Return a) = refl
  tried-gathered B (Stop f) = refl
  tried-gathered B (Need w k) = ap (first (Wants w)) (given_collected B (B w) k (λ b. tried-gathered B (k b)))
  tried-gathered B (Emit t p) =
      let r = exec B p in
      let more : RunOutcome F T _ → Trying W F S (RunOutcome F T _) = λ o. Done (outcome (t ∷ o.steps) o.ending) in
      tried-then B (gathered p) more
      ∙ ap (λ x. and_then x (λ o. tried B (more o))) (tried-gathered B p)
      ∙ ap (λ ms. run ms (Ok (outcome (t ∷ steps_of r.marks) r.ending))) (append-nil (want_marks (wants_of r.marks)))

module _ {W F S U : Type 0} (Is : U → W → Type 0) (part : S → ℕ → Option S) where
  -- a want that came to bytes or a fault, and what came then
  pub try_came : {A : Type 0} (seen : List W) (B : BlockMap W F) (w : W) (k : Result (List ℕ) F → Trying W F S A) (done : List S)
      (ans : Result A (Halt F U)) → Follows Is part (seen ++ (w ∷ [])) (tried B (k (B w))) done ans → Follows Is part seen (tried B (Try w k)) done ans
  try_came seen B w k done ans h = follows_behind Is part seen (Wants w ∷ []) (tried B (k (B w))) done ans h

  -- a place of a run is one of each run with these marks
  same_place : {A C : Type 0} (own : S → ℕ → Option S) (P : List W → Type 0) (ms : List (Mark W S)) (e : Result A F) (e' : Result C F) (done : List S)
      → Breaks own P (run ms e) done → Breaks own P (run ms e') done
  same_place own P ms e e' done b =
      record { before = b.before; behind = b.behind; left = b.left; place = b.place; steps = b.steps; leaves = b.leaves; holds = b.holds }

  -- what is answered of a run is answered of it with its ending handed on
  follows_handed : {A : Type 0} (seen : List W) (r : Run W F S A) (done : List S) (ans : Result A (Halt F U)) → Follows Is part seen r done ans
      → Follows Is part seen (handed r) done (attempted ans)
  follows_handed seen r done (Ok a) h = (h.0, ap Ok h.1)
  follows_handed seen r done (Err (Fault f)) h = (h.0, ap Ok h.1)
  follows_handed seen r done (Err (Unread u)) h = same_place _ _ r.marks r.ending (Ok r.ending) done h
  follows_handed seen r done (Err Broke) h = same_place _ _ r.marks r.ending (Ok r.ending) done h

  -- what is answered of a program is answered of attempting it
  pub follows_attempt : {A : Type 0} (seen : List W) (B : BlockMap W F) (p : Prog W F S A) (done : List S) (ans : Result A (Halt F U))
      → Follows Is part seen (exec B p) done ans → Follows Is part seen (tried B (attempt p)) done (attempted ans)
  follows_attempt seen B p done ans h = subst (λ r. Follows Is part seen r done (attempted ans)) (sym (tried-attempt B p))
      (follows_handed seen (exec B p) done ans h)

  module _ {T : Type 0} (own : T → ℕ → Option T) where
    -- a place of a run is one of its wants
    no_steps_before : {A : Type 0} (there : T → ℕ → Option T) (here : S → ℕ → Option S) (P : List W → Type 0) (r : Run W F T A) (done : List T)
        → Breaks there P r done → Breaks here P (collected {S = S} r) []
    no_steps_before there here P r done b = record {
      before = want_marks (wants_of b.before);
      behind = want_marks (wants_of b.behind);
      left = None;
      place = ap (λ ms. want_marks (wants_of ms)) b.place ∙ ap want_marks (wants_of-append b.before b.behind)
          ∙ want_marks-append (wants_of b.before) (wants_of b.behind);
      steps = sym (append-nil (steps_of (want_marks {S = S} (wants_of b.before))) ∙ steps_of-marks S (wants_of b.before));
      leaves = tt;
      holds = subst P (sym (wants_of-marks S (wants_of b.before))) b.holds;
    }

    -- what is answered of a run is answered of its wants, with its steps handed on
    follows_collected : {A : Type 0} (seen : List W) (r : Run W F T A) (done : List T) (ans : Result A (Halt F U)) → Follows Is own seen r done ans
        → Follows Is part seen (collected r) [] (gathered_by done ans)
    follows_collected seen r done (Ok a) h = (
      sym (steps_of-marks S (wants_of r.marks)),
      ap (λ e. Ok (outcome (steps_of r.marks) e)) h.1
          ∙ ap (λ x. Ok (outcome x (Ok a))) (sym h.0),
    )
    follows_collected seen r done (Err (Fault f)) h = (
      sym (steps_of-marks S (wants_of r.marks)),
      ap (λ e. Ok (outcome (steps_of r.marks) e)) h.1
          ∙ ap (λ x. Ok (outcome x (Err f))) (sym h.0),
    )
    follows_collected seen r done (Err (Unread u)) h = no_steps_before _ _ _ r done h
    follows_collected seen r done (Err Broke) h = no_steps_before own part _ r done h

    -- what is answered of a program is answered of it where its steps are gathered and none is done
    pub follows_gathered : {A : Type 0} (seen : List W) (B : BlockMap W F) (p : Prog W F T A) (done : List T) (ans : Result A (Halt F U))
        → Follows Is own seen (exec B p) done ans → Follows Is part seen (tried B (gathered p)) [] (gathered_by done ans)
    follows_gathered seen B p done ans h = subst (λ r. Follows Is part seen r [] (gathered_by done ans)) (sym (tried-gathered B p))
        (follows_collected seen (exec B p) done ans h)
