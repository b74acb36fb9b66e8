-- What programs that go on behind faults come to.
use Rattle.std.proofs.Common.{◌≡◌, ℕ, List, [], ◌∷◌, ◌++◌, Option, None, Result, Ok, Err, refl, sym, ap, ◌∙◌, subst, append-nil}
use Rattle.btr_prog.specs.Prog.{BlockMap, Prog, Return, Stop, Need, Emit, Mark, Wants, Does, Run, run, prepend, after, and_then, steps_of, wants_of}
use Rattle.btr_prog.specs.Prog.{want_marks}
use Rattle.btr_prog.specs.Answers.{Halt, Fault, Unread, Broke, Breaks, Follows, Names, no_part}
use Rattle.btr_prog.specs.Goes.{goes_given, AfterTo, GoesTo, GoOnTo, ThreadsTo}
use Rattle.btr_prog.specs.Outcomes.{RunOutcome, outcome, outcome_of}
use Rattle.btr_prog.specs.Trying.{Trying, Done, Try, Act, tried, try_then, by_fate, attempt, gathered}
use Rattle.btr_prog.proofs.Runs.{wants_of-append}
use Rattle.btr_prog.proofs.Tries.{steps_of-marks, wants_of-marks, want_marks-append}
use Rattle.btr_prog.specs.Attempts.{ComesTo, TriesTo, came_of, on_value, tried_run, value_then, ending_of, treat_each}

module _ {W F S I : Type 0} (Bs : I → BlockMap W F) where
  -- one after another
  pub comes_then : {A C : Type 0} (p : Trying W F S A) (k : A → Trying W F S C) (ms ns : List (Mark W S)) (a : A) (c : C) → ComesTo Bs p ms a
      → ComesTo Bs (k a) ns c → ComesTo Bs (try_then p k) (ms ++ ns) c
  comes_then (Done x) k ms ns a c h g =
      subst (λ l. ComesTo Bs (k x) (l ++ ns) c) (sym h.0) (subst (λ y. ComesTo Bs (k y) ns c) h.1 g)
  comes_then (Try w f) k ms ns a c h g =
      (h.0, h.1 ++ ns, ap (λ l. l ++ ns) h.2, comes_then (f (Bs h.0 w)) k h.1 ns a c h.3 g)
  comes_then (Act s p) k ms ns a c h g = (h.0 ++ ns, ap (λ l. l ++ ns) h.1, comes_then p k h.0 ns a c h.2 g)

  -- each has some run: that under one of the maps
  pub comes_some : {X : Type 0} (i : I) (p : Trying W F S X) → (ms : List (Mark W S)) × (x : X) × ComesTo Bs p ms x
  comes_some i (Done a) = ([], a, (refl, refl))
  comes_some i (Try w k) =
      let r = comes_some i (k (Bs i w)) in
      (Wants w ∷ r.0, r.1, (i, r.0, refl, r.2))
  comes_some i (Act s p) =
      let r = comes_some i p in
      (Does s ∷ r.0, r.1, (r.0, refl, r.2))

  -- a program as a part has the runs that it has alone
  by_fate_goes : {A : Type 0} (x : Result (List ℕ) F) (k : List ℕ → Prog W F S A) (q : Run W F S A)
      → ((bytes : List ℕ) → GoesTo Bs (k bytes) q → TriesTo Bs (attempt (k bytes)) q) → goes_given x (λ bytes. GoesTo Bs (k bytes)) q
      → ComesTo Bs (by_fate x (λ bytes. attempt (k bytes)) (λ f. Err f)) q.marks q.ending
  by_fate_goes (Ok bytes) k q ih g = ih bytes g
  by_fate_goes (Err f) k q ih g = (ap (λ r. r.marks) g, ap (λ r. r.ending) g)

  -- a run of a program is one of attempting it
  pub tries_attempt : {A : Type 0} (p : Prog W F S A) (r : Run W F S A) → GoesTo Bs p r → TriesTo Bs (attempt p) r
  tries_attempt (Return a) r g = (ap (λ q. q.marks) g, ap (λ q. q.ending) g)
  tries_attempt (Stop f) r g = (ap (λ q. q.marks) g, ap (λ q. q.ending) g)
  tries_attempt (Need w k) r g =
      let q = g.1 in
      let inner = by_fate_goes (Bs g.0 w) k q (λ bytes h. tries_attempt (k bytes) q h) g.3 in (
        g.0,
        q.marks,
        ap (λ (x : Run W F S _). x.marks) g.2,
        subst (λ e. ComesTo Bs (by_fate (Bs g.0 w) (λ bytes. attempt (k bytes)) (λ f. Err f)) q.marks e)
            (sym (ap (λ (x : Run W F S _). x.ending) g.2)) inner,
      )
  tries_attempt (Emit s p) r g =
      let inner = tries_attempt p g.0 g.2 in
      (g.0.marks, ap (λ (x : Run W F S _). x.marks) g.1, subst (λ e. ComesTo Bs (attempt p) g.0.marks e) (sym (ap (λ (x : Run W F S _). x.ending) g.1)) inner)

  -- one, and then another by how it ended
  pub tries_then : {A C : Type 0} (p : Trying W F S (Result A F)) (h : Result A F → Trying W F S (Result C F)) (q : Run W F S A) (r : Run W F S C)
      → TriesTo Bs p q → TriesTo Bs (h q.ending) r → TriesTo Bs (try_then p h) (prepend q.marks r)
  tries_then p h q r one two = comes_then p h q.marks r.marks q.ending r.ending one two

  -- one, and then another by its value
  pub tries_value : {A C : Type 0} (p : Trying W F S (Result A F)) (k : A → Trying W F S (Result C F)) (q : Run W F S A) (r : Run W F S C) → TriesTo Bs p q
      → AfterTo q.marks q.ending (λ a. TriesTo Bs (k a)) r → TriesTo Bs (value_then p k) r
  tries_value p k q r one two = by_ending q.ending refl
    where
      -- one and then another by its value, for each way the first may end
      by_ending : (x : Result _ F) → q.ending ≡ x → TriesTo Bs (value_then p k) r
      by_ending (Ok a) e =
          let t = subst (λ y. AfterTo q.marks y (λ b. TriesTo Bs (k b)) r) e two in
          subst (TriesTo Bs (value_then p k)) (sym t.1)
          (comes_then p (on_value k) q.marks t.0.marks (Ok a) t.0.ending (subst (λ y. ComesTo Bs p q.marks y) e one) t.2)
      by_ending (Err f) e =
          let t = subst (λ y. AfterTo q.marks y (λ b. TriesTo Bs (k b)) r) e two in
          subst (TriesTo Bs (value_then p k)) (sym t)
          (subst (λ l. ComesTo Bs (value_then p k) l (Err f)) (append-nil q.marks)
          (comes_then p (on_value k) q.marks [] (Err f) (Err f) (subst (λ y. ComesTo Bs p q.marks y) e one) (refl, refl)))

-- a program whose steps are gathered has their wants, whatever the steps of the whole are
module _ {W F T I : Type 0} (S : Type 0) (Bs : I → BlockMap W F) where
  -- the marks of a run's wants, without its steps
  abbrev wants_in : {A : Type 0} → Run W F T A → List (Mark W S)
  wants_in r = want_marks (wants_of r.marks)

  -- of one want: a run of what follows it comes, gathered, to its wants, and its steps and ending are the value
  given_goes : {A : Type 0} (x : Result (List ℕ) F) (k : List ℕ → Prog W F T A) (q : Run W F T A)
      → ((bytes : List ℕ) → GoesTo Bs (k bytes) q → ComesTo Bs (gathered (k bytes)) (wants_in q) (outcome_of q))
      → goes_given x (λ bytes. GoesTo Bs (k bytes)) q → ComesTo Bs (by_fate x (λ bytes. gathered (k bytes)) (λ f. outcome [] (Err f))) (wants_in q)
      (outcome_of q)
  given_goes (Ok bytes) k q ih g = ih bytes g
  given_goes (Err f) k q ih g = (ap wants_in g, ap outcome_of g)

  -- a program whose steps are gathered comes to a run's wants, with its steps and ending as the value
  pub comes_gathered : {A : Type 0} (p : Prog W F T A) (r : Run W F T A) → GoesTo Bs p r → ComesTo Bs (gathered p) (wants_in r) (outcome_of r)
  comes_gathered (Return a) r g = (ap wants_in g, ap outcome_of g)
  comes_gathered (Stop f) r g = (ap wants_in g, ap outcome_of g)
  comes_gathered (Need w k) r g =
      let q = g.1 in
      let inner = given_goes (Bs g.0 w) k q (λ bytes h. comes_gathered (k bytes) q h) g.3 in (
        g.0,
        wants_in q,
        ap wants_in g.2,
        subst (λ o. ComesTo Bs (by_fate (Bs g.0 w) (λ bytes. gathered (k bytes)) (λ f. outcome [] (Err f))) (wants_in q) o)
            (sym (ap outcome_of g.2)) inner,
      )
  comes_gathered (Emit t p) r g =
      let q = g.0 in
      let more : RunOutcome F T _ → Trying W F S (RunOutcome F T _) = λ o. Done (outcome (t ∷ o.steps) o.ending) in
      let both = comes_then Bs (gathered p) more (wants_in q) [] (outcome_of q) (outcome (t ∷ steps_of q.marks) q.ending) (comes_gathered p q g.2)
      (refl, refl) in
      subst (λ x. ComesTo Bs (try_then (gathered p) more) (wants_in x) (outcome_of x)) (sym g.1)
      (subst (λ l. ComesTo Bs (try_then (gathered p) more) l (outcome (t ∷ steps_of q.marks) q.ending)) (append-nil (wants_in q)) both)

  -- how a program ends, of which no step is done
  pub tries_ending : {A : Type 0} (p : Prog W F T A) (r : Run W F T A) → GoesTo Bs p r → TriesTo Bs (ending_of p) (run (wants_in r) r.ending)
  tries_ending p r g =
      subst (λ l. ComesTo Bs (ending_of p) l r.ending) (append-nil (wants_in r))
      (comes_then Bs (gathered p) (λ o. Done o.ending) (wants_in r) [] (outcome_of r) r.ending (comes_gathered p r g) (refl, refl))

-- each step of a program is treated by some run, and the next is to come
module _ {W F S T St I : Type 0} (Bs : I → BlockMap W F) (treat : St → T → Trying W F S (Result St F)) where
  -- the runs that treat one step
  abbrev pub Treating : St → T → Run W F S (Result St St) → Type 0
  Treating st t b = (q : Run W F S St) × TriesTo Bs (treat st t) q × (b ≡ and_then q (λ after. run [] (Ok (Ok after))))

  -- the result of treating a program that has no value of its own is the last state
  abbrev pub last_state : St → Unit {0} → St
  last_state st u = st

  -- the run treats the steps among these marks one after another
  abbrev Threads : St → List (Mark W T) → Run W F S St → Type 0
  Threads st ms r = ThreadsTo Treating last_state st ms (Ok tt) r

  -- some marks, and the state they end with as what the next step goes on from
  abbrev as_state : List (Mark W S) → Result St F → Run W F S (Result St St)
  as_state ms x = after ms x (λ a. run [] (Ok (Ok a)))

  -- on by how the step was treated
  after_step : (st : St) (t : T) (p : Trying W F T (Unit {0})) (q : Run W F S St) (ms : List (Mark W T)) (r : Run W F S St) (x : Result St F) → q.ending ≡ x
      → TriesTo Bs (treat st t) q
      → AfterTo (as_state q.marks x).marks (as_state q.marks x).ending (GoOnTo (λ st'. Threads st' ms)) r
      → ((st' : St) (r' : Run W F S St) → Threads st' ms r' → TriesTo Bs (treat_each treat st' p) r') → TriesTo Bs (treat_each treat st (Act t p)) r
  after_step st t p q ms r (Ok st') e one two ih =
      let behind = ih st' two.0 two.2 in
      subst (TriesTo Bs (treat_each treat st (Act t p))) (ap (λ l. prepend l two.0) (sym (append-nil q.marks)) ∙ sym two.1)
      (comes_then Bs (treat st t) (on_value (λ after. treat_each treat after p)) q.marks two.0.marks (Ok st') two.0.ending
      (subst (λ y. ComesTo Bs (treat st t) q.marks y) e one) behind)
  after_step st t p q ms r (Err f) e one two ih =
      subst (TriesTo Bs (treat_each treat st (Act t p))) (sym two)
      (subst (λ l. ComesTo Bs (treat_each treat st (Act t p)) l (Err f)) (append-nil q.marks)
      (comes_then Bs (treat st t) (on_value (λ after. treat_each treat after p)) q.marks [] (Err f) (Err f)
      (subst (λ y. ComesTo Bs (treat st t) q.marks y) e one) (refl, refl)))

  -- treating the steps of a program's marks one after another is a run of the whole
  pub tries_each : (st : St) (p : Trying W F T (Unit {0})) (ms : List (Mark W T)) (r : Run W F S St) → ComesTo Bs p ms tt → Threads st ms r
      → TriesTo Bs (treat_each treat st p) r
  tries_each st (Done u) ms r h g =
      let e = subst (λ l. Threads st l r) h.0 g in
      (ap (λ (x : Run W F S St). x.marks) e, ap (λ (x : Run W F S St). x.ending) e)
  tries_each st (Try w k) ms r h g =
      let t = subst (λ l. Threads st l r) h.2 g in (
        h.0,
        t.0.marks,
        ap (λ (x : Run W F S St). x.marks) t.1,
        subst (λ e. ComesTo Bs (treat_each treat st (k (Bs h.0 w))) t.0.marks e)
            (sym (ap (λ (x : Run W F S St). x.ending) t.1)) (tries_each st (k (Bs h.0 w)) h.1 t.0 h.3 t.2),
      )
  tries_each st (Act t p) ms r h g =
      let d = subst (λ l. Threads st l r) h.1 g in
      let q = d.1.0 in
      let two = subst (λ (b : Run W F S (Result St St)). AfterTo b.marks b.ending (GoOnTo (λ st'. Threads st' h.0)) r) d.1.2 d.2 in
      after_step st t p q h.0 r q.ending refl d.1.1 two (λ st' r' th. tries_each st' p h.0 r' h.2 th)

-- the run of a program under one of the maps
module _ {W F T I : Type 0} (Bs : I → BlockMap W F) where
  -- where one of the maps says what B says, the program's run under B is one by the maps
  pub comes_tried : (i : I) (B : BlockMap W F) (p : Trying W F T (Unit {0})) → ((w : W) → Bs i w ≡ B w) → ComesTo Bs p (tried B p).marks tt
  comes_tried i B (Done u) same = (refl, refl)
  comes_tried i B (Try w k) same =
      (i, (tried B (k (B w))).marks, refl, subst (λ x. ComesTo Bs (k x) (tried B (k (B w))).marks tt) (sym (same w)) (comes_tried i B (k (B w)) same))
  comes_tried i B (Act t p) same = ((tried B p).marks, refl, comes_tried i B p same)

  -- a program without a value of its own ends its run with none
  pub tried_ends : (B : BlockMap W F) (p : Trying W F T (Unit {0})) → (tried B p).ending ≡ Ok tt
  tried_ends B (Done u) = refl
  tried_ends B (Try w k) = tried_ends B (k (B w))
  tried_ends B (Act t p) = tried_ends B p

-- a run of which no step is done: what is answered of it
module _ {W F S T U A : Type 0} (Is : U → W → Type 0) (part : S → ℕ → Option S) (own : T → ℕ → Option T) where
  -- a run without its steps
  abbrev only_wants : Run W F T A → Run W F S A
  only_wants r = run (want_marks (wants_of r.marks)) r.ending

  -- a run broken off is, without its steps, broken off at the same want
  no_steps_in : (there : T → ℕ → Option T) (here : S → ℕ → Option S) (P : List W → Type 0) (r : Run W F T A) (done : List T) → Breaks there P r done
      → Breaks here P (only_wants r) []
  no_steps_in there here P r done b = record {
    before = want_marks (wants_of b.before);
    behind = want_marks (wants_of b.behind);
    left = None;
    place = ap (λ ms. want_marks (wants_of ms)) b.place ∙ ap want_marks (wants_of-append b.before b.behind)
        ∙ want_marks-append (wants_of b.before) (wants_of b.behind);
    steps = sym (append-nil (steps_of (want_marks {S = S} (wants_of b.before))) ∙ steps_of-marks S (wants_of b.before));
    leaves = tt;
    holds = subst P (sym (wants_of-marks S (wants_of b.before))) b.holds;
  }

  -- what is answered of a run is answered of its wants alone, with no step done
  pub follows_wants : (seen : List W) (r : Run W F T A) (done : List T) (ans : Result A (Halt F U)) → Follows Is own seen r done ans
      → Follows Is part seen (only_wants r) [] ans
  follows_wants seen r done (Ok a) h = (sym (steps_of-marks S (wants_of r.marks)), h.1)
  follows_wants seen r done (Err (Fault f)) h = (sym (steps_of-marks S (wants_of r.marks)), h.1)
  follows_wants seen r done (Err (Unread u)) h = no_steps_in no_part no_part (λ ws. Names Is u (seen ++ ws)) r done h
  follows_wants seen r done (Err Broke) h = no_steps_in own part (λ ws. Unit {0}) r done h

-- where each want comes to one thing there is one run
module _ {W F S I : Type 0} (Bs : I → BlockMap W F) (B : BlockMap W F) (same : (i : I) (w : W) → Bs i w ≡ B w) where
  -- where all maps agree, a trying program comes to the marks and the value of its run alone
  pub comes_one : {X : Type 0} (p : Trying W F S X) (ms : List (Mark W S)) (x : X) → ComesTo Bs p ms x → (ms ≡ (tried B p).marks) × (Ok x ≡ (tried B p).ending)
  comes_one (Done a) ms x h = (h.0, ap Ok h.1)
  comes_one (Try w k) ms x h =
      let r = comes_one (k (B w)) h.1 x (subst (λ fate. ComesTo Bs (k fate) h.1 x) (same h.0 w) h.3) in
      (h.2 ∙ ap (λ l. Wants w ∷ l) r.0, r.1)
  comes_one (Act s p) ms x h =
      let r = comes_one p h.0 x h.2 in
      (h.1 ∙ ap (λ l. Does s ∷ l) r.0, r.1)

  -- where all maps agree, a trying program has one run
  pub tries_one : {A : Type 0} (p : Trying W F S (Result A F)) (r : Run W F S A) → TriesTo Bs p r → r ≡ tried_run B p
  tries_one p r h =
      let c = comes_one p r.marks r.ending h in
      ap (λ l. run l r.ending) c.0 ∙ ap (λ e. run (tried B p).marks (came_of e)) c.1
