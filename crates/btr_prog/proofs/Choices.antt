-- Runs where a want may come to any of several things.
use Rattle.std.proofs.Common.{◌≡◌, ℕ, List, [], ◌∷◌, ◌++◌, Option, Some, Result, Ok, Err, refl, sym, ap, ◌∙◌, subst}
use Rattle.btr_prog.specs.Prog.{BlockMap, Prog, Return, Stop, Need, Emit, Mark, Wants, Does, Run, run, first, prepend, given, exec, bind, after, and_then}
use Rattle.btr_prog.specs.Prog.{needs, wants_of}
use Rattle.btr_prog.specs.Maps.{Each}
use Rattle.btr_prog.specs.Answers.{Halt, Fault, Unread, Broke, Follows}
use Rattle.btr_prog.specs.Goes.{goes_given, GoesTo, AfterTo, Goes}
use Rattle.btr_prog.proofs.Follow.{follows_behind, follows_halt, follows_alone, want_unread, step_done, step_broke, broke_here}

module _ {W F S I A : Type 0} (Bs : I → BlockMap W F) (B : BlockMap W F) where
  -- of one want: where all maps agree with B, what follows has B's run alone
  given_one : (x : Result (List ℕ) F) (k : List ℕ → Prog W F S A) (q : Run W F S A)
      → ((bytes : List ℕ) (s : Run W F S A) → Each (λ w. (i : I) → Bs i w ≡ B w) (needs B (k bytes)) → GoesTo Bs (k bytes) s → s ≡ exec B (k bytes))
      → Each (λ w. (i : I) → Bs i w ≡ B w) (wants_of (given x (λ bytes. exec B (k bytes))).marks) → goes_given x (λ bytes. GoesTo Bs (k bytes)) q → q
      ≡ given x (λ bytes. exec B (k bytes))
  given_one (Ok bytes) k q ih h g = ih bytes q h g
  given_one (Err f) k q ih h g = g

  -- where each want of B's run comes to what B says, B's run is the only one
  pub goes_one : (p : Prog W F S A) (r : Run W F S A) → Each (λ w. (i : I) → Bs i w ≡ B w) (needs B p) → GoesTo Bs p r → r ≡ exec B p
  goes_one (Return a) r h g = g
  goes_one (Stop f) r h g = g
  goes_one (Need w k) r h g = g.2 ∙ ap (first (Wants w)) (given_one (B w) k g.1 (λ bytes s e d. goes_one (k bytes) s e d) h.1
      (subst (λ x. goes_given x (λ bytes. GoesTo Bs (k bytes)) g.1) (h.0 g.0) g.3))
  goes_one (Emit s p) r h g = g.1 ∙ ap (first (Does s)) (goes_one p g.0 h g.2)

  -- of one want: where some map agrees with B, B's run of what follows is one
  given_some : (x : Result (List ℕ) F) (k : List ℕ → Prog W F S A)
      → ((bytes : List ℕ) → Each (λ w. (i : I) × (Bs i w ≡ B w)) (needs B (k bytes)) → GoesTo Bs (k bytes) (exec B (k bytes)))
      → Each (λ w. (i : I) × (Bs i w ≡ B w)) (wants_of (given x (λ bytes. exec B (k bytes))).marks)
      → goes_given x (λ bytes. GoesTo Bs (k bytes)) (given x (λ bytes. exec B (k bytes)))
  given_some (Ok bytes) k ih h = ih bytes h
  given_some (Err f) k ih h = refl

  -- where each want of B's run may come to what B says, B's run is one
  pub goes_some : (p : Prog W F S A) → Each (λ w. (i : I) × (Bs i w ≡ B w)) (needs B p) → GoesTo Bs p (exec B p)
  goes_some (Return a) h = refl
  goes_some (Stop f) h = refl
  goes_some (Need w k) h =
      let q = given (B w) (λ bytes. exec B (k bytes)) in
      (h.0.0, q, refl, subst (λ x. goes_given x (λ bytes. GoesTo Bs (k bytes)) q) (sym h.0.1) (given_some (B w) k (λ bytes e. goes_some (k bytes) e) h.1))
  goes_some (Emit s p) h = (exec B p, refl, goes_some p h)

module _ {W F S I : Type 0} (Bs : I → BlockMap W F) where
  -- the run under one of the maps
  given_map : {A : Type 0} (i : I) (x : Result (List ℕ) F) (k : List ℕ → Prog W F S A)
      → ((bytes : List ℕ) → GoesTo Bs (k bytes) (exec (Bs i) (k bytes)))
      → goes_given x (λ bytes. GoesTo Bs (k bytes)) (given x (λ bytes. exec (Bs i) (k bytes)))
  given_map i (Ok bytes) k ih = ih bytes
  given_map i (Err f) k ih = refl

  -- the run under one of the maps is a run
  pub goes_map : {A : Type 0} (i : I) (p : Prog W F S A) → GoesTo Bs p (exec (Bs i) p)
  goes_map i (Return a) = refl
  goes_map i (Stop f) = refl
  goes_map i (Need w k) = (i, given (Bs i w) (λ bytes. exec (Bs i) (k bytes)), refl, given_map i (Bs i w) k (λ bytes. goes_map i (k bytes)))
  goes_map i (Emit s p) = (exec (Bs i) p, refl, goes_map i p)

  module _ {J : Type 0} (Cs : J → BlockMap W F) where
    -- of one want: where more is allowed, a run of what follows stays one
    given_more : {A : Type 0} (x : Result (List ℕ) F) (k : List ℕ → Prog W F S A) (q : Run W F S A)
        → ((bytes : List ℕ) (s : Run W F S A) → GoesTo Bs (k bytes) s → GoesTo Cs (k bytes) s) → goes_given x (λ bytes. GoesTo Bs (k bytes)) q
        → goes_given x (λ bytes. GoesTo Cs (k bytes)) q
    given_more (Ok bytes) k q ih g = ih bytes q g
    given_more (Err f) k q ih g = g

    -- where more is allowed, a run stays one
    pub goes_more : {A : Type 0} (p : Prog W F S A) (r : Run W F S A) → ((i : I) (w : W) → (j : J) × (Cs j w ≡ Bs i w)) → GoesTo Bs p r → GoesTo Cs p r
    goes_more (Return a) r h g = g
    goes_more (Stop f) r h g = g
    goes_more (Need w k) r h g =
        let c = h g.0 w in (
          c.0,
          g.1,
          g.2,
          subst (λ x. goes_given x (λ bytes. GoesTo Cs (k bytes)) g.1) (sym c.1)
              (given_more (Bs g.0 w) k g.1 (λ bytes s d. goes_more (k bytes) s h d) g.3),
        )
    goes_more (Emit s p) r h g = (g.0, g.1, goes_more p g.0 h g.2)

  -- a mark before what comes after
  after_first : {A C : Type 0} (m : Mark W S) (ms : List (Mark W S)) (e : Result A F) (K : A → Run W F S C → Type 0) (r : Run W F S C)
      → AfterTo (m ∷ ms) e K r → (q : Run W F S C) × (r ≡ first m q) × AfterTo ms e K q
  after_first m ms (Ok a) K r g = (prepend ms g.0, g.1, (g.0, refl, g.2))
  after_first m ms (Err f) K r g = (run ms (Err f), g, refl)

  -- a run that comes after some marks comes, with a mark before it, after that mark and them
  first_after : {A C : Type 0} (m : Mark W S) (ms : List (Mark W S)) (e : Result A F) (K : A → Run W F S C → Type 0) (q r : Run W F S C) → r
      ≡ first m q → AfterTo ms e K q → AfterTo (m ∷ ms) e K r
  first_after m ms (Ok a) K q r e g = (g.0, e ∙ ap (first m) g.1, g.2)
  first_after m ms (Err f) K q r e g = e ∙ ap (first m) g

  module _ {A C : Type 0} (k : A → Prog W F S C) where
    -- the run is one of the first program, and then one of the other by its value
    abbrev Bound : Prog W F S A → Run W F S C → Type 0
    Bound p r = (q : Run W F S A) × GoesTo Bs p q × AfterTo q.marks q.ending (λ a. GoesTo Bs (k a)) r

    -- a run of the first, and then one of the other
    given_bind : (x : Result (List ℕ) F) (g : List ℕ → Prog W F S A) (q : Run W F S A) (r : Run W F S C)
        → ((bytes : List ℕ) (t : Run W F S A) (s : Run W F S C) → GoesTo Bs (g bytes) t → AfterTo t.marks t.ending (λ a. GoesTo Bs (k a)) s
        → GoesTo Bs (bind (g bytes) k) s) → goes_given x (λ bytes. GoesTo Bs (g bytes)) q → AfterTo q.marks q.ending (λ a. GoesTo Bs (k a)) r
        → goes_given x (λ bytes. GoesTo Bs (bind (g bytes) k)) r
    given_bind (Ok bytes) g q r ih d h = ih bytes q r d h
    given_bind (Err f) g q r ih d h = subst (λ (x : Run W F S A). AfterTo x.marks x.ending (λ a. GoesTo Bs (k a)) r) d h

    -- a run of the first program and then one of the other is a run of both
    pub goes_bind : (p : Prog W F S A) (q : Run W F S A) (r : Run W F S C) → GoesTo Bs p q → AfterTo q.marks q.ending (λ a. GoesTo Bs (k a)) r
        → GoesTo Bs (bind p k) r
    goes_bind (Return a) q r d h =
        let g = subst (λ (x : Run W F S A). AfterTo x.marks x.ending (λ b. GoesTo Bs (k b)) r) d h in
        subst (GoesTo Bs (k a)) (sym g.1) g.2
    goes_bind (Stop f) q r d h = subst (λ (x : Run W F S A). AfterTo x.marks x.ending (λ b. GoesTo Bs (k b)) r) d h
    goes_bind (Need w g) q r d h =
        let t = after_first (Wants w) d.1.marks d.1.ending (λ a. GoesTo Bs (k a)) r
        (subst (λ (x : Run W F S A). AfterTo x.marks x.ending (λ b. GoesTo Bs (k b)) r) d.2 h) in
        (d.0, t.0, t.1, given_bind (Bs d.0 w) g d.1 t.0 (λ bytes u s e c. goes_bind (g bytes) u s e c) d.3 t.2)
    goes_bind (Emit s p) q r d h =
        let t = after_first (Does s) d.0.marks d.0.ending (λ a. GoesTo Bs (k a)) r
        (subst (λ (x : Run W F S A). AfterTo x.marks x.ending (λ b. GoesTo Bs (k b)) r) d.1 h) in
        (t.0, t.1, goes_bind p d.0 t.0 d.2 t.2)

    -- each run of one program and then another is a run of the first, and then one of the other
    given_parts : (w : W) (i : I) (x : Result (List ℕ) F) (g : List ℕ → Prog W F S A) (q r : Run W F S C) → Bs i w ≡ x → r ≡ first (Wants w) q
        → ((bytes : List ℕ) (s : Run W F S C) → GoesTo Bs (bind (g bytes) k) s → Bound (g bytes) s)
        → goes_given x (λ bytes. GoesTo Bs (bind (g bytes) k)) q → Bound (Need w g) r
    given_parts w i (Ok bytes) g q r e c ih d =
        let b = ih bytes q d in (
          first (Wants w) b.0,
          (i, b.0, refl, subst (λ x. goes_given x (λ y. GoesTo Bs (g y)) b.0) (sym e) b.1),
          first_after (Wants w) b.0.marks
              b.0.ending (λ a. GoesTo Bs (k a)) q r c b.2,
        )
    given_parts w i (Err f) g q r e c ih d = (
      first (Wants w) (run [] (Err f)),
      (i, run [] (Err f), refl, subst (λ x. goes_given x (λ y. GoesTo Bs (g y)) (run [] (Err f))) (sym e) refl),
      c ∙ ap (first (Wants w)) d,
    )

    -- a run of two programs is a run of the first, and then one of the other
    pub goes_parts : (p : Prog W F S A) (r : Run W F S C) → GoesTo Bs (bind p k) r → Bound p r
    goes_parts (Return a) r d = (run [] (Ok a), refl, (r, refl, d))
    goes_parts (Stop f) r d = (run [] (Err f), refl, d)
    goes_parts (Need w g) r d = given_parts w d.0 (Bs d.0 w) g d.1 r refl d.2 (λ bytes s e. goes_parts (g bytes) s e) d.3
    goes_parts (Emit s p) r d =
        let b = goes_parts p d.0 d.2 in
        (first (Does s) b.0, (b.0, refl, b.1), first_after (Does s) b.0.marks b.0.ending (λ a. GoesTo Bs (k a)) d.0 r d.1 b.2)

  -- a run that some run after it completes
  after_exec : {A C : Type 0} (i : I) (k : A → Prog W F S C) (ms : List (Mark W S)) (e : Result A F)
      → AfterTo ms e (λ a. GoesTo Bs (k a)) (after ms e (λ a. exec (Bs i) (k a)))
  after_exec i k ms (Ok a) = (exec (Bs i) (k a), refl, goes_map i (k a))
  after_exec i k ms (Err f) = refl

  module _ {A C U : Type 0} (Is : U → W → Type 0) (part : S → ℕ → Option S) (seen : List W) (p : Prog W F S A) (k : A → Prog W F S C) where
    -- a call that came to a value by some run, and then another: what that answers both answer
    pub goes_then : (r : Run W F S A) (a : A) (done more : List S) (ans : Result C (Halt F U)) → GoesTo Bs p r → Follows Is part seen r done (Ok a)
        → Goes Is part (seen ++ wants_of r.marks) Bs (k a) more ans → Goes Is part seen Bs (bind p k) (done ++ more) ans
    goes_then r a done more ans g h n = (
      prepend r.marks n.0,
      goes_bind k p r (prepend r.marks n.0) g (subst (λ x. AfterTo r.marks x (λ b. GoesTo Bs (k b)) (prepend r.marks n.0)) (sym h.1) (n.0, refl, n.1)),
      subst (λ (x : List S). Follows Is part seen (prepend r.marks n.0) (x ++ more) ans) (sym h.0) (follows_behind Is part seen r.marks n.0 more ans n.2),
    )

    -- a call that came to no value, and then nothing: what it answers both answer
    pub goes_halt : (i : I) (done : List S) (h : Halt F U) → Goes Is part seen Bs p done (Err h) → Goes Is part seen Bs (bind p k) done (Err h)
    goes_halt i done h g =
        let r = g.0 in (
          after r.marks r.ending (λ a. exec (Bs i) (k a)),
          goes_bind k p r (after r.marks r.ending (λ a. exec (Bs i) (k a))) g.1 (after_exec i k r.marks r.ending),
          follows_halt Is part seen r (λ a. exec (Bs i) (k a)) done h g.2,
        )

  module _ {A U : Type 0} (Is : U → W → Type 0) (part : S → ℕ → Option S) (seen : List W) where
    -- what is answered after a want's bytes is answered of the want, where one of the maps gives them
    pub goes_came : (i : I) (w : W) (bytes : List ℕ) (k : List ℕ → Prog W F S A) (done : List S) (ans : Result A (Halt F U)) → Bs i w ≡ Ok bytes
        → Goes Is part (seen ++ (w ∷ [])) Bs (k bytes) done ans → Goes Is part seen Bs (Need w k) done ans
    goes_came i w bytes k done ans e h = (
      first (Wants w) h.0,
      (i, h.0, refl, subst (λ x. goes_given x (λ y. GoesTo Bs (k y)) h.0) (sym e) h.1),
      follows_behind Is part seen (Wants w ∷ []) h.0 done ans h.2,
    )

    -- a want that one of the maps has a fault for may end the call with that fault
    pub goes_faults : (i : I) (w : W) (f : F) (k : List ℕ → Prog W F S A) → Bs i w ≡ Err f → Goes Is part seen Bs (Need w k) [] (Err (Fault f))
    goes_faults i w f k e = (
      first (Wants w) (run [] (Err f)),
      (i, run [] (Err f), refl, subst (λ x. goes_given x (λ y. GoesTo Bs (k y)) (run [] (Err f))) (sym e) refl),
      (refl, refl),
    )

    -- a call may answer that its first want could not be read
    pub goes_unread : (i : I) (u : U) (w : W) (k : List ℕ → Prog W F S A) → Is u w → Goes Is part seen Bs (Need w k) [] (Err (Unread u))
    goes_unread i u w k h = (exec (Bs i) (Need w k), goes_map i (Need w k), want_unread Is part seen u w (given (Bs i w) (λ bytes. exec (Bs i) (k bytes))) h)

    -- a step that was done stands before what comes then
    pub goes_step : (s : S) (p : Prog W F S A) (done : List S) (ans : Result A (Halt F U)) → Goes Is part seen Bs p done ans
        → Goes Is part seen Bs (Emit s p) (s ∷ done) ans
    goes_step s p done ans h = (first (Does s) h.0, (h.0, refl, h.1), step_done Is part seen s h.0 done ans h.2)

    -- a call may be broken off in its first step, with a part of it done
    pub goes_broke : (i : I) (s t : S) (n : ℕ) (p : Prog W F S A) → part s n ≡ Some t → Goes Is part seen Bs (Emit s p) (t ∷ []) (Err Broke)
    goes_broke i s t n p e = (exec (Bs i) (Emit s p), goes_map i (Emit s p), step_broke Is part seen s t n (exec (Bs i) p) e)

    -- a call may be broken off before it did anything
    pub goes_nowhere : (i : I) (p : Prog W F S A) → Goes Is part seen Bs p [] (Err Broke)
    goes_nowhere i p = (exec (Bs i) p, goes_map i p, broke_here Is part seen (exec (Bs i) p))

    -- a call of its own, whatever was wanted before it
    pub goes_alone : (p : Prog W F S A) (done : List S) (ans : Result A (Halt F U)) → Goes Is part [] Bs p done ans → Goes Is part seen Bs p done ans
    goes_alone p done ans h = (h.0, h.1, follows_alone Is part seen h.0 done ans h.2)

  -- a program whose value is only put into another form
  abbrev pub with_value : {A C : Type 0} → (A → C) → Run W F S A → Run W F S C
  with_value f r = and_then r (λ a. run [] (Ok (f a)))

  -- a value put into another form comes after a run by its own ending
  after_value : {A C : Type 0} (f : A → C) (ms : List (Mark W S)) (e : Result A F)
      → AfterTo ms e (λ a. GoesTo Bs (Return (f a))) (after ms e (λ a. run [] (Ok (f a))))
  after_value f ms (Ok a) = (run [] (Ok (f a)), refl, refl)
  after_value f ms (Err x) = refl

  -- a run of a program is, with its value in another form, a run of the program with that form
  pub goes_value : {A C : Type 0} (f : A → C) (p : Prog W F S A) (r : Run W F S A) → GoesTo Bs p r → GoesTo Bs (bind p (λ a. Return (f a))) (with_value f r)
  goes_value f p r g = goes_bind (λ a. Return (f a)) p r (with_value f r) g (after_value f r.marks r.ending)
