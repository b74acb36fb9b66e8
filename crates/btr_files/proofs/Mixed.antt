-- Programs in which the bytes of a want that passes a test are shown by one step, or by none: the steps of a run, where
-- such a want may come to any of several things, are each a step under one of the maps.
use Rattle.std.proofs.Common.{◌≡◌, ◌⊎◌, ℕ, Bool, true, false, IsTrue, List, [], ◌∷◌, Result, Ok, Err, refl, sym, ap, ◌∙◌, subst, inl, inr}
use Rattle.std.proofs.Math.Path.{fun_ext}
use Rattle.btr_prog.specs.Blind.{IsAlike}
use Rattle.btr_prog.specs.Goes.{GoesTo, goes_given}
use Rattle.btr_prog.specs.Maps.{IsWhole}
use Rattle.btr_prog.specs.Prog.{BlockMap, Prog, Return, Stop, Need, Emit, Wants, Does, Run, run, first, given, exec, steps, steps_of, bind}
use Rattle.btr_prog.specs.Shows.{AreAlike, OnlyShows}
use Rattle.btr_prog.specs.Thread.{thread, go_on}

-- two steps are the same
abbrev Same : {S : Type 0} → S → S → Type 0
Same s t = s ≡ t

module _ {W F S : Type 0} (plain : W → Bool) (Fits : W → List ℕ → Type 0) (R : S → S → Type 0) where
  -- whatever the bytes are, what follows is one step for them, and then the same
  abbrev pub OneStep : {A : Type 0} → W → (List ℕ → Prog W F S A) → Type 0
  OneStep {A} w k =
      (f : List ℕ → S) × (rest : Prog W F S A) × ((bytes : List ℕ) → k bytes ≡ Emit (f bytes) rest)
      × ((bytes others : List ℕ) → Fits w bytes → Fits w others → R (f bytes) (f others))

  -- behind each want that passes the test comes the same, or one step for its bytes
  abbrev pub ShowsOne : {A : Type 0} → Prog W F S A → Type 0
  ShowsOne (Return a) = Unit {0}
  ShowsOne (Stop f) = Unit {0}
  ShowsOne (Need w k) =
      ((bytes : List ℕ) → ShowsOne (k bytes)) × (IsTrue (plain w) → ((bytes others : List ℕ) → k bytes ≡ k others) ⊎ OneStep w k)
  ShowsOne (Emit s p) = ShowsOne p

  -- one program after another shows each such want by one step at most, where each of them does
  pub one_bind : {A C : Type 0} (p : Prog W F S A) (k : A → Prog W F S C) → ShowsOne p → ((a : A) → ShowsOne (k a)) → ShowsOne (bind p k)
  one_bind (Return a) k h g = g a
  one_bind (Stop f) k h g = tt
  one_bind {A} {C} (Need w l) k h g = (λ bytes. one_bind (l bytes) k (h.0 bytes) g, λ t. on (h.1 t))
    where
      -- with more behind it, what follows a want stays the same, or one step for its bytes
      on : ((bytes others : List ℕ) → l bytes ≡ l others) ⊎ OneStep w l
          → ((bytes others : List ℕ) → bind (l bytes) k ≡ bind (l others) k) ⊎ OneStep w (λ bytes. bind (l bytes) k)
      on (inl e) = inl (λ b c. ap (λ (x : Prog W F S A). bind x k) (e b c))
      on (inr o) = inr (o.0, bind o.1 k, λ b. ap (λ (x : Prog W F S A). bind x k) (o.2 b), o.3)
  one_bind (Emit s p) k h g = one_bind p k h g

  -- going on with such programs, or ending, is such a program
  one_on : {St A : Type 0} (k : St → Prog W F S A) → ((st : St) → ShowsOne (k st)) → (r : Result St A) → ShowsOne (go_on k r)
  one_on k h (Ok st) = h st
  one_on k h (Err x) = tt

-- programs whose steps are all the same are the same
alike_same : {W F S A : Type 0} (p q : Prog W F S A) → AreAlike Same p q → p ≡ q
alike_same (Return a) (Return b) e = ap Return e
alike_same (Stop f) (Stop g) e = ap Stop e
alike_same (Need w k) (Need v l) e = ap (λ u. Need u k) e.0 ∙ ap (Need v) (fun_ext (λ bytes. alike_same (k bytes) (l bytes) (e.1 bytes)))
alike_same (Emit s p) (Emit t q) e = ap (λ u. Emit u p) e.0 ∙ ap (Emit t) (alike_same p q e.1)
alike_same p q e = absurd e

module _ {W F : Type 0} (plain : W → Bool) (Fits : W → List ℕ → Type 0) where
  -- what shows no bytes at all
  pub one_none : {S A : Type 0} (R : S → S → Type 0) (p : Prog W F S A) → OnlyShows Same plain p → ShowsOne plain Fits R p
  one_none R (Return a) h = tt
  one_none R (Stop f) h = tt
  one_none R (Need w k) h = (λ bytes. one_none R (k bytes) (h.0 bytes), λ t. inl (λ b c. alike_same (k b) (k c) (h.1 t b c)))
  one_none R (Emit s p) h = one_none R p h

  -- treating the steps of a program that shows no bytes
  pub one_thread : {S T A St X : Type 0} (R : T → T → Type 0) (body : St → S → Prog W F T (Result St X)) (done : St → A → X)
      → ((st : St) (s : S) → ShowsOne plain Fits R (body st s)) → (st : St) (p : Prog W F S A) → OnlyShows Same plain p
      → ShowsOne plain Fits R (thread body done st p)
  one_thread R body done h st (Return a) e = tt
  one_thread R body done h st (Stop f) e = tt
  one_thread {S} {A = A} R body done h st (Need w k) e = (
    λ bytes. one_thread R body done h st (k bytes) (e.0 bytes),
    λ t. inl (λ b c. ap (λ (x : Prog W F S A). thread body done st x) (alike_same (k b) (k c) (e.1 t b c))),
  )
  one_thread R body done h st (Emit s p) e =
      one_bind plain Fits R (body st s) (go_on (λ st'. thread body done st' p)) (h st s)
      (one_on plain Fits R (λ st'. thread body done st' p) (λ st'. one_thread R body done h st' p e))

module _ {S : Type 0} (R : S → S → Type 0) where
  -- each of some steps is the one that stands there in one of several lists, and in the relation with it in all
  abbrev pub Mixed : List S → (ℕ → List S) → Type 0
  Mixed [] ys = (n : ℕ) → ys n ≡ []
  Mixed (x ∷ xs) ys =
      (y : ℕ → S) × (zs : ℕ → List S) × ((n : ℕ) → ys n ≡ y n ∷ zs n) × ((n : ℕ) × (x ≡ y n)) × ((n : ℕ) → R x (y n)) × Mixed xs zs

  -- a mix of some lists is one of lists that are the same
  mixed_as : (xs : List S) (ys zs : ℕ → List S) → ((n : ℕ) → ys n ≡ zs n) → Mixed xs zs → Mixed xs ys
  mixed_as [] ys zs e h = λ n. e n ∙ h n
  mixed_as (x ∷ xs) ys zs e h = (h.0, h.1, λ n. e n ∙ h.2 n, h.3, h.4, h.5)

pub never_true : IsTrue false → ⊥
never_true t = absurd (cc)

-- where one fate has bytes or a fault, so has one that is alike
has_bytes : {F : Type 0} (b : Bool) (x y : Result (List ℕ) F) (bytes : List ℕ) → IsAlike b x y → y ≡ Ok bytes → (c : List ℕ) × (x ≡ Ok c)
    × (b ≡ false → c ≡ bytes)
has_bytes b x y bytes (inl e) is = (bytes, e ∙ is, λ f. refl)
has_bytes true (Ok c) y bytes (inr h) is = (c, refl, λ f. absurd (cc))
has_bytes true (Err f) y bytes (inr h) is = absurd h.1
has_bytes false x y bytes (inr h) is = absurd (never_true h.0)

-- where one fate is a fault, so is one that is alike
has_fault : {F : Type 0} (b : Bool) (x y : Result (List ℕ) F) (f : F) → IsAlike b x y → y ≡ Err f → x ≡ Err f
has_fault b x y f (inl e) is = e ∙ is
has_fault b x y f (inr h) is = absurd (subst (λ z. IsWhole z) is h.2)

same_bytes : {F : Type 0} (x : Result (List ℕ) F) (b c : List ℕ) → x ≡ Ok b → x ≡ Ok c → c ≡ b
same_bytes x b c e f = cc

same_fault : {F : Type 0} (x : Result (List ℕ) F) (f g : F) → x ≡ Err f → x ≡ Err g → g ≡ f
same_fault x f g e h = cc

never_both : {F : Type 0} (x : Result (List ℕ) F) (b : List ℕ) (f : F) → x ≡ Ok b → x ≡ Err f → ⊥
never_both x b f e h = absurd (cc)

module _ {W F : Type 0} (plain : W → Bool) (Bs : ℕ → BlockMap W F) (alike : (n : ℕ) (w : W) → IsAlike (plain w) (Bs n w) (Bs 0 w)) where
  -- where one map has bytes, so has the first
  zeroth : (i : ℕ) (w : W) (b : List ℕ) → Bs i w ≡ Ok b → (c : List ℕ) × (Bs 0 w ≡ Ok c) × (plain w ≡ false → b ≡ c)
  zeroth i w b is = of (Bs 0 w) refl
    where
      of : (z : Result (List ℕ) F) → Bs 0 w ≡ z → (c : List ℕ) × (Bs 0 w ≡ Ok c) × (plain w ≡ false → b ≡ c)
      of (Ok c) h =
          let g = has_bytes (plain w) (Bs i w) (Bs 0 w) c (alike i w) h in
          (c, h, λ f. sym (same_bytes (Bs i w) b g.0 is g.1) ∙ g.2 f)
      of (Err f) h = absurd (never_both (Bs i w) b f is (has_fault (plain w) (Bs i w) (Bs 0 w) f (alike i w) h))

module _ {W F S A : Type 0} (plain : W → Bool) (Fits : W → List ℕ → Type 0) (R : S → S → Type 0) (all : (s : S) → R s s)
    (Bs : ℕ → BlockMap W F) (alike : (n : ℕ) (w : W) → IsAlike (plain w) (Bs n w) (Bs 0 w))
    (fits : (n : ℕ) (w : W) (bytes : List ℕ) → Bs n w ≡ Ok bytes → Fits w bytes) where
  -- a run has the steps of some maps, each of them, and ends as under each map
  abbrev pub IsMix : Prog W F S A → Run W F S A → Type 0
  IsMix p r = Mixed R (steps_of r.marks) (λ n. steps (Bs n) p) × ((n : ℕ) → (exec (Bs n) p).ending ≡ r.ending)

  module _ (w : W) (k : List ℕ → Prog W F S A) (i : ℕ) (b : List ℕ) (got : Bs i w ≡ Ok b) where
    -- each map has bytes too
    had : (n : ℕ) → (c : List ℕ) × (Bs n w ≡ Ok c) × (plain w ≡ false → c ≡ b)
    had n =
        let z = zeroth plain Bs alike i w b got in
        let g = has_bytes (plain w) (Bs n w) (Bs 0 w) z.0 (alike n w) z.1 in
        (g.0, g.1, λ f. g.2 f ∙ sym (z.2 f))

    -- under each map that has bytes for the want, the run goes on with them
    goes_on : (n : ℕ) (c : List ℕ) → Bs n w ≡ Ok c → exec (Bs n) (Need w k) ≡ first (Wants w) (exec (Bs n) (k c))
    goes_on n c is = ap (λ x. first (Wants w) (given x (λ bytes. exec (Bs n) (k bytes)))) is

    -- what follows is the same for the bytes of each map
    mix_same : (q : Run W F S A) → ((n : ℕ) → k (had n).0 ≡ k b) → IsMix (k b) q → IsMix (Need w k) (first (Wants w) q)
    mix_same q e h =
        let there : (n : ℕ) → exec (Bs n) (Need w k) ≡ first (Wants w) (exec (Bs n) (k b)) =
        λ n. goes_on n (had n).0 (had n).1 ∙ ap (λ (p : Prog W F S A). first (Wants w) (exec (Bs n) p)) (e n) in (
          mixed_as R (steps_of q.marks) (λ n. steps (Bs n) (Need w k)) (λ n. steps (Bs n) (k b))
              (λ n. ap (λ (r : Run W F S A). steps_of r.marks) (there n)) h.0,
          λ n. ap (λ (r : Run W F S A). r.ending) (there n) ∙ h.1 n,
        )

    -- one step for the bytes, and after it the same for the bytes of each map
    mix_step : (f : List ℕ → S) (rest : Prog W F S A) → ((bytes : List ℕ) → k bytes ≡ Emit (f bytes) rest)
        → ((bytes others : List ℕ) → Fits w bytes → Fits w others → R (f bytes) (f others))
        → (q : Run W F S A) → IsMix rest q → IsMix (Need w k) (first (Wants w) (first (Does (f b)) q))
    mix_step f rest e close q h =
        let there : (n : ℕ) → exec (Bs n) (Need w k) ≡ first (Wants w) (first (Does (f (had n).0)) (exec (Bs n) rest)) =
        λ n. goes_on n (had n).0 (had n).1 ∙ ap (λ (p : Prog W F S A). first (Wants w) (exec (Bs n) p)) (e (had n).0) in (
          (
            λ n. f (had n).0,
            λ n. steps (Bs n) rest,
            λ n. ap (λ (r : Run W F S A). steps_of r.marks) (there n),
            (i, ap f (same_bytes (Bs i w) (had i).0 b (had i).1 got)),
            λ n. close b (had n).0 (fits i w b got) (fits n w (had n).0 (had n).1),
            h.0,
          ),
          λ n. ap (λ (r : Run W F S A). r.ending) (there n) ∙ h.1 n,
        )

  -- where a want has a fault, it has that under each map
  mix_fault : (w : W) (k : List ℕ → Prog W F S A) (i : ℕ) (f : F) → Bs i w ≡ Err f → IsMix (Need w k) (first (Wants w) (run [] (Err f)))
  mix_fault w k i f got =
      let there : (n : ℕ) → exec (Bs n) (Need w k) ≡ first (Wants w) (run [] (Err f)) =
      λ n. ap (λ x. first (Wants w) (given x (λ bytes. exec (Bs n) (k bytes)))) (lacks n) in
      (λ n. ap (λ (r : Run W F S A). steps_of r.marks) (there n), λ n. ap (λ (r : Run W F S A). r.ending) (there n))
    where
      -- the first map has the want's fault
      lacks_first : (z : Result (List ℕ) F) → Bs 0 w ≡ z → Bs 0 w ≡ Err f
      lacks_first (Ok c) h = let g = has_bytes (plain w) (Bs i w) (Bs 0 w) c (alike i w) h in absurd (never_both (Bs i w) g.0 f g.1 got)
      lacks_first (Err g) h = h ∙ ap Err (same_fault (Bs i w) f g got (has_fault (plain w) (Bs i w) (Bs 0 w) g (alike i w) h))

      -- each map has the want's fault
      lacks : (n : ℕ) → Bs n w ≡ Err f
      lacks n = has_fault (plain w) (Bs n w) (Bs 0 w) f (alike n w) (lacks_first (Bs 0 w) refl)

  -- what follows a step
  mix_rest : (s : S) (p : Prog W F S A) (q : Run W F S A) → IsMix (Emit s p) (first (Does s) q) → IsMix p q
  mix_rest s p q h =
      (mixed_as R (steps_of q.marks) (λ n. steps (Bs n) p) h.0.1 (λ n. same_tail s (h.0.0 n) (steps (Bs n) p) (h.0.1 n) (h.0.2 n)) h.0.5, h.1)
    where
      same_tail : (x y : S) (xs ys : List S) → (x ∷ xs) ≡ (y ∷ ys) → xs ≡ ys
      same_tail x y xs ys e = cc

  module _ (w : W) (k : List ℕ → Prog W F S A) (h : ShowsOne plain Fits R (Need w k)) (i : ℕ) (q : Run W F S A)
      (next : (b : List ℕ) → GoesTo Bs (k b) q → IsMix (k b) q) where
    -- behind a want that passes the test comes the same or one step: its run is a mix
    mix_shown : (b : List ℕ) → Bs i w ≡ Ok b → GoesTo Bs (k b) q → ((bytes others : List ℕ) → k bytes ≡ k others) ⊎ OneStep plain Fits R w k
        → IsMix (Need w k) (first (Wants w) q)
    mix_shown b got goes (inl e) = mix_same w k i b got q (λ n. e (had w k i b got n).0 b) (next b goes)
    mix_shown b got goes (inr o) =
        let step : Prog W F S A = Emit (o.0 b) o.1 in
        let on = subst (λ (p : Prog W F S A). GoesTo Bs p q) (o.2 b) goes in
        let mix = subst (IsMix step) on.1 (subst (λ (p : Prog W F S A). IsMix p q) (o.2 b) (next b goes)) in
        subst (λ (r : Run W F S A). IsMix (Need w k) (first (Wants w) r)) (sym on.1)
        (mix_step w k i b got o.0 o.1 o.2 o.3 on.0 (mix_rest (o.0 b) o.1 on.0 mix))

    -- a run from a want on is a mix, by whether the want passes the test
    mix_by : (b : List ℕ) → Bs i w ≡ Ok b → GoesTo Bs (k b) q → (t : Bool) → plain w ≡ t → IsMix (Need w k) (first (Wants w) q)
    mix_by b got goes false tested = mix_same w k i b got q (λ n. ap k ((had w k i b got n).2 tested)) (next b goes)
    mix_by b got goes true tested = mix_shown b got goes (h.1 tested)

    -- a run from a want on is a mix, by what one of the maps says of the want
    mix_need : (x : Result (List ℕ) F) → Bs i w ≡ x → goes_given x (λ bytes. GoesTo Bs (k bytes)) q → IsMix (Need w k) (first (Wants w) q)
    mix_need (Ok b) got goes = mix_by b got goes (plain w) refl
    mix_need (Err f) got goes = subst (λ (r : Run W F S A). IsMix (Need w k) (first (Wants w) r)) (sym goes) (mix_fault w k i f got)

  -- a run of a program that shows each such want by one step at most is a mix
  pub mix_goes : (p : Prog W F S A) (r : Run W F S A) → ShowsOne plain Fits R p → GoesTo Bs p r → IsMix p r
  mix_goes (Return a) r h g = subst (IsMix (Return a)) (sym g) (λ n. refl, λ n. refl)
  mix_goes (Stop f) r h g = subst (IsMix (Stop f)) (sym g) (λ n. refl, λ n. refl)
  mix_goes (Need w k) r h g =
      subst (IsMix (Need w k)) (sym g.2) (mix_need w k h g.0 g.1 (λ b goes. mix_goes (k b) g.1 (h.0 b) goes) (Bs g.0 w) refl g.3)
  mix_goes (Emit s p) r h g =
      let i = mix_goes p g.0 h g.2 in
      subst (IsMix (Emit s p)) (sym g.1) ((λ n. s, λ n. steps (Bs n) p, λ n. refl, (0, refl), λ n. all s, i.0), i.1)
