-- The laws of programs and their runs, by induction on the program.
use Rattle.std.proofs.Common.{◌≡◌, ℕ, List, [], ◌∷◌, ◌++◌, Result, Ok, Err, refl, sym, ap, ◌∙◌, append_assoc}
use Rattle.btr_prog.specs.Prog.{BlockMap, Prog, Return, Stop, Need, Emit, Mark, Wants, Does, Run, run, first, prepend, given, exec, bind, after, and_then}
use Rattle.btr_prog.specs.Prog.{steps_of, wants_of, needs}
use Rattle.btr_prog.specs.Maps.{Each, IsWithin, IsWhole, marks_if, ending_if, up_to, first_fault, cut}

-- the steps and the wants of two lists of marks are those of the first and then those of the second
pub steps_of-append : {W S : Type 0} (ms ns : List (Mark W S)) → steps_of (ms ++ ns) ≡ steps_of ms ++ steps_of ns
steps_of-append [] ns = refl
steps_of-append (Wants w ∷ ms) ns = steps_of-append ms ns
steps_of-append (Does s ∷ ms) ns = ap (λ xs. s ∷ xs) (steps_of-append ms ns)

-- the wants of two lists of marks are those of the first and then those of the second
pub wants_of-append : {W S : Type 0} (ms ns : List (Mark W S)) → wants_of (ms ++ ns) ≡ wants_of ms ++ wants_of ns
wants_of-append [] ns = refl
wants_of-append (Wants w ∷ ms) ns = ap (λ xs. w ∷ xs) (wants_of-append ms ns)
wants_of-append (Does s ∷ ms) ns = wants_of-append ms ns

-- where a want has bytes, a run ends as what follows does
whole_ending : {F A : Type 0} (x : Result (List ℕ) F) (e : Result A F) → IsWhole x → ending_if x e ≡ e
whole_ending (Ok bytes) e h = refl
whole_ending (Err f) e h = absurd h

module _ {W F S : Type 0} where
  -- marks before marks before a run are all of them before it
  pub prepend-prepend : {A : Type 0} (ms ns : List (Mark W S)) (r : Run W F S A) → prepend ms (prepend ns r) ≡ prepend (ms ++ ns) r
  prepend-prepend ms ns r = ap (λ xs. run xs r.ending) (sym (append_assoc ms ns r.marks))

  -- a mark before a run and what follows it is one mark more of the run
  first_after : {A C : Type 0} (m : Mark W S) (ms : List (Mark W S)) (e : Result A F) (k : A → Run W F S C) → first m (after ms e k) ≡ after (m ∷ ms) e k
  first_after m ms (Ok a) k = refl
  first_after m ms (Err f) k = refl

  -- of one want: one run and then another by its value
  given_after : {A C : Type 0} (x : Result (List ℕ) F) (g : List ℕ → Run W F S C) (h : List ℕ → Run W F S A) (k : A → Run W F S C)
      → ((bytes : List ℕ) → g bytes ≡ and_then (h bytes) k) → given x g ≡ and_then (given x h) k
  given_after (Ok bytes) g h k e = e bytes
  given_after (Err f) g h k e = refl

  -- the run of one program after another is one run after another
  pub exec-bind : {A C : Type 0} (B : BlockMap W F) (p : Prog W F S A) (k : A → Prog W F S C) → exec B (bind p k) ≡ and_then (exec B p) (λ a. exec B (k a))
  exec-bind B (Return a) k = refl
  exec-bind B (Stop f) k = refl
  exec-bind B (Need w g) k =
      let r = given (B w) (λ bytes. exec B (g bytes)) in
      ap (first (Wants w)) (given_after (B w) (λ bytes. exec B (bind (g bytes) k)) (λ bytes. exec B (g bytes)) (λ a. exec B (k a))
      (λ bytes. exec-bind B (g bytes) k))
      ∙ first_after (Wants w) r.marks r.ending (λ a. exec B (k a))
  exec-bind B (Emit s p) k =
      let r = exec B p in
      ap (first (Does s)) (exec-bind B p k) ∙ first_after (Does s) r.marks r.ending (λ a. exec B (k a))

  -- a run that came to a value, and then another; and one that came to a fault
  pub after-ok : {A C : Type 0} (r : Run W F S A) (a : A) (k : A → Run W F S C) → r.ending ≡ Ok a → and_then r k ≡ prepend r.marks (k a)
  after-ok r a k e = ap (λ x. after r.marks x k) e

  -- a run that came to a fault, and then nothing
  pub after-err : {A C : Type 0} (r : Run W F S A) (f : F) (k : A → Run W F S C) → r.ending ≡ Err f → and_then r k ≡ run r.marks (Err f)
  after-err r f k e = ap (λ x. after r.marks x k) e

  -- the wants of one program after another: the first one's, and where it came to a value the other's
  pub needs-bind : {A C : Type 0} (B : BlockMap W F) (p : Prog W F S A) (k : A → Prog W F S C) (a : A) → (exec B p).ending ≡ Ok a → needs B (bind p k)
      ≡ needs B p ++ needs B (k a)
  needs-bind B p k a e =
      ap (λ (r : Run W F S _). wants_of r.marks) (exec-bind B p k ∙ after-ok (exec B p) a (λ x. exec B (k x)) e)
      ∙ wants_of-append (exec B p).marks (exec B (k a)).marks

  -- where the first program came to a fault, the wants of both are the first one's
  pub needs-stop : {A C : Type 0} (B : BlockMap W F) (p : Prog W F S A) (k : A → Prog W F S C) (f : F) → (exec B p).ending ≡ Err f
      → needs B (bind p k) ≡ needs B p
  needs-stop B p k f e = ap (λ (r : Run W F S _). wants_of r.marks) (exec-bind B p k ∙ after-err (exec B p) f (λ x. exec B (k x)) e)

module _ {W F S A : Type 0} (B C : BlockMap W F) where
  -- of one want: where B and C agree on what follows, the runs are the same
  given_same : (x : Result (List ℕ) F) (k : List ℕ → Prog W F S A)
      → ((bytes : List ℕ) → Each (λ w. B w ≡ C w) (needs B (k bytes)) → exec B (k bytes) ≡ exec C (k bytes))
      → Each (λ w. B w ≡ C w) (wants_of (given x (λ bytes. exec B (k bytes))).marks) → given x (λ bytes. exec B (k bytes)) ≡ given x (λ bytes. exec C (k bytes))
  given_same (Ok bytes) k ih h = ih bytes h
  given_same (Err f) k ih h = refl

  -- a run hangs on the fates of its own wants alone
  pub only_needs : (p : Prog W F S A) → Each (λ w. B w ≡ C w) (needs B p) → exec B p ≡ exec C p
  only_needs (Return a) h = refl
  only_needs (Stop f) h = refl
  only_needs (Emit s p) h = ap (first (Does s)) (only_needs p h)
  only_needs (Need w k) h =
      ap (first (Wants w)) (given_same (B w) k (λ bytes g. only_needs (k bytes) g) h.1 ∙ ap (λ x. given x (λ bytes. exec C (k bytes))) h.0)

  -- of one want, whose fates are x under B and y under C
  given_cut : (x y : Result (List ℕ) F) (k : List ℕ → Prog W F S A) → IsWithin x y
      → ((bytes : List ℕ) → Each (λ w. IsWithin (B w) (C w)) (needs C (k bytes)) → exec B (k bytes) ≡ cut B (exec C (k bytes)))
      → Each (λ w. IsWithin (B w) (C w)) (wants_of (given y (λ bytes. exec C (k bytes))).marks) → given x (λ bytes. exec B (k bytes))
      ≡ run (marks_if x (up_to B (given y (λ bytes. exec C (k bytes))).marks))
      (ending_if x (first_fault B (given y (λ bytes. exec C (k bytes))).marks (given y (λ bytes. exec C (k bytes))).ending))
  given_cut (Err f) y k i ih h = refl
  given_cut (Ok bytes) (Err f) k i ih h = cc
  given_cut (Ok bytes) (Ok bytes') k i ih h =
      let e : bytes ≡ bytes' = cc in
      ap (λ b. exec B (k b)) e ∙ ih bytes' h

  -- where B has of each want C's bytes or none, its run is C's, cut at the first want that B lacks
  pub cut_law : (p : Prog W F S A) → Each (λ w. IsWithin (B w) (C w)) (needs C p) → exec B p ≡ cut B (exec C p)
  cut_law (Return a) h = refl
  cut_law (Stop f) h = refl
  cut_law (Emit s p) h = ap (first (Does s)) (cut_law p h)
  cut_law (Need w k) h = ap (first (Wants w)) (given_cut (B w) (C w) k h.0 (λ bytes g. cut_law (k bytes) g) h.1)

module _ {W F S : Type 0} where
  -- where a want has bytes, all marks behind it stay
  whole_marks : (x : Result (List ℕ) F) (ms : List (Mark W S)) → IsWhole x → marks_if x ms ≡ ms
  whole_marks (Ok bytes) ms h = refl
  whole_marks (Err f) ms h = absurd h

  -- where B has each want, all marks come before a lost one
  up_to-whole : (B : BlockMap W F) (ms : List (Mark W S)) → Each (λ w. IsWhole (B w)) (wants_of ms) → up_to B ms ≡ ms
  up_to-whole B [] h = refl
  up_to-whole B (Wants w ∷ ms) h = ap (λ x. Wants w ∷ x) (whole_marks (B w) (up_to B ms) h.0 ∙ up_to-whole B ms h.1)
  up_to-whole B (Does s ∷ ms) h = ap (λ x. Does s ∷ x) (up_to-whole B ms h)

  -- where B has each want, no fault comes before the ending
  first_fault-whole : {A : Type 0} (B : BlockMap W F) (ms : List (Mark W S)) (e : Result A F) → Each (λ w. IsWhole (B w)) (wants_of ms) → first_fault B ms e ≡ e
  first_fault-whole B [] e h = refl
  first_fault-whole B (Wants w ∷ ms) e h = whole_ending (B w) (first_fault B ms e) h.0 ∙ first_fault-whole B ms e h.1
  first_fault-whole B (Does s ∷ ms) e h = first_fault-whole B ms e h

  -- a run of which B has each want is not cut
  pub cut-whole : {A : Type 0} (B : BlockMap W F) (r : Run W F S A) → Each (λ w. IsWhole (B w)) (wants_of r.marks) → cut B r ≡ r
  cut-whole B r h = ap (λ ms. run ms (first_fault B r.marks r.ending)) (up_to-whole B r.marks h)
      ∙ ap (λ e. run r.marks e) (first_fault-whole B r.marks r.ending h)

  -- where B has C's bytes of each want, its run is C's
  pub whole_law : {A : Type 0} (B C : BlockMap W F) (p : Prog W F S A) → Each (λ w. IsWithin (B w) (C w)) (needs C p)
      → Each (λ w. IsWhole (B w)) (needs C p) → exec B p ≡ exec C p
  whole_law B C p h g = cut_law B C p h ∙ cut-whole B (exec C p) g
