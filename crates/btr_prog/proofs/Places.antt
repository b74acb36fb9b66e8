-- What an answer under one map says of the run under another that has more.
use Rattle.std.proofs.Common.{◌≡◌, ◌⊎◌, inl, inr, ℕ, List, [], ◌∷◌, ◌++◌, Option, Result, Ok, Err, refl, sym, ap, ◌∙◌, subst, append-nil}
use Rattle.btr_prog.specs.Prog.{BlockMap, Prog, Mark, Wants, Does, Run, run, exec, needs, steps_of}
use Rattle.btr_prog.specs.Maps.{Each, IsWithin, marks_if, up_to, Loses}
use Rattle.btr_prog.specs.Answers.{Halt, Fault, Unread, Broke, Names, no_part, Breaks, Follows}
use Rattle.btr_prog.proofs.Runs.{steps_of-append, cut_law}
use Rattle.btr_prog.proofs.Lost.{lost_law}
use Rattle.btr_prog.proofs.Follow.{breaks_longer}

module _ {W F S : Type 0} (B : BlockMap W F) where
  -- the marks up to a missing want are a first part
  part_if : (x : Result (List ℕ) F) (ms ns rest : List (Mark W S)) → ms ≡ ns ++ rest → (xs : List (Mark W S)) × (ms ≡ marks_if x ns ++ xs)
  part_if (Ok bytes) ms ns rest e = (rest, e)
  part_if (Err f) ms ns rest e = (ms, refl)

  -- the marks up to the first want that B lacks are the first of all marks
  pub up_to-part : (ms : List (Mark W S)) → (rest : List (Mark W S)) × (ms ≡ up_to B ms ++ rest)
  up_to-part [] = ([], refl)
  up_to-part (Wants w ∷ ms) = let h = up_to-part ms in let p = part_if (B w) ms (up_to B ms) h.0 h.1 in (p.0, ap (λ x. Wants w ∷ x) p.1)
  up_to-part (Does s ∷ ms) = let h = up_to-part ms in (h.0, ap (λ x. Does s ∷ x) h.1)

module _ {W F S A : Type 0} where
  -- where B has of each want C's bytes or none, a place where B's run is broken off is a place of C's
  pub same_place : (part : S → ℕ → Option S) (P : List W → Type 0) (B C : BlockMap W F) (p : Prog W F S A) (done : List S)
      → Each (λ w. IsWithin (B w) (C w)) (needs C p) → Breaks part P (exec B p) done → Breaks part P (exec C p) done
  same_place part P B C p done h b =
      let q = up_to-part B (exec C p).marks in
      let e : (exec B p).marks ++ q.0 ≡ (exec C p).marks = ap (λ (r : Run W F S A). r.marks ++ q.0) (cut_law B C p h) ∙ sym q.1 in
      subst (λ x. Breaks part P (run x (exec C p).ending) done) e (breaks_longer part P (exec B p) q.0 (exec C p).ending done b)

  -- where B has C's bytes or none, a want that could not be read in B's run could not be in C's
  pub unread_place : {U : Type 0} (Is : U → W → Type 0) (part : S → ℕ → Option S) (seen : List W) (B C : BlockMap W F) (p : Prog W F S A)
      (done : List S) (u : U) → Each (λ w. IsWithin (B w) (C w)) (needs C p) → Follows Is part seen (exec B p) done (Err (Unread u))
      → Follows Is part seen (exec C p) done (Err (Unread u))
  unread_place Is part seen B C p done u h f = same_place no_part (λ ws. Names Is u (seen ++ ws)) B C p done h f

  -- where B has C's bytes or none, a call broken off in B's run is one broken off in C's
  pub broke_place : {U : Type 0} (Is : U → W → Type 0) (part : S → ℕ → Option S) (seen : List W) (B C : BlockMap W F) (p : Prog W F S A)
      (done : List S) → Each (λ w. IsWithin (B w) (C w)) (needs C p) → Follows Is part seen (exec B p) done (Err Broke)
      → Follows Is part seen (exec C p) done (Err Broke)
  broke_place Is part seen B C p done h f = same_place part (λ ws. Unit {0}) B C p done h f

  -- the steps of a run that is cut are those before the want that is lost
  lost_steps : (B : BlockMap W F) (long short : Run W F S A) (m : Loses B long short) (done : List S) → done ≡ steps_of short.marks → done ≡ steps_of m.before
  lost_steps B long short m done e = e ∙ (ap steps_of m.marks ∙ (steps_of-append m.before (Wants m.want ∷ []) ∙ append-nil (steps_of m.before)))

  module _ {U : Type 0} (Is : U → W → Type 0) (part : S → ℕ → Option S) (seen : List W) (B C : BlockMap W F) (p : Prog W F S A) (done : List S) where
    -- the answer is one of C's run, or the call stopped at the first want that B lacks
    abbrev Held : Result A (Halt F U) → Type 0
    Held ans = Follows Is part seen (exec C p) done ans ⊎ ((m : Loses B (exec C p) (exec B p)) × (done ≡ steps_of m.before) × (ans ≡ Err (Fault m.fault)))

    -- a value of B's run is a value of C's, since a run that lost a want has none
    held_value : (a : A) → (exec B p ≡ exec C p) ⊎ Loses B (exec C p) (exec B p) → Follows Is part seen (exec B p) done (Ok a) → Held (Ok a)
    held_value a (inl e) f = inl (subst (λ r. Follows Is part seen r done (Ok a)) e f)
    held_value a (inr m) f = let no : Ok a ≡ Err m.fault = sym f.1 ∙ m.ending in cc

    -- a fault that ends B's run ends C's, or is that of the want that B lacks
    held_fault : (x : F) → (exec B p ≡ exec C p) ⊎ Loses B (exec C p) (exec B p) → Follows Is part seen (exec B p) done (Err (Fault x)) → Held (Err (Fault x))
    held_fault x (inl e) f = inl (subst (λ r. Follows Is part seen r done (Err (Fault x))) e f)
    held_fault x (inr m) f =
        let same : Err x ≡ Err m.fault = sym f.1 ∙ m.ending in
        let e : x ≡ m.fault = cc in
        inr (m, lost_steps B (exec C p) (exec B p) m done f.0, ap (λ y. Err (Fault y)) e)

    -- where B has of each want C's bytes or none, an answer of B's run is held to C's
    pub held_law : (ans : Result A (Halt F U)) → Each (λ w. IsWithin (B w) (C w)) (needs C p) → Follows Is part seen (exec B p) done ans → Held ans
    held_law (Ok a) h f = held_value a (lost_law B C p h) f
    held_law (Err (Fault x)) h f = held_fault x (lost_law B C p h) f
    held_law (Err (Unread u)) h f = inl (same_place no_part (λ ws. Names Is u (seen ++ ws)) B C p done h f)
    held_law (Err Broke) h f = inl (same_place part (λ ws. Unit {0}) B C p done h f)
