-- The first want that a map does not give.
use Rattle.std.proofs.Common.{◌≡◌, ◌⊎◌, inl, inr, ℕ, List, [], ◌∷◌, Result, Ok, Err, refl, sym, ap, ◌∙◌, subst}
use Rattle.btr_prog.specs.Prog.{BlockMap, Prog, Mark, Wants, Does, Run, run, exec, needs, wants_of}
use Rattle.btr_prog.specs.Maps.{Each, IsWithin, IsWhole, marks_if, ending_if, up_to, first_fault, cut, Loses}
use Rattle.btr_prog.proofs.Runs.{cut_law, whole_law}

module _ {W F S A : Type 0} (B : BlockMap W F) where
  -- a run has each want from B, or is cut
  abbrev Missing : List (Mark W S) → Result A F → Type 0
  Missing ms e = Each (λ w. IsWhole (B w)) (wants_of ms) ⊎ Loses {A = A} {C = A} B (run ms e) (cut B (run ms e))

  -- a want before: it is the first that is lost, or the others decide
  missing_want : (w : W) (x : Result (List ℕ) F) (ms : List (Mark W S)) (e : Result A F) → B w ≡ x → Missing ms e → Missing (Wants w ∷ ms) e
  missing_want w (Err f) ms e i h = inr record {
    want = w;
    fault = f;
    before = [];
    behind = ms;
    place = refl;
    whole = tt;
    lost = i;
    marks = ap (λ x. Wants w ∷ marks_if x (up_to B ms)) i;
    ending = ap (λ x. ending_if x (first_fault B ms e)) i;
  }
  missing_want w (Ok bytes) ms e i (inl h) = inl (subst IsWhole (sym i) tt, h)
  missing_want w (Ok bytes) ms e i (inr h) = inr record {
    want = h.want;
    fault = h.fault;
    before = Wants w ∷ h.before;
    behind = h.behind;
    place = ap (λ x. Wants w ∷ x) h.place;
    whole = (subst IsWhole (sym i) tt, h.whole);
    lost = h.lost;
    marks = ap (λ x. Wants w ∷ marks_if x (up_to B ms)) i ∙ ap (λ x. Wants w ∷ x) h.marks;
    ending = ap (λ x. ending_if x (first_fault B ms e)) i ∙ h.ending;
  }

  -- a step before changes nothing of what is lost
  missing_step : (s : S) (ms : List (Mark W S)) (e : Result A F) → Missing ms e → Missing (Does s ∷ ms) e
  missing_step s ms e (inl h) = inl h
  missing_step s ms e (inr h) = inr record {
    want = h.want;
    fault = h.fault;
    before = Does s ∷ h.before;
    behind = h.behind;
    place = ap (λ x. Does s ∷ x) h.place;
    whole = h.whole;
    lost = h.lost;
    marks = ap (λ x. Does s ∷ x) h.marks;
    ending = h.ending;
  }

  -- each run has all its wants from B, or is cut at the first that B lacks
  pub missing : (ms : List (Mark W S)) (e : Result A F) → Missing ms e
  missing [] e = inl tt
  missing (Wants w ∷ ms) e = missing_want w (B w) ms e refl (missing ms e)
  missing (Does s ∷ ms) e = missing_step s ms e (missing ms e)

  -- a run of B's is C's where no want is lost, and else is C's up to the lost one
  lost_or_whole : (C : BlockMap W F) (p : Prog W F S A) → Each (λ w. IsWithin (B w) (C w)) (needs C p) → Missing (exec C p).marks (exec C p).ending
      → (exec B p ≡ exec C p) ⊎ Loses B (exec C p) (exec B p)
  lost_or_whole C p h (inl g) = inl (whole_law B C p h g)
  lost_or_whole C p h (inr g) = inr (subst (λ (r : Run W F S A). Loses B (exec C p) r) (sym (cut_law B C p h)) g)

  -- where B has of each want C's bytes or none, its run is C's or stops at the first want that it lacks
  pub lost_law : (C : BlockMap W F) (p : Prog W F S A) → Each (λ w. IsWithin (B w) (C w)) (needs C p) → (exec B p ≡ exec C p) ⊎ Loses B (exec C p) (exec B p)
  lost_law C p h = lost_or_whole C p h (missing (exec C p).marks (exec C p).ending)
