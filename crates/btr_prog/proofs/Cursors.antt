-- A loop over a cursor: what is past, the next item, and what the cursor answers where it comes to
-- none, of the program that treats the items.
use Rattle.std.proofs.Common.{◌≡◌, ℕ, List, [], ◌∷◌, ◌++◌, Option, None, Result, Err, refl, ap, ◌∙◌, sym, subst, append-nil}
use Rattle.std.specs.Option.{option_to_list}
use Rattle.btr_prog.specs.Prog.{Mark, Wants, Does, Run, run, first, prepend, steps_of, wants_of, want_marks}
use Rattle.btr_prog.specs.Thread.{end_of}
use Rattle.btr_prog.specs.Answers.{Halt, Fault, Unread, Broke, Names, Breaks, Follows, no_part}
use Rattle.btr_prog.specs.Goes.{ThreadsTo}
use Rattle.btr_prog.proofs.Tries.{steps_of-marks, wants_of-marks}
use Rattle.btr_prog.proofs.SoFars.{SoFar, so_far_more, so_far_ends, Answers}

-- where a list and what may be left are nothing, the list is nothing
nothing_left : {S : Type 0} (xs : List S) (o : Option S) → [] ≡ xs ++ option_to_list o → [] ≡ xs
nothing_left [] o e = refl
nothing_left (x ∷ xs) o e = cc

module _ {W F S A T St R : Type 0} (Body : St → S → Run W F T (Result St R) → Type 0) (fin : St → A → R) where
  -- the runs that treat the items of a run
  abbrev pub Treats : St → Run W F S A → Run W F T R → Type 0
  Treats st r = ThreadsTo Body fin st r.marks r.ending

  -- wants before the items stand before the run that treats them
  past_in : (ws : List W) (st : St) (r : Run W F S A) (q : Run W F T R) → Treats st r q → Treats st (prepend (want_marks ws) r) (prepend (want_marks ws) q)
  past_in [] st r q h = h
  past_in (w ∷ ws) st r q h = (prepend (want_marks ws) q, refl, past_in ws st r q h)

  -- the cursor read on: some wants are past
  pub so_far_past : (Whole : Run W F T R → Type 0) (seen ws : List W) (done : List T) (st : St) (r r' : Run W F S A) → r ≡ prepend (want_marks ws) r'
      → SoFar Whole (Treats st r) seen done → SoFar Whole (Treats st r') (seen ++ ws) done
  so_far_past Whole seen ws done st r r' e s =
      let t : SoFar Whole (Treats st (prepend (want_marks ws) r')) seen done = subst (λ x. SoFar Whole (Treats st x) seen done) e s in
      let u = so_far_more Whole (Treats st (prepend (want_marks ws) r')) (Treats st r') seen done (want_marks ws) (λ q h. past_in ws st r' q h) t in
      subst (λ (x : List W). SoFar Whole (Treats st r') (seen ++ x) done) (wants_of-marks T ws)
      (subst (λ (x : List T). SoFar Whole (Treats st r') (seen ++ wants_of (want_marks {S = T} ws)) x)
      (ap (λ (x : List T). done ++ x) (steps_of-marks T ws) ∙ append-nil done) u)

  module _ (some : (st : St) (r : Run W F S A) → (q : Run W F T R) × Treats st r q) where
    -- marks without a step before others
    stops_at : (part : T → ℕ → Option T) (P : List W → Type 0) (st : St) (e : Result A F) (before behind : List (Mark W S)) → [] ≡ steps_of before
        → P (wants_of before) → (q : Run W F T R) × ThreadsTo Body fin st (before ++ behind) e q × Breaks part P q []
    stops_at part P st e [] behind n h =
        let g = some st (run behind e) in
        (g.0, g.1, record { before = []; behind = g.0.marks; left = None; place = refl; steps = refl; leaves = tt; holds = h })
    stops_at part P st e (Wants w ∷ before) behind n h =
        let g = stops_at part (λ ws. P (w ∷ ws)) st e before behind n h in
        let b = g.2 in (
          first (Wants w) g.0,
          (g.0, refl, g.1),
          record {
            before = Wants w ∷ b.before;
            behind = b.behind;
            left = b.left;
            place = ap (λ x. Wants w ∷ x) b.place;
            steps = b.steps;
            leaves = b.leaves;
            holds = b.holds;
          },
        )
    stops_at part P st e (Does s ∷ before) behind n h = cc

    -- where a cursor was broken off before any item, so was some run that treats its items
    breaks_as : (part0 : S → ℕ → Option S) (part : T → ℕ → Option T) (P : List W → Type 0) (st : St) (r : Run W F S A) → Breaks part0 P r []
        → (q : Run W F T R) × Treats st r q × Breaks part P q []
    breaks_as part0 part P st r b =
        subst (λ ms. (q : Run W F T R) × ThreadsTo Body fin st ms r.ending q × Breaks part P q []) (sym b.place)
        (stops_at part P st r.ending b.before b.behind (nothing_left (steps_of b.before) b.left b.steps) b.holds)

    -- where a cursor ends with a fault before any item, so does some run that treats its items
    ends_as : (st : St) (f : F) (ms : List (Mark W S)) (e : Result A F) → [] ≡ steps_of ms → e ≡ Err f → (q : Run W F T R)
        × ThreadsTo Body fin st ms e q × ([] ≡ steps_of q.marks) × (q.ending ≡ Err f)
    ends_as st f [] e n h = (
      end_of fin st e,
      refl,
      subst (λ x. [] ≡ steps_of (end_of {W = W} {F = F} {T = T} fin st x).marks) (sym h) refl,
      subst (λ x. (end_of {W = W} {F = F} {T = T} fin st x).ending ≡ Err f) (sym h) refl,
    )
    ends_as st f (Wants w ∷ ms) e n h = let g = ends_as st f ms e n h in (first (Wants w) g.0, (g.0, refl, g.1), g.2, g.3)
    ends_as st f (Does s ∷ ms) e n h = cc

    -- the cursor came to no item: what it answers is answered of the treated program
    pub cursor_halts : {U : Type 0} (Is : U → W → Type 0) (part : T → ℕ → Option T) (seen : List W) (st : St) (r : Run W F S A) (h : Halt F U)
        → Follows Is no_part seen r [] (Err h) → (q : Run W F T R) × Treats st r q × Follows Is part seen q [] (Err h)
    cursor_halts Is part seen st r (Fault f) h = let g = ends_as st f r.marks r.ending h.0 h.1 in (g.0, g.1, (g.2, g.3))
    cursor_halts Is part seen st r (Unread u) h = breaks_as no_part no_part (λ ws. Names Is u (seen ++ ws)) st r h
    cursor_halts Is part seen st r Broke h = breaks_as no_part part (λ ws. Unit {0}) st r h

    -- a loop ends with the answer of a cursor that came to no item
    pub so_far_cursor : {U : Type 0} (Is : U → W → Type 0) (part : T → ℕ → Option T) (Whole : Run W F T R → Type 0) (seen : List W) (done : List T)
        (st : St) (r : Run W F S A) (h : Halt F U) → Follows Is no_part seen r [] (Err h) → SoFar Whole (Treats st r) seen done
        → Answers Is part Whole done (Err h)
    so_far_cursor Is part Whole seen done st r h f s =
        subst (λ (x : List T). Answers Is part Whole x (Err h)) (append-nil done)
        (so_far_ends Is part Whole (Treats st r) seen done [] (Err h) s (cursor_halts Is part seen st r h f))
