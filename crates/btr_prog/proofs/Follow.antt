-- How the answers of calls fit together.
use Rattle.std.proofs.Common.{◌≡◌, inl, inr, ℕ, List, [], ◌∷◌, ◌++◌, Option, Some, None, Result, Ok, Err, refl, sym, ap, ◌∙◌, subst, append_assoc}
use Rattle.std.proofs.Common.{append-nil}
use Rattle.std.specs.Option.{option_to_list}
use Rattle.btr_prog.specs.Prog.{BlockMap, Prog, Mark, Wants, Does, Run, run, first, prepend, given, exec, after, and_then, steps_of, wants_of}
use Rattle.btr_prog.specs.Answers.{Halt, Fault, Unread, Broke, Names, Leaves, no_part, Breaks, Follows}
use Rattle.btr_prog.proofs.Runs.{steps_of-append, wants_of-append}

module _ {W U : Type 0} (Is : U → W → Type 0) (u : U) where
  -- a want named among the first is named among all
  pub names_left : (vs ws : List W) → Names Is u vs → Names Is u (vs ++ ws)
  names_left [] ws h = absurd h
  names_left (v ∷ vs) ws (inl e) = inl e
  names_left (v ∷ vs) ws (inr h) = inr (names_left vs ws h)

  -- a want named among the last is named among all
  pub names_right : (vs ws : List W) → Names Is u ws → Names Is u (vs ++ ws)
  names_right [] ws h = h
  names_right (v ∷ vs) ws h = inr (names_right vs ws h)

-- what is left of a step stays so where more marks come behind
pub leaves_more : {W S : Type 0} (part : S → ℕ → Option S) (left : Option S) (ms ns : List (Mark W S)) → Leaves part left ms → Leaves part left (ms ++ ns)
leaves_more part None ms ns h = tt
leaves_more part (Some t) [] ns h = absurd h
leaves_more part (Some t) (Wants w ∷ ms) ns h = absurd h
leaves_more part (Some t) (Does s ∷ ms) ns h = h

module _ {W F S : Type 0} (part : S → ℕ → Option S) where
  -- a run that is broken off behind some marks
  pub breaks_behind : {A : Type 0} (P : List W → Type 0) (ms : List (Mark W S)) (r : Run W F S A) (done : List S)
      → Breaks part (λ ws. P (wants_of ms ++ ws)) r done → Breaks part P (prepend ms r) (steps_of ms ++ done)
  breaks_behind P ms r done b = record {
    before = ms ++ b.before;
    behind = b.behind;
    left = b.left;
    place = ap (λ x. ms ++ x) b.place ∙ sym (append_assoc ms b.before b.behind);
    steps = ap (λ x. steps_of ms ++ x) b.steps ∙ (sym (append_assoc (steps_of ms) (steps_of b.before) (option_to_list b.left))
        ∙ ap (λ x. x ++ option_to_list b.left) (sym (steps_of-append ms b.before)));
    leaves = b.leaves;
    holds = subst P (sym (wants_of-append ms b.before)) b.holds;
  }

  -- what holds of the wants before may be weakened
  pub breaks_weak : {A : Type 0} (P Q : List W → Type 0) (r : Run W F S A) (done : List S) → ((ws : List W) → P ws → Q ws) → Breaks part P r done
      → Breaks part Q r done
  breaks_weak P Q r done f b = record {
    before = b.before;
    behind = b.behind;
    left = b.left;
    place = b.place;
    steps = b.steps;
    leaves = b.leaves;
    holds = f (wants_of b.before) b.holds;
  }

  -- a run that is broken off, also where more would have come
  pub breaks_longer : {A C : Type 0} (P : List W → Type 0) (r : Run W F S A) (more : List (Mark W S)) (e : Result C F) (done : List S)
      → Breaks part P r done → Breaks part P (run (r.marks ++ more) e) done
  breaks_longer P r more e done b = record {
    before = b.before;
    behind = b.behind ++ more;
    left = b.left;
    place = ap (λ x. x ++ more) b.place ∙ append_assoc b.before b.behind more;
    steps = b.steps;
    leaves = leaves_more part b.left b.behind more b.leaves;
    holds = b.holds;
  }

  -- a run that is broken off is so too where another was to follow by its value
  pub breaks_then : {A C : Type 0} (P : List W → Type 0) (ms : List (Mark W S)) (e : Result A F) (k : A → Run W F S C) (done : List S)
      → Breaks part P (run ms e) done → Breaks part P (after ms e k) done
  breaks_then P ms (Ok a) k done b = breaks_longer P (run ms (Ok a)) (k a).marks (k a).ending done b
  breaks_then P ms (Err f) k done b = record {
    before = b.before;
    behind = b.behind;
    left = b.left;
    place = b.place;
    steps = b.steps;
    leaves = b.leaves;
    holds = b.holds;
  }

  -- a run that is broken off before it did anything
  pub breaks_here : {A : Type 0} (P : List W → Type 0) (r : Run W F S A) → P [] → Breaks part P r []
  breaks_here P r h = record { before = []; behind = r.marks; left = None; place = refl; steps = refl; leaves = tt; holds = h }

module _ {W F S U : Type 0} (Is : U → W → Type 0) (part : S → ℕ → Option S) where
  -- an answer of a run, behind some marks
  pub follows_behind : {A : Type 0} (seen : List W) (ms : List (Mark W S)) (r : Run W F S A) (done : List S) (ans : Result A (Halt F U))
      → Follows Is part (seen ++ wants_of ms) r done ans → Follows Is part seen (prepend ms r) (steps_of ms ++ done) ans
  follows_behind seen ms r done (Ok a) h = (ap (λ x. steps_of ms ++ x) h.0 ∙ sym (steps_of-append ms r.marks), h.1)
  follows_behind seen ms r done (Err (Fault f)) h = (ap (λ x. steps_of ms ++ x) h.0 ∙ sym (steps_of-append ms r.marks), h.1)
  follows_behind seen ms r done (Err (Unread u)) h =
      breaks_behind no_part (λ ws. Names Is u (seen ++ ws)) ms r done
      (breaks_weak no_part _ (λ ws. Names Is u (seen ++ (wants_of ms ++ ws))) r done (λ ws g. subst (Names Is u) (append_assoc seen (wants_of ms) ws) g) h)
  follows_behind seen ms r done (Err Broke) h = breaks_behind part (λ ws. Unit {0}) ms r done h

  -- a call that came to a value, and then another: what that answers they both answer
  pub follows_then : {A C : Type 0} (seen : List W) (r : Run W F S A) (a : A) (k : A → Run W F S C) (done more : List S) (ans : Result C (Halt F U))
      → Follows Is part seen r done (Ok a) → Follows Is part (seen ++ wants_of r.marks) (k a) more ans → Follows Is part seen (and_then r k) (done ++ more) ans
  follows_then seen r a k done more ans h g =
      subst (λ x. Follows Is part seen (after r.marks x k) (done ++ more) ans) (sym h.1)
      (subst (λ x. Follows Is part seen (prepend r.marks (k a)) (x ++ more) ans) (sym h.0) (follows_behind seen r.marks (k a) more ans g))

  -- a call that came to no value, and then nothing: what it answers they both answer
  pub follows_halt : {A C : Type 0} (seen : List W) (r : Run W F S A) (k : A → Run W F S C) (done : List S) (h : Halt F U)
      → Follows Is part seen r done (Err h) → Follows Is part seen (and_then r k) done (Err h)
  follows_halt seen r k done (Fault f) h = subst (λ x. Follows Is part seen (after r.marks x k) done (Err (Fault f))) (sym h.1) (h.0, refl)
  follows_halt seen r k done (Unread u) h = breaks_then no_part (λ ws. Names Is u (seen ++ ws)) r.marks r.ending k done h
  follows_halt seen r k done Broke h = breaks_then part (λ ws. Unit {0}) r.marks r.ending k done h

  -- a value that is only put into another form
  pub follows_value : {A C : Type 0} (seen : List W) (f : A → C) (r : Run W F S A) (a : A) (done : List S) → Follows Is part seen r done (Ok a)
      → Follows Is part seen (and_then r (λ x. run [] (Ok (f x)))) done (Ok (f a))
  follows_value seen f r a done h = subst (λ (x : Result _ F). Follows Is part seen (after r.marks x (λ y. run [] (Ok (f y)))) done (Ok (f a)))
      (sym h.1) (h.0 ∙ ap steps_of (sym (append-nil r.marks)), refl)

  -- what is answered stays so where more was wanted before
  pub follows_seen : {A : Type 0} (earlier seen : List W) (r : Run W F S A) (done : List S) (ans : Result A (Halt F U))
      → Follows Is part seen r done ans → Follows Is part (earlier ++ seen) r done ans
  follows_seen earlier seen r done (Ok a) h = h
  follows_seen earlier seen r done (Err (Fault f)) h = h
  follows_seen earlier seen r done (Err (Unread u)) h = breaks_weak no_part _ _ r done
      (λ ws g. subst (Names Is u) (sym (append_assoc earlier seen ws)) (names_right Is u earlier (seen ++ ws) g)) h
  follows_seen earlier seen r done (Err Broke) h = h

  -- a call of its own, whatever was wanted before it
  pub follows_alone : {A : Type 0} (earlier : List W) (r : Run W F S A) (done : List S) (ans : Result A (Halt F U)) → Follows Is part [] r done ans
      → Follows Is part earlier r done ans
  follows_alone earlier r done ans h = subst (λ (x : List W). Follows Is part x r done ans) (append-nil earlier) (follows_seen earlier [] r done ans h)

  -- a call may be broken off before it does anything
  pub broke_here : {A : Type 0} (seen : List W) (r : Run W F S A) → Follows Is part seen r [] (Err Broke)
  broke_here seen r = breaks_here part (λ ws. Unit {0}) r tt

  -- a call may fail to read again a block that was wanted before, and then it does nothing
  pub unread_here : {A : Type 0} (seen : List W) (u : U) (r : Run W F S A) → Names Is u seen → Follows Is part seen r [] (Err (Unread u))
  unread_here seen u r h = breaks_here no_part (λ ws. Names Is u (seen ++ ws)) r (names_left Is u seen [] h)

  -- what is answered after a want's bytes is answered of the want and what follows
  pub want_came : {A : Type 0} (seen : List W) (B : BlockMap W F) (w : W) (bytes : List ℕ) (k : List ℕ → Prog W F S A) (done : List S)
      (ans : Result A (Halt F U)) → B w ≡ Ok bytes → Follows Is part (seen ++ (w ∷ [])) (exec B (k bytes)) done ans
      → Follows Is part seen (first (Wants w) (given (B w) (λ bytes. exec B (k bytes)))) done ans
  want_came seen B w bytes k done ans e h = subst (λ x. Follows Is part seen (first (Wants w) (given x (λ bytes. exec B (k bytes)))) done ans) (sym e)
      (follows_behind seen (Wants w ∷ []) (exec B (k bytes)) done ans h)

  -- a want that has a fault ends the call with it, with no step done
  pub want_faults : {A : Type 0} (seen : List W) (B : BlockMap W F) (w : W) (f : F) (k : List ℕ → Prog W F S A) → B w ≡ Err f
      → Follows Is part seen (first (Wants w) (given (B w) (λ bytes. exec B (k bytes)))) [] (Err (Fault f))
  want_faults seen B w f k e = subst (λ x. Follows Is part seen (first (Wants w) (given x (λ bytes. exec B (k bytes)))) [] (Err (Fault f))) (sym e) (refl, refl)

  -- a want that could not be read ends the call, with no step done
  pub want_unread : {A : Type 0} (seen : List W) (u : U) (w : W) (r : Run W F S A) → Is u w → Follows Is part seen (first (Wants w) r) [] (Err (Unread u))
  want_unread seen u w r h = record {
    before = Wants w ∷ [];
    behind = r.marks;
    left = None;
    place = refl;
    steps = refl;
    leaves = tt;
    holds = names_right Is u seen (w ∷ []) (inl h);
  }

  -- a step that was done, and what came then
  pub step_done : {A : Type 0} (seen : List W) (s : S) (r : Run W F S A) (done : List S) (ans : Result A (Halt F U)) → Follows Is part seen r done ans
      → Follows Is part seen (first (Does s) r) (s ∷ done) ans
  step_done seen s r done ans h = follows_behind seen (Does s ∷ []) r done ans (subst (λ x. Follows Is part x r done ans) (sym (append-nil seen)) h)

  -- a step that was broken off leaves its part, and nothing else
  pub step_broke : {A : Type 0} (seen : List W) (s t : S) (n : ℕ) (r : Run W F S A) → part s n ≡ Some t
      → Follows Is part seen (first (Does s) r) (t ∷ []) (Err Broke)
  step_broke seen s t n r h = record { before = []; behind = Does s ∷ r.marks; left = Some t; place = refl; steps = refl; leaves = (n, h); holds = tt }

module _ {W U : Type 0} (Is Less : U → W → Type 0) (weaker : (u : U) (w : W) → Is u w → Less u w) where
  -- a want that is named is named by any weaker word
  names_as : (u : U) (ws : List W) → Names Is u ws → Names Less u ws
  names_as u [] h = absurd h
  names_as u (w ∷ ws) (inl h) = inl (weaker u w h)
  names_as u (w ∷ ws) (inr h) = inr (names_as u ws h)

  -- less may be said of the want that could not be read
  pub follows_as : {F S A : Type 0} (part : S → ℕ → Option S) (seen : List W) (r : Run W F S A) (done : List S) (ans : Result A (Halt F U))
      → Follows Is part seen r done ans → Follows Less part seen r done ans
  follows_as part seen r done (Ok a) h = h
  follows_as part seen r done (Err (Fault f)) h = h
  follows_as part seen r done (Err (Unread u)) h = breaks_weak no_part (λ ws. Names Is u (seen ++ ws)) (λ ws. Names Less u (seen ++ ws)) r done
      (λ ws n. names_as u (seen ++ ws) n) h
  follows_as part seen r done (Err Broke) h = h
