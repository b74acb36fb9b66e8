-- Programs whose wants go by other names.
use Rattle.std.proofs.Common.{◌≡◌, inl, inr, ℕ, List, [], ◌∷◌, ◌++◌, map, Option, Some, None, Result, Ok, Err, refl, sym, ap, ◌∙◌}
use Rattle.std.specs.Option.{option_to_list}
use Rattle.btr_prog.specs.Prog.{BlockMap, Prog, Return, Stop, Need, Emit, Mark, Wants, Does, Run, first, given, exec, steps_of, wants_of}
use Rattle.btr_prog.specs.Maps.{Each}
use Rattle.btr_prog.specs.Answers.{Halt, Fault, Unread, Broke, Names, Leaves, no_part, Breaks, Follows}
use Rattle.btr_prog.specs.Goes.{goes_given, GoesTo}
use Rattle.btr_prog.specs.Stages.{renamed, renamed_marks, renamed_run}

module _ {V W S : Type 0} (f : V → W) where
  -- two lists of marks, one behind the other, are renamed each by itself
  renamed-append : (ms ns : List (Mark V S)) → renamed_marks f (ms ++ ns) ≡ renamed_marks f ms ++ renamed_marks f ns
  renamed-append [] ns = refl
  renamed-append (Wants v ∷ ms) ns = ap (λ x. Wants (f v) ∷ x) (renamed-append ms ns)
  renamed-append (Does s ∷ ms) ns = ap (λ x. Does s ∷ x) (renamed-append ms ns)

  -- the steps stay the same
  steps_of-renamed : (ms : List (Mark V S)) → steps_of (renamed_marks f ms) ≡ steps_of ms
  steps_of-renamed [] = refl
  steps_of-renamed (Wants v ∷ ms) = steps_of-renamed ms
  steps_of-renamed (Does s ∷ ms) = ap (λ x. s ∷ x) (steps_of-renamed ms)

  -- what may be left of a step stays so where the wants are renamed
  leaves_renamed : (part : S → ℕ → Option S) (left : Option S) (ms : List (Mark V S)) → Leaves part left ms → Leaves part left (renamed_marks f ms)
  leaves_renamed part None ms h = tt
  leaves_renamed part (Some t) [] h = absurd h
  leaves_renamed part (Some t) (Wants v ∷ ms) h = absurd h
  leaves_renamed part (Some t) (Does s ∷ ms) h = h

  -- each want goes by its other name
  pub wants_of-renamed : (ms : List (Mark V S)) → wants_of (renamed_marks f ms) ≡ map f (wants_of ms)
  wants_of-renamed [] = refl
  wants_of-renamed (Wants v ∷ ms) = ap (λ x. f v ∷ x) (wants_of-renamed ms)
  wants_of-renamed (Does s ∷ ms) = wants_of-renamed ms

  -- what holds of each want, and which want could not be read
  pub each_renamed : (P : W → Type 0) (ms : List (Mark V S)) → Each (λ v. P (f v)) (wants_of ms) → Each P (wants_of (renamed_marks f ms))
  each_renamed P [] h = tt
  each_renamed P (Wants v ∷ ms) h = (h.0, each_renamed P ms h.1)
  each_renamed P (Does s ∷ ms) h = each_renamed P ms h

  -- what holds of each renamed want holds of each want by its other name
  pub each_original : (P : W → Type 0) (ms : List (Mark V S)) → Each P (wants_of (renamed_marks f ms)) → Each (λ v. P (f v)) (wants_of ms)
  each_original P [] h = tt
  each_original P (Wants v ∷ ms) h = (h.0, each_original P ms h.1)
  each_original P (Does s ∷ ms) h = each_original P ms h

  -- a want that is named is named by its other name
  names_renamed : {U : Type 0} (Is : U → W → Type 0) (u : U) (ms : List (Mark V S)) → Names (λ t v. Is t (f v)) u (wants_of ms)
      → Names Is u (wants_of (renamed_marks f ms))
  names_renamed Is u [] h = absurd h
  names_renamed Is u (Wants v ∷ ms) (inl e) = inl e
  names_renamed Is u (Wants v ∷ ms) (inr h) = inr (names_renamed Is u ms h)
  names_renamed Is u (Does s ∷ ms) h = names_renamed Is u ms h

module _ {V W F S A : Type 0} (f : V → W) where
  -- a run that is broken off is so where its wants go by other names
  breaks_renamed : (part : S → ℕ → Option S) (P : List V → Type 0) (Q : List W → Type 0) (r : Run V F S A) (done : List S)
      → ((ms : List (Mark V S)) → P (wants_of ms) → Q (wants_of (renamed_marks f ms))) → Breaks part P r done → Breaks part Q (renamed_run f r) done
  breaks_renamed part P Q r done g b = record {
    before = renamed_marks f b.before;
    behind = renamed_marks f b.behind;
    left = b.left;
    place = ap (renamed_marks f) b.place ∙ renamed-append f b.before b.behind;
    steps = b.steps ∙ ap (λ x. x ++ option_to_list b.left) (sym (steps_of-renamed f b.before));
    leaves = leaves_renamed f part b.left b.behind b.leaves;
    holds = g b.before b.holds;
  }

  -- what is answered of a run holds where its wants go by other names
  pub follows_renamed : {U : Type 0} (Is : U → W → Type 0) (part : S → ℕ → Option S) (r : Run V F S A) (done : List S) (ans : Result A (Halt F U))
      → Follows (λ u v. Is u (f v)) part [] r done ans → Follows Is part [] (renamed_run f r) done ans
  follows_renamed Is part r done (Ok a) h = (h.0 ∙ sym (steps_of-renamed f r.marks), h.1)
  follows_renamed Is part r done (Err (Fault x)) h = (h.0 ∙ sym (steps_of-renamed f r.marks), h.1)
  follows_renamed Is part r done (Err (Unread u)) h = breaks_renamed no_part (λ ws. Names (λ t v. Is t (f v)) u ws) (λ ws. Names Is u ws) r done
      (λ ms n. names_renamed f Is u ms n) h
  follows_renamed Is part r done (Err Broke) h = breaks_renamed part (λ ws. Unit {0}) (λ ws. Unit {0}) r done (λ ms n. tt) h

  -- of one want: the run of what follows it, renamed
  given_renamed : (B : BlockMap W F) (x : Result (List ℕ) F) (k : List ℕ → Prog V F S A)
      → ((bytes : List ℕ) → exec B (renamed f (k bytes)) ≡ renamed_run f (exec (λ v. B (f v)) (k bytes)))
      → given x (λ bytes. exec B (renamed f (k bytes))) ≡ renamed_run f (given x (λ bytes. exec (λ v. B (f v)) (k bytes)))
  given_renamed B (Ok bytes) k ih = ih bytes
  given_renamed B (Err x) k ih = refl

  -- the run of a program whose wants go by other names is its run with renamed wants
  pub exec-renamed : (B : BlockMap W F) (p : Prog V F S A) → exec B (renamed f p) ≡ renamed_run f (exec (λ v. B (f v)) p)
  exec-renamed B (Return a) = refl
  exec-renamed B (Stop x) = refl
  exec-renamed B (Need v k) = ap (first (Wants (f v))) (given_renamed B (B (f v)) k (λ bytes. exec-renamed B (k bytes)))
  exec-renamed B (Emit s p) = ap (first (Does s)) (exec-renamed B p)

  -- of one want: a run of what follows it is one of the renamed program
  given_goes : {I : Type 0} (Bs : I → BlockMap W F) (x : Result (List ℕ) F) (k : List ℕ → Prog V F S A) (q : Run V F S A)
      → ((bytes : List ℕ) (t : Run V F S A) → GoesTo (λ i v. Bs i (f v)) (k bytes) t → GoesTo Bs (renamed f (k bytes)) (renamed_run f t))
      → goes_given x (λ bytes. GoesTo (λ i v. Bs i (f v)) (k bytes)) q → goes_given x (λ bytes. GoesTo Bs (renamed f (k bytes))) (renamed_run f q)
  given_goes Bs (Ok bytes) k q ih h = ih bytes q h
  given_goes Bs (Err x) k q ih h = ap (renamed_run f) h

  -- a run of a program is, renamed, one of the renamed program
  pub goes_renamed : {I : Type 0} (Bs : I → BlockMap W F) (p : Prog V F S A) (r : Run V F S A) → GoesTo (λ i v. Bs i (f v)) p r
      → GoesTo Bs (renamed f p) (renamed_run f r)
  goes_renamed Bs (Return a) r h = ap (renamed_run f) h
  goes_renamed Bs (Stop x) r h = ap (renamed_run f) h
  goes_renamed Bs (Need v k) r h = (
    h.0,
    renamed_run f h.1,
    ap (renamed_run f) h.2,
    given_goes Bs (Bs h.0 (f v)) k h.1
        (λ bytes t g. goes_renamed Bs (k bytes) t g) h.3,
  )
  goes_renamed Bs (Emit s p) r h = (renamed_run f h.0, ap (renamed_run f) h.1, goes_renamed Bs p h.0 h.2)
