-- A program without steps, as a part of one with steps.
use Rattle.std.proofs.Common.{◌≡◌, ℕ, List, [], ◌∷◌, ◌++◌, Option, None, Result, Ok, Err, refl, sym, ap, ◌∙◌, subst, append-nil}
use Rattle.btr_prog.specs.Prog.{BlockMap, Prog, Return, Stop, Need, Emit, Mark, Wants, Does, Run, first, given, exec, steps_of, wants_of}
use Rattle.btr_prog.specs.Answers.{Halt, Fault, Unread, Broke, Names, Breaks, Follows, no_part}
use Rattle.btr_prog.specs.Goes.{goes_given, GoesTo, Goes}
use Rattle.btr_prog.specs.Quiet.{quiet, quiet_marks, quiet_run}

-- a program without steps wants the same as a part
wants_of-quiet : {W : Type 0} (S : Type 0) (ms : List (Mark W ⊥)) → wants_of (quiet_marks {S = S} ms) ≡ wants_of ms
wants_of-quiet S [] = refl
wants_of-quiet S (Wants w ∷ ms) = ap (λ x. w ∷ x) (wants_of-quiet S ms)
wants_of-quiet S (Does s ∷ ms) = absurd s

module _ {W S : Type 0} where
  -- the marks of a program without steps have none as a part
  no_steps : (ms : List (Mark W ⊥)) → [] ≡ steps_of (quiet_marks {S = S} ms)
  no_steps [] = refl
  no_steps (Wants w ∷ ms) = no_steps ms
  no_steps (Does s ∷ ms) = absurd s

  -- two lists of marks without steps, one behind the other, as those of a part
  quiet-append : (ms ns : List (Mark W ⊥)) → quiet_marks {S = S} (ms ++ ns) ≡ quiet_marks ms ++ quiet_marks ns
  quiet-append [] ns = refl
  quiet-append (Wants w ∷ ms) ns = ap (λ x. Wants w ∷ x) (quiet-append ms ns)
  quiet-append (Does s ∷ ms) ns = absurd s

module _ {W F S : Type 0} where
  -- of one want: what follows it has the same run as a part
  given_quiet : {A : Type 0} (B : BlockMap W F) (x : Result (List ℕ) F) (k : List ℕ → Prog W F ⊥ A)
      → ((b : List ℕ) → exec B (quiet {S = S} (k b)) ≡ quiet_run (exec B (k b))) → given x (λ b. exec B (quiet {S = S} (k b)))
      ≡ quiet_run (given x (λ b. exec B (k b)))
  given_quiet B (Ok b) k h = h b
  given_quiet B (Err f) k h = refl

  -- the run of a program without steps, as a part, is its own
  pub exec-quiet : {A : Type 0} (B : BlockMap W F) (p : Prog W F ⊥ A) → exec B (quiet {S = S} p) ≡ quiet_run (exec B p)
  exec-quiet B (Return a) = refl
  exec-quiet B (Stop f) = refl
  exec-quiet B (Need w k) = ap (first (Wants w)) (given_quiet B (B w) k (λ b. exec-quiet B (k b)))
  exec-quiet B (Emit s p) = absurd s

  -- a run without steps that is broken off is so as a part
  quiet_breaks : {A : Type 0} (part : S → ℕ → Option S) (P : List W → Type 0) (part0 : ⊥ → ℕ → Option ⊥) (r : Run W F ⊥ A) (done : List ⊥)
      → Breaks part0 P r done → Breaks part P (quiet_run r) []
  quiet_breaks part P part0 r done b = record {
    before = quiet_marks b.before;
    behind = quiet_marks b.behind;
    left = None;
    place = ap quiet_marks b.place ∙ quiet-append b.before b.behind;
    steps = no_steps b.before ∙ sym (append-nil (steps_of (quiet_marks b.before)));
    leaves = tt;
    holds = subst P (sym (wants_of-quiet S b.before)) b.holds;
  }

  -- what is answered of a run without steps is answered of it as a part
  pub quiet_follows : {A U : Type 0} (Is : U → W → Type 0) (part : S → ℕ → Option S) (seen : List W) (r : Run W F ⊥ A) (done : List ⊥)
      (ans : Result A (Halt F U)) → Follows Is no_part seen r done ans → Follows Is part seen (quiet_run r) [] ans
  quiet_follows Is part seen r done (Ok a) h = (no_steps r.marks, h.1)
  quiet_follows Is part seen r done (Err (Fault f)) h = (no_steps r.marks, h.1)
  quiet_follows Is part seen r done (Err (Unread u)) h = quiet_breaks no_part (λ ws. Names Is u (seen ++ ws)) no_part r done h
  quiet_follows Is part seen r done (Err Broke) h = quiet_breaks part (λ ws. Unit {0}) no_part r done h

  -- what is answered of a program without steps is answered of it as a part
  pub follows_quiet : {A U : Type 0} (Is : U → W → Type 0) (part : S → ℕ → Option S) (seen : List W) (B : BlockMap W F) (p : Prog W F ⊥ A)
      (done : List ⊥) (ans : Result A (Halt F U)) → Follows Is no_part seen (exec B p) done ans → Follows Is part seen (exec B (quiet {S = S} p)) [] ans
  follows_quiet Is part seen B p done ans h = subst (λ r. Follows Is part seen r [] ans) (sym (exec-quiet B p))
      (quiet_follows Is part seen (exec B p) done ans h)

module _ {W F : Type 0} (S : Type 0) where
  -- how it ends, and what it wants
  pub quiet_ends : {A : Type 0} (B : BlockMap W F) (p : Prog W F ⊥ A) → (exec B (quiet {S = S} p)).ending ≡ (exec B p).ending
  quiet_ends B p = ap (λ (r : Run W F S _). r.ending) (exec-quiet B p)

  -- of one want: a run of what follows it is one as a part
  goes_in : {I A : Type 0} (Bs : I → BlockMap W F) (x : Result (List ℕ) F) (k : List ℕ → Prog W F ⊥ A) (q : Run W F ⊥ A)
      → ((b : List ℕ) (t : Run W F ⊥ A) → GoesTo Bs (k b) t → GoesTo Bs (quiet {S = S} (k b)) (quiet_run t)) → goes_given x (λ b. GoesTo Bs (k b)) q
      → goes_given x (λ b. GoesTo Bs (quiet {S = S} (k b))) (quiet_run q)
  goes_in Bs (Ok b) k q ih h = ih b q h
  goes_in Bs (Err f) k q ih h = ap quiet_run h

  -- a run of a program without steps is one of it as a part
  pub quiet_goes : {I A : Type 0} (Bs : I → BlockMap W F) (p : Prog W F ⊥ A) (r : Run W F ⊥ A) → GoesTo Bs p r → GoesTo Bs (quiet {S = S} p) (quiet_run r)
  quiet_goes Bs (Return a) r h = ap quiet_run h
  quiet_goes Bs (Stop f) r h = ap quiet_run h
  quiet_goes Bs (Need w k) r h = (h.0, quiet_run h.1, ap quiet_run h.2, goes_in Bs (Bs h.0 w) k h.1 (λ b t g. quiet_goes Bs (k b) t g) h.3)
  quiet_goes Bs (Emit s p) r h = absurd s

module _ {W F S : Type 0} where
  -- what is answered of a program without steps, where a want may come to several things, is answered of it as a part
  pub goes_quiet : {I A U : Type 0} (Is : U → W → Type 0) (part : S → ℕ → Option S) (seen : List W) (Bs : I → BlockMap W F) (p : Prog W F ⊥ A)
      (done : List ⊥) (ans : Result A (Halt F U)) → Goes Is no_part seen Bs p done ans → Goes Is part seen Bs (quiet {S = S} p) [] ans
  goes_quiet Is part seen Bs p done ans h = (quiet_run h.0, quiet_goes S Bs p h.0 h.1, quiet_follows Is part seen h.0 done ans h.2)
