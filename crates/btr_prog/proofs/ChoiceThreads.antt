-- Treating the steps of a program, where a want may come to any of several things.
use Rattle.std.proofs.Common.{◌≡◌, ℕ, List, [], Result, Ok, Err, refl, sym, subst}
use Rattle.btr_prog.specs.Prog.{BlockMap, Prog, Return, Stop, Need, Emit, Mark, Wants, Does, Run, run, first, exec}
use Rattle.btr_prog.specs.Thread.{go_on, thread}
use Rattle.btr_prog.specs.Goes.{goes_given, GoesTo, AfterTo, GoOnTo, ThreadsTo}
use Rattle.btr_prog.proofs.Choices.{goes_map, goes_bind, goes_parts}

module _ {W F I : Type 0} (Bs : I → BlockMap W F) where
  -- what may come after may be replaced
  after_weak : {S A C : Type 0} (ms : List (Mark W S)) (e : Result A F) (K L : A → Run W F S C → Type 0) (r : Run W F S C)
      → ((a : A) (q : Run W F S C) → K a q → L a q) → AfterTo ms e K r → AfterTo ms e L r
  after_weak ms (Ok a) K L r f h = (h.0, h.1, f a h.0 h.2)
  after_weak ms (Err x) K L r f h = h

  module _ {S A T St R : Type 0} (body : St → S → Prog W F T (Result St R)) (done : St → A → R) where
    -- the run treats these marks' steps, each by some run of its body
    abbrev Threads : St → List (Mark W S) → Result A F → Run W F T R → Type 0
    Threads st ms e r = ThreadsTo (λ st' s. GoesTo Bs (body st' s)) done st ms e r

    -- on from a state that was treated, or the early end, as a run of the program
    go_in : (p : Prog W F S A) (ms : List (Mark W S)) (e : Result A F)
        → ((st : St) (r : Run W F T R) → Threads st ms e r → GoesTo Bs (thread body done st p) r) → (x : Result St R) (r : Run W F T R)
        → GoOnTo (λ st. Threads st ms e) x r → GoesTo Bs (go_on (λ st. thread body done st p) x) r
    go_in p ms e ih (Ok st) r h = ih st r h
    go_in p ms e ih (Err y) r h = h

    -- of one want: treating the steps behind it is a run of what follows it
    given_in : (st : St) (x : Result (List ℕ) F) (k : List ℕ → Prog W F S A) (q : Run W F S A) (r : Run W F T R)
        → ((bytes : List ℕ) (t : Run W F S A) → GoesTo Bs (k bytes) t → Threads st t.marks t.ending r → GoesTo Bs (thread body done st (k bytes)) r)
        → goes_given x (λ bytes. GoesTo Bs (k bytes)) q → Threads st q.marks q.ending r → goes_given x (λ bytes. GoesTo Bs (thread body done st (k bytes))) r
    given_in st (Ok bytes) k q r ih g h = ih bytes q g h
    given_in st (Err f) k q r ih g h = subst (λ (t : Run W F S A). Threads st t.marks t.ending r) g h

    -- a run that treats the steps of some run of a program is one of treating the program's steps
    pub goes_thread : (st : St) (p : Prog W F S A) (q : Run W F S A) (r : Run W F T R) → GoesTo Bs p q → Threads st q.marks q.ending r
        → GoesTo Bs (thread body done st p) r
    goes_thread st (Return a) q r g h = subst (λ (t : Run W F S A). Threads st t.marks t.ending r) g h
    goes_thread st (Stop f) q r g h = subst (λ (t : Run W F S A). Threads st t.marks t.ending r) g h
    goes_thread st (Need w k) q r g h =
        let t = subst (λ (x : Run W F S A). Threads st x.marks x.ending r) g.2 h in
        (g.0, t.0, t.1, given_in st (Bs g.0 w) k g.1 t.0 (λ bytes u e d. goes_thread st (k bytes) u t.0 e d) g.3 t.2)
    goes_thread st (Emit s p) q r g h =
        let t = subst (λ (x : Run W F S A). Threads st x.marks x.ending r) g.1 h in
        goes_bind Bs (go_on (λ st'. thread body done st' p)) (body st s) t.0 r t.1
        (after_weak t.0.marks t.0.ending (GoOnTo (λ st'. Threads st' g.0.marks g.0.ending)) (λ x. GoesTo Bs (go_on (λ st'. thread body done st' p) x))
        r (go_in p g.0.marks g.0.ending (λ st' u d. goes_thread st' p g.0 u g.2 d)) t.2)

    -- the run treats the steps of some run of the program
    abbrev Threaded : St → Prog W F S A → Run W F T R → Type 0
    Threaded st p r = (q : Run W F S A) × GoesTo Bs p q × Threads st q.marks q.ending r

    -- of one want: a run of treating what follows it treats the steps of a run of that
    given_out : (st : St) (w : W) (j : I) (x : Result (List ℕ) F) (k : List ℕ → Prog W F S A) (q r : Run W F T R) → Bs j w ≡ x → r ≡ first (Wants w) q
        → ((bytes : List ℕ) (t : Run W F T R) → GoesTo Bs (thread body done st (k bytes)) t → Threaded st (k bytes) t)
        → goes_given x (λ bytes. GoesTo Bs (thread body done st (k bytes))) q → Threaded st (Need w k) r
    given_out st w j (Ok bytes) k q r e c ih d =
        let t = ih bytes q d in
        (first (Wants w) t.0, (j, t.0, refl, subst (λ x. goes_given x (λ y. GoesTo Bs (k y)) t.0) (sym e) t.1), (q, c, t.2))
    given_out st w j (Err f) k q r e c ih d =
        (first (Wants w) (run [] (Err f)), (j, run [] (Err f), refl, subst (λ x. goes_given x (λ y. GoesTo Bs (k y)) (run [] (Err f))) (sym e) refl), (q, c, d))

    -- after a body: the next state, an early end, or its fault. Behind an end any run of the rest will do.
    after_out : (i : I) (st : St) (s : S) (p : Prog W F S A) (ms : List (Mark W T)) (e : Result (Result St R) F) (r : Run W F T R)
        → ((st' : St) (t : Run W F T R) → GoesTo Bs (thread body done st' p) t → Threaded st' p t) → GoesTo Bs (body st s) (run ms e)
        → AfterTo ms e (λ x. GoesTo Bs (go_on (λ st'. thread body done st' p) x)) r → Threaded st (Emit s p) r
    after_out i st s p ms (Ok (Ok st')) r ih b d =
        let t = ih st' d.0 d.2 in
        (first (Does s) t.0, (t.0, refl, t.1), (run ms (Ok (Ok st')), b, (d.0, d.1, t.2)))
    after_out i st s p ms (Ok (Err x)) r ih b d = (first (Does s) (exec (Bs i) p), (exec (Bs i) p, refl, goes_map Bs i p), (run ms (Ok (Err x)), b, d))
    after_out i st s p ms (Err f) r ih b d = (first (Does s) (exec (Bs i) p), (exec (Bs i) p, refl, goes_map Bs i p), (run ms (Err f), b, d))

    -- each run of treating a program's steps treats the steps of some run of the program
    pub thread_goes : (i : I) (st : St) (p : Prog W F S A) (r : Run W F T R) → GoesTo Bs (thread body done st p) r → Threaded st p r
    thread_goes i st (Return a) r d = (run [] (Ok a), refl, d)
    thread_goes i st (Stop f) r d = (run [] (Err f), refl, d)
    thread_goes i st (Need w k) r d = given_out st w d.0 (Bs d.0 w) k d.1 r refl d.2 (λ bytes t g. thread_goes i st (k bytes) t g) d.3
    thread_goes i st (Emit s p) r d =
        let b = goes_parts Bs (go_on (λ st'. thread body done st' p)) (body st s) r d in
        after_out i st s p b.0.marks b.0.ending r (λ st' t g. thread_goes i st' p t g) b.1 b.2
