-- The laws of runs where a want may come to any of several things.
use Rattle.std.specs.Prelude.{◌≡◌, ◌↔◌, ℕ, List, [], ◌∷◌, ◌++◌, Option, Some, Result, Ok, Err}
use Rattle.btr_prog.specs.Prog.{BlockMap, Prog, Need, Emit, Run, exec, bind, needs, wants_of}
use Rattle.btr_prog.specs.Thread.{thread}
use Rattle.btr_prog.specs.Maps.{Each}
use Rattle.btr_prog.specs.Answers.{Halt, Fault, Unread, Broke, Follows}
use Rattle.btr_prog.specs.Goes.{GoesTo, AfterTo, ThreadsTo, Goes}

module _ (W F S A I : Type 0) where
  -- where each want of B's run comes to what B says, B's run is the only one
  abbrev pub GoesOne : Type 0
  GoesOne =
      (Bs : I → BlockMap W F) (B : BlockMap W F) (p : Prog W F S A) (r : Run W F S A)
      → Each (λ w. (i : I) → Bs i w ≡ B w) (needs B p)
      → GoesTo Bs p r
      → r ≡ exec B p

  -- where each want of B's run may come to what B says, B's run is one
  abbrev pub GoesSome : Type 0
  GoesSome =
      (Bs : I → BlockMap W F) (B : BlockMap W F) (p : Prog W F S A)
      → Each (λ w. (i : I) × (Bs i w ≡ B w)) (needs B p)
      → GoesTo Bs p (exec B p)

  -- where more is allowed, a run stays one
  abbrev pub GoesMore : Type 0 → Type 0
  GoesMore J =
      (Bs : I → BlockMap W F) (Cs : J → BlockMap W F) (p : Prog W F S A) (r : Run W F S A)
      → ((i : I) (w : W) → (j : J) × (Cs j w ≡ Bs i w))
      → GoesTo Bs p r
      → GoesTo Cs p r

  -- a run of one program after another is one run after another
  abbrev pub GoesBind : Type 0 → Type 0
  GoesBind C =
      (Bs : I → BlockMap W F) (p : Prog W F S A) (k : A → Prog W F S C) (r : Run W F S C)
      → GoesTo Bs (bind p k) r ↔ ((q : Run W F S A) × GoesTo Bs p q × AfterTo q.marks q.ending (λ a. GoesTo Bs (k a)) r)

  -- a run that treats the steps of some run of a program is one of treating the program's steps
  abbrev pub GoesThread : Type 0 → Type 0 → Type 0 → Type 0
  GoesThread T St R =
      (Bs : I → BlockMap W F) (body : St → S → Prog W F T (Result St R)) (done : St → A → R) (st : St)
      (p : Prog W F S A) (q : Run W F S A) (r : Run W F T R)
      → GoesTo Bs p q
      → ThreadsTo (λ st' s. GoesTo Bs (body st' s)) done st q.marks q.ending r
      → GoesTo Bs (thread body done st p) r

  -- each run of treating a program's steps is one that treats the steps of some run of the program
  abbrev pub ThreadGoes : Type 0 → Type 0 → Type 0 → Type 0
  ThreadGoes T St R =
      I
      → (Bs : I → BlockMap W F) (body : St → S → Prog W F T (Result St R)) (done : St → A → R) (st : St)
      (p : Prog W F S A) (r : Run W F T R)
      → GoesTo Bs (thread body done st p) r
      → (q : Run W F S A) × GoesTo Bs p q × ThreadsTo (λ st' s. GoesTo Bs (body st' s)) done st q.marks q.ending r

module _ (W F S A I U : Type 0) (Is : U → W → Type 0) where
  -- a call that came to a value by some run, and then another
  abbrev pub GoesThen : Type 0 → Type 0
  GoesThen C =
      (part : S → ℕ → Option S) (seen : List W) (Bs : I → BlockMap W F) (p : Prog W F S A)
      (k : A → Prog W F S C) (r : Run W F S A) (a : A) (done more : List S) (ans : Result C (Halt F U))
      → GoesTo Bs p r
      → Follows Is part seen r done (Ok a)
      → Goes Is part (seen ++ wants_of r.marks) Bs (k a) more ans
      → Goes Is part seen Bs (bind p k) (done ++ more) ans

  -- a call that came to no value, and then nothing
  abbrev pub GoesHalt : Type 0 → Type 0
  GoesHalt C =
      I
      → (part : S → ℕ → Option S) (seen : List W) (Bs : I → BlockMap W F) (p : Prog W F S A)
      (k : A → Prog W F S C) (done : List S) (h : Halt F U)
      → Goes Is part seen Bs p done (Err h)
      → Goes Is part seen Bs (bind p k) done (Err h)

  -- a want that came to bytes, as one of the maps says
  abbrev pub GoesCame : Type 0
  GoesCame =
      (part : S → ℕ → Option S) (seen : List W) (Bs : I → BlockMap W F) (i : I) (w : W) (bytes : List ℕ)
      (k : List ℕ → Prog W F S A) (done : List S) (ans : Result A (Halt F U))
      → Bs i w ≡ Ok bytes
      → Goes Is part (seen ++ (w ∷ [])) Bs (k bytes) done ans
      → Goes Is part seen Bs (Need w k) done ans

  -- a want that came to a fault, as one of the maps says
  abbrev pub GoesFaults : Type 0
  GoesFaults =
      (part : S → ℕ → Option S) (seen : List W) (Bs : I → BlockMap W F) (i : I) (w : W) (f : F)
      (k : List ℕ → Prog W F S A)
      → Bs i w ≡ Err f
      → Goes Is part seen Bs (Need w k) [] (Err (Fault f))

  -- a want that could not be read
  abbrev pub GoesUnread : Type 0
  GoesUnread =
      I
      → (part : S → ℕ → Option S) (seen : List W) (Bs : I → BlockMap W F) (u : U)
      (w : W) (k : List ℕ → Prog W F S A)
      → Is u w
      → Goes Is part seen Bs (Need w k) [] (Err (Unread u))

  -- a step that was done, and what came then
  abbrev pub GoesStep : Type 0
  GoesStep =
      (part : S → ℕ → Option S) (seen : List W) (Bs : I → BlockMap W F) (s : S) (p : Prog W F S A)
      (done : List S) (ans : Result A (Halt F U))
      → Goes Is part seen Bs p done ans
      → Goes Is part seen Bs (Emit s p) (s ∷ done) ans

  -- a step that was broken off, of which a part is left
  abbrev pub GoesBroke : Type 0
  GoesBroke =
      I
      → (part : S → ℕ → Option S) (seen : List W) (Bs : I → BlockMap W F) (s t : S) (n : ℕ)
      (p : Prog W F S A)
      → part s n ≡ Some t
      → Goes Is part seen Bs (Emit s p) (t ∷ []) (Err Broke)

  -- a call that was broken off before it did anything
  abbrev pub GoesNowhere : Type 0
  GoesNowhere =
      I
      → (part : S → ℕ → Option S) (seen : List W) (Bs : I → BlockMap W F) (p : Prog W F S A)
      → Goes Is part seen Bs p [] (Err Broke)
