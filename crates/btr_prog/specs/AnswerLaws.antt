-- How the answers of calls fit together.
use Rattle.std.specs.Prelude.{◌≡◌, ◌⊎◌, ℕ, List, [], ◌∷◌, ◌++◌, Option, Some, Result, Ok, Err}
use Rattle.btr_prog.specs.Prog.{BlockMap, Prog, Wants, Does, Run, first, given, exec, and_then, needs, wants_of, steps_of}
use Rattle.btr_prog.specs.Maps.{Each, IsWithin, Loses}
use Rattle.btr_prog.specs.Answers.{Halt, Fault, Unread, Broke, Names, Follows}

module _ (W F S A U : Type 0) (Is : U → W → Type 0) where
  -- a call that came to a value, and then another: what that answers they both answer
  abbrev pub FollowsThen : Type 0 → Type 0
  FollowsThen C =
      (part : S → ℕ → Option S) (seen : List W) (r : Run W F S A) (a : A) (k : A → Run W F S C)
      (done more : List S) (ans : Result C (Halt F U))
      → Follows Is part seen r done (Ok a)
      → Follows Is part (seen ++ wants_of r.marks) (k a) more ans
      → Follows Is part seen (and_then r k) (done ++ more) ans

  -- a call that did not, and then nothing
  abbrev pub FollowsHalt : Type 0 → Type 0
  FollowsHalt C =
      (part : S → ℕ → Option S) (seen : List W) (r : Run W F S A) (k : A → Run W F S C) (done : List S)
      (h : Halt F U)
      → Follows Is part seen r done (Err h)
      → Follows Is part seen (and_then r k) done (Err h)

  -- a want whose bytes came
  abbrev pub WantCame : Type 0
  WantCame =
      (part : S → ℕ → Option S) (seen : List W) (B : BlockMap W F) (w : W) (bytes : List ℕ)
      (k : List ℕ → Prog W F S A) (done : List S) (ans : Result A (Halt F U))
      → B w ≡ Ok bytes
      → Follows Is part (seen ++ (w ∷ [])) (exec B (k bytes)) done ans
      → Follows Is part seen (first (Wants w) (given (B w) (λ bytes. exec B (k bytes)))) done ans

  -- a want that has a fault
  abbrev pub WantFaults : Type 0
  WantFaults =
      (part : S → ℕ → Option S) (seen : List W) (B : BlockMap W F) (w : W) (f : F)
      (k : List ℕ → Prog W F S A)
      → B w ≡ Err f
      → Follows Is part seen (first (Wants w) (given (B w) (λ bytes. exec B (k bytes)))) [] (Err (Fault f))

  -- a want that could not be read
  abbrev pub WantUnread : Type 0
  WantUnread =
      (part : S → ℕ → Option S) (seen : List W) (u : U) (w : W) (r : Run W F S A)
      → Is u w
      → Follows Is part seen (first (Wants w) r) [] (Err (Unread u))

  -- a step that was done, and what came then
  abbrev pub StepDone : Type 0
  StepDone =
      (part : S → ℕ → Option S) (seen : List W) (s : S) (r : Run W F S A) (done : List S)
      (ans : Result A (Halt F U))
      → Follows Is part seen r done ans
      → Follows Is part seen (first (Does s) r) (s ∷ done) ans

  -- a step that was broken off, of which a part is left
  abbrev pub StepBroke : Type 0
  StepBroke =
      (part : S → ℕ → Option S) (seen : List W) (s t : S) (n : ℕ) (r : Run W F S A)
      → part s n ≡ Some t
      → Follows Is part seen (first (Does s) r) (t ∷ []) (Err Broke)

  -- a call that was broken off before it did anything
  abbrev pub BrokeHere : Type 0
  BrokeHere =
      (part : S → ℕ → Option S) (seen : List W) (r : Run W F S A)
      → Follows Is part seen r [] (Err Broke)

  -- a call that could not read again a block that was wanted before, and did nothing
  abbrev pub UnreadHere : Type 0
  UnreadHere =
      (part : S → ℕ → Option S) (seen : List W) (u : U) (r : Run W F S A)
      → Names Is u seen
      → Follows Is part seen r [] (Err (Unread u))

  -- more wants before the run
  abbrev pub FollowsSeen : Type 0
  FollowsSeen =
      (part : S → ℕ → Option S) (earlier seen : List W) (r : Run W F S A) (done : List S)
      (ans : Result A (Halt F U))
      → Follows Is part seen r done ans
      → Follows Is part (earlier ++ seen) r done ans

  -- where B has, of each want of C's run, C's bytes or none, a place where B's run is broken off is a place of C's
  abbrev pub PlaceLaw : Type 0
  PlaceLaw =
      (part : S → ℕ → Option S) (seen : List W) (B C : BlockMap W F) (p : Prog W F S A) (done : List S)
      (u : U)
      → Each (λ w. IsWithin (B w) (C w)) (needs C p)
      → Follows Is part seen (exec B p) done (Err (Unread u))
      → Follows Is part seen (exec C p) done (Err (Unread u))

  -- where B has C's bytes or none of each want of C's run, a call broken off as B's run says is one as C's run says
  abbrev pub PartLaw : Type 0
  PartLaw =
      (part : S → ℕ → Option S) (seen : List W) (B C : BlockMap W F) (p : Prog W F S A) (done : List S)
      → Each (λ w. IsWithin (B w) (C w)) (needs C p)
      → Follows Is part seen (exec B p) done (Err Broke)
      → Follows Is part seen (exec C p) done (Err Broke)

  -- So an answer that is B's is C's too, or the call stopped at the first want of C's run that B lacks, with its fault
  -- and exactly the steps before it.
  abbrev pub HeldLaw : Type 0
  HeldLaw =
      (part : S → ℕ → Option S) (seen : List W) (B C : BlockMap W F) (p : Prog W F S A) (done : List S)
      (ans : Result A (Halt F U))
      → Each (λ w. IsWithin (B w) (C w)) (needs C p)
      → Follows Is part seen (exec B p) done ans
      → Follows Is part seen (exec C p) done ans ⊎ ((m : Loses B (exec C p) (exec B p)) × (done ≡ steps_of m.before) × (ans ≡ Err (Fault m.fault)))
