-- Runs where a want may come to any of several things, as a sector without a checksum may to any of its copies.
use Rattle.std.specs.Prelude.{◌≡◌, ℕ, List, [], ◌∷◌, Option, Result, Ok, Err}
use Rattle.btr_prog.specs.Prog.{BlockMap, Prog, Return, Stop, Need, Emit, Mark, Wants, Does, Run, run, first, prepend}
use Rattle.btr_prog.specs.Thread.{end_of}
use Rattle.btr_prog.specs.Answers.{Halt, Follows}

module _ {W F S : Type 0} where
  -- the runs of what follows a want: those for its bytes, or none but its fault
  abbrev pub goes_given : {A : Type 0} → Result (List ℕ) F → (List ℕ → Run W F S A → Type 0) → Run W F S A → Type 0
  goes_given (Ok bytes) K r = K bytes r
  goes_given (Err f) K r = r ≡ run [] (Err f)

  -- r is a run of the program, where each want comes to what one of the maps Bs says of it, each time perhaps another
  abbrev pub GoesTo : {I A : Type 0} → (I → BlockMap W F) → Prog W F S A → Run W F S A → Type 0
  GoesTo Bs (Return a) r = r ≡ run [] (Ok a)
  GoesTo Bs (Stop f) r = r ≡ run [] (Err f)
  GoesTo {I} Bs (Need w k) r = (i : I) × (q : Run W F S _) × (r ≡ first (Wants w) q) × goes_given (Bs i w) (λ bytes. GoesTo Bs (k bytes)) q
  GoesTo Bs (Emit s p) r = (q : Run W F S _) × (r ≡ first (Does s) q) × GoesTo Bs p q

  -- r has some marks, and where they end with a value then a run that K allows after it
  abbrev pub AfterTo : {A C : Type 0} → List (Mark W S) → Result A F → (A → Run W F S C → Type 0) → Run W F S C → Type 0
  AfterTo ms (Ok a) K r = (q : Run W F S _) × (r ≡ prepend ms q) × K a q
  AfterTo ms (Err f) K r = r ≡ run ms (Err f)

  -- what was done, and the answer, are those of some run
  abbrev pub Goes : {I A U : Type 0} → (U → W → Type 0) → (S → ℕ → Option S) → List W → (I → BlockMap W F) → Prog W F S A → List S → Result A (Halt F U)
      → Type 0
  Goes Is part seen Bs p done ans = (r : Run W F S _) × GoesTo Bs p r × Follows Is part seen r done ans

module _ {W F : Type 0} where
  -- the runs that go on from a step that was treated: those from the new state, or only the end with its result
  abbrev pub GoOnTo : {T St R : Type 0} → (St → Run W F T R → Type 0) → Result St R → Run W F T R → Type 0
  GoOnTo K (Ok st) r = K st r
  GoOnTo K (Err x) r = r ≡ run [] (Ok x)

  -- r treats the steps among some marks one after another, each by a run that Body allows
  abbrev pub ThreadsTo : {S A T St R : Type 0} → (St → S → Run W F T (Result St R) → Type 0) → (St → A → R) → St → List (Mark W S) → Result A F
      → Run W F T R → Type 0
  ThreadsTo Body done st [] e r = r ≡ end_of done st e
  ThreadsTo Body done st (Wants w ∷ ms) e r = (q : Run W F _ _) × (r ≡ first (Wants w) q) × ThreadsTo Body done st ms e q
  ThreadsTo {T = T} {St = St} {R = R} Body done st (Does s ∷ ms) e r =
      (b : Run W F T (Result St R)) × Body st s b × AfterTo b.marks b.ending (GoOnTo (λ st'. ThreadsTo Body done st' ms e)) r
