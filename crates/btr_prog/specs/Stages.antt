-- Two block maps one after another: what is read under the first gives a table, and the rest is read under the table's
-- map. So the chunk tree is found by the superblock's own chunks, and every other block by the whole chunk table.
use Rattle.std.specs.Prelude.{◌≡◌, ◌⊎◌, ℕ, List, [], ◌∷◌, ◌++◌, map, Option, Result, Ok, Err}
use Rattle.btr_prog.specs.Prog.{BlockMap, Prog, Return, Stop, Need, Emit, Mark, Wants, Does, Run, run, exec, bind, and_then, needs}
use Rattle.btr_prog.specs.Maps.{Each, IsWithin, cut, Loses}
use Rattle.btr_prog.specs.Answers.{Halt, Follows}
use Rattle.btr_prog.specs.Goes.{GoesTo, Goes}

-- a want of the first part, or one of the rest with the table that it is looked up in
pub data Staged (T W : Type 0) : Type 0 where
  Early : W → Staged T W
  Late : T → W → Staged T W

-- the map of both parts
abbrev pub both : {T W F : Type 0} → BlockMap W F → (T → BlockMap W F) → Staged T W → Result (List ℕ) F
both B D (Early w) = B w
both B D (Late t w) = D t w

-- a mark whose want is renamed
abbrev pub renamed_mark : {V W S : Type 0} → (V → W) → Mark V S → Mark W S
renamed_mark f (Wants v) = Wants (f v)
renamed_mark f (Does s) = Does s

-- marks whose wants are renamed
abbrev pub renamed_marks : {V W S : Type 0} → (V → W) → List (Mark V S) → List (Mark W S)
renamed_marks f [] = []
renamed_marks f (m ∷ ms) = renamed_mark f m ∷ renamed_marks f ms

module _ {V W F S A : Type 0} where
  -- a run whose wants are renamed
  abbrev pub renamed_run : (V → W) → Run V F S A → Run W F S A
  renamed_run f r = run (renamed_marks f r.marks) r.ending

  -- a program, each of whose wants goes by another name
  abbrev pub renamed : (V → W) → Prog V F S A → Prog W F S A
  renamed f (Return a) = Return a
  renamed f (Stop x) = Stop x
  renamed f (Need v k) = Need (f v) (λ bytes. renamed f (k bytes))
  renamed f (Emit s p) = Emit s (renamed f p)

-- on from a table; a refusal of the first part is the value of the whole
abbrev pub unless_refused : {T X W F S A : Type 0} → (X → A) → (T → Prog W F S A) → Result T X → Prog W F S A
unless_refused refused k (Ok t) = k t
unless_refused refused k (Err x) = Return (refused x)

-- the run that goes on from a table; a refusal of the first part is the value of the whole
abbrev pub run_unless_refused : {T X W F S A : Type 0} → (X → A) → (T → Run W F S A) → Result T X → Run W F S A
run_unless_refused refused k (Ok t) = k t
run_unless_refused refused k (Err x) = run [] (Ok (refused x))

-- the wants of both parts: those of the first, and then where it gives a table those of the rest under it
abbrev pub staged_needs : {T X W F : Type 0} → List W → Result (Result T X) F → (T → List W) → List (Staged T W)
staged_needs ws (Ok (Ok t)) rest = map Early ws ++ map (Late t) (rest t)
staged_needs ws (Ok (Err x)) rest = map Early ws
staged_needs ws (Err f) rest = map Early ws

module _ {T X W F S A : Type 0} where
  -- a program whose value is a table or a refusal, and then another under that table
  abbrev pub staged : (X → A) → Prog W F S (Result T X) → (T → Prog W F S A) → Prog (Staged T W) F S A
  staged refused p k = bind (renamed Early p) (unless_refused refused (λ (t : T). renamed (Late t) (k t)))

  -- the same of runs
  abbrev pub staged_run : (X → A) → Run W F S (Result T X) → (T → Run W F S A) → Run (Staged T W) F S A
  staged_run refused r k = and_then (renamed_run Early r) (run_unless_refused refused (λ (t : T). renamed_run (Late t) (k t)))

  -- B has, of each want of C's run, C's bytes or none; so has D of E's, under the table that C's run gives
  abbrev pub IsWithinBoth : (B C : BlockMap W F) (D E : T → BlockMap W F) → Prog W F S (Result T X) → (T → Prog W F S A) → Type 0
  IsWithinBoth B C D E p k =
      Each (λ w. IsWithin (B w) (C w)) (needs C p) × ((t : T) → (exec C p).ending ≡ Ok (Ok t) → Each (λ w. IsWithin (D t w) (E t w)) (needs (E t) (k t)))

module _ (V W F S A : Type 0) where
  -- the run of a program whose wants go by other names
  abbrev pub ExecRenamed : Type 0
  ExecRenamed =
      (f : V → W) (B : BlockMap W F) (p : Prog V F S A)
      → exec B (renamed f p) ≡ renamed_run f (exec (λ v. B (f v)) p)

  -- what is answered of a run holds where its wants go by other names
  abbrev pub FollowsRenamed : (U : Type 0) → (U → W → Type 0) → Type 0
  FollowsRenamed U Is =
      (f : V → W) (part : S → ℕ → Option S) (r : Run V F S A) (done : List S)
      (ans : Result A (Halt F U))
      → Follows (λ u v. Is u (f v)) part [] r done ans
      → Follows Is part [] (renamed_run f r) done ans

  -- so does one of several runs
  abbrev pub GoesRenamed : Type 0 → Type 0
  GoesRenamed I =
      (f : V → W) (Bs : I → BlockMap W F) (p : Prog V F S A) (r : Run V F S A)
      → GoesTo (λ i v. Bs i (f v)) p r
      → GoesTo Bs (renamed f p) (renamed_run f r)

module _ (T X W F S A : Type 0) where
  -- the run of both parts is the run of the first, and then that of the rest under its table's map
  abbrev pub ExecStaged : Type 0
  ExecStaged =
      (refused : X → A) (B : BlockMap W F) (D : T → BlockMap W F) (p : Prog W F S (Result T X)) (k : T → Prog W F S A)
      → exec (both B D) (staged refused p k) ≡ staged_run refused (exec B p) (λ t. exec (D t) (k t))

  -- so are its wants
  abbrev pub NeedsStaged : Type 0
  NeedsStaged =
      (refused : X → A) (B : BlockMap W F) (D : T → BlockMap W F) (p : Prog W F S (Result T X)) (k : T → Prog W F S A)
      → needs (both B D) (staged refused p k) ≡ staged_needs (needs B p) (exec B p).ending (λ t. needs (D t) (k t))

  -- where B and D have of C's and E's bytes or none, the run under them is that under C and E, cut at the
  -- first want, of either part, that is lacked
  abbrev pub StagedCut : Type 0
  StagedCut =
      (refused : X → A) (B C : BlockMap W F) (D E : T → BlockMap W F) (p : Prog W F S (Result T X)) (k : T → Prog W F S A)
      → IsWithinBoth B C D E p k
      → exec (both B D) (staged refused p k) ≡ cut (both B D) (exec (both C E) (staged refused p k))

  -- where B and D have of C's and E's bytes or none, the run under them is the same, or it stops at the first want that
  -- is lacked, with exactly the marks before it
  abbrev pub StagedLost : Type 0
  StagedLost =
      (refused : X → A) (B C : BlockMap W F) (D E : T → BlockMap W F) (p : Prog W F S (Result T X)) (k : T → Prog W F S A)
      → IsWithinBoth B C D E p k
      → (exec (both B D) (staged refused p k) ≡ exec (both C E) (staged refused p k))
      ⊎ Loses (both B D) (exec (both C E) (staged refused p k)) (exec (both B D) (staged refused p k))

module _ (T X W F S A U : Type 0) (Is : U → Staged T W → Type 0) where
  -- a call that ran the first part to a table, and then one that ran the rest under it
  abbrev pub StagedThen : Type 0
  StagedThen =
      (refused : X → A) (part : S → ℕ → Option S) (B : BlockMap W F) (D : T → BlockMap W F)
      (p : Prog W F S (Result T X)) (k : T → Prog W F S A) (t : T) (done more : List S) (ans : Result A (Halt F U))
      → Follows (λ u w. Is u (Early w)) part [] (exec B p) done (Ok (Ok t))
      → Follows (λ u w. Is u (Late t w)) part [] (exec (D t) (k t)) more ans
      → Follows Is part [] (exec (both B D) (staged refused p k)) (done ++ more) ans

  -- a call that ran the first part to a refusal
  abbrev pub StagedRefused : Type 0
  StagedRefused =
      (refused : X → A) (part : S → ℕ → Option S) (B : BlockMap W F) (D : T → BlockMap W F)
      (p : Prog W F S (Result T X)) (k : T → Prog W F S A) (x : X) (done : List S)
      → Follows (λ u w. Is u (Early w)) part [] (exec B p) done (Ok (Err x))
      → Follows Is part [] (exec (both B D) (staged refused p k)) done (Ok (refused x))

  -- a call that ran the first part to no value
  abbrev pub StagedHalt : Type 0
  StagedHalt =
      (refused : X → A) (part : S → ℕ → Option S) (B : BlockMap W F) (D : T → BlockMap W F)
      (p : Prog W F S (Result T X)) (k : T → Prog W F S A) (done : List S) (h : Halt F U)
      → Follows (λ u w. Is u (Early w)) part [] (exec B p) done (Err h)
      → Follows Is part [] (exec (both B D) (staged refused p k)) done (Err h)

  -- the same where each want may come to any of several things
  abbrev pub GoesStaged : Type 0 → Type 0
  GoesStaged I =
      (refused : X → A) (part : S → ℕ → Option S) (Bs : I → BlockMap W F)
      (Ds : I → T → BlockMap W F) (p : Prog W F S (Result T X)) (k : T → Prog W F S A) (t : T) (done more : List S)
      (ans : Result A (Halt F U))
      → Goes (λ u w. Is u (Early w)) part [] Bs p done (Ok (Ok t))
      → Goes (λ u w. Is u (Late t w)) part [] (λ i. Ds i t) (k t) more ans
      → Goes Is part [] (λ i. both (Bs i) (Ds i)) (staged refused p k) (done ++ more) ans

  -- the same of a first part that was refused, where a want may come to any of several things
  abbrev pub GoesStagedRefused : Type 0 → Type 0
  GoesStagedRefused I =
      (refused : X → A) (part : S → ℕ → Option S) (Bs : I → BlockMap W F)
      (Ds : I → T → BlockMap W F) (p : Prog W F S (Result T X)) (k : T → Prog W F S A) (x : X) (done : List S)
      → Goes (λ u w. Is u (Early w)) part [] Bs p done (Ok (Err x))
      → Goes Is part [] (λ i. both (Bs i) (Ds i)) (staged refused p k) done (Ok (refused x))

  -- the same of a first part that halted, where a want may come to any of several things
  abbrev pub GoesStagedHalt : Type 0 → Type 0
  GoesStagedHalt I =
      I
      → (refused : X → A) (part : S → ℕ → Option S) (Bs : I → BlockMap W F)
      (Ds : I → T → BlockMap W F) (p : Prog W F S (Result T X)) (k : T → Prog W F S A) (done : List S) (h : Halt F U)
      → Goes (λ u w. Is u (Early w)) part [] Bs p done (Err h)
      → Goes Is part [] (λ i. both (Bs i) (Ds i)) (staged refused p k) done (Err h)
