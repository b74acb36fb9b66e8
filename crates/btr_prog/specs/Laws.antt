-- The laws of programs and their runs.
use Rattle.std.specs.Prelude.{◌≡◌, ◌⊎◌, ◌++◌, Bool, IsTrue, Result, Ok, Err}
use Rattle.btr_prog.specs.Prog.{BlockMap, Prog, exec, bind, and_then, needs}
use Rattle.btr_prog.specs.Thread.{thread, thread_run}
use Rattle.btr_prog.specs.Maps.{Each, IsWithin, IsWhole, EndsWell, cut, Loses}

module _ (W F S A : Type 0) where
  -- the run of one program after another is one run after another
  abbrev pub ExecBind : Type 0 → Type 0
  ExecBind C =
      (B : BlockMap W F) (p : Prog W F S A) (k : A → Prog W F S C)
      → exec B (bind p k) ≡ and_then (exec B p) (λ a. exec B (k a))

  -- the wants of one program after another: the first one's, and where it came to a value the other's
  abbrev pub NeedsBind : Type 0 → Type 0
  NeedsBind C =
      (B : BlockMap W F) (p : Prog W F S A) (k : A → Prog W F S C) (a : A)
      → (exec B p).ending ≡ Ok a
      → needs B (bind p k) ≡ needs B p ++ needs B (k a)

  -- the wants of one program after another, where the first came to a fault: the first one's alone
  abbrev pub NeedsStop : Type 0 → Type 0
  NeedsStop C =
      (B : BlockMap W F) (p : Prog W F S A) (k : A → Prog W F S C) (f : F)
      → (exec B p).ending ≡ Err f
      → needs B (bind p k) ≡ needs B p

  -- a run hangs on the fates of its own wants alone
  abbrev pub OnlyNeeds : Type 0
  OnlyNeeds = (B C : BlockMap W F) (p : Prog W F S A) → Each (λ w. B w ≡ C w) (needs B p) → exec B p ≡ exec C p

  -- where B has, of each want of C's run, C's bytes or none, its run is C's, cut at the first want that B lacks
  abbrev pub CutLaw : Type 0
  CutLaw =
      (B C : BlockMap W F) (p : Prog W F S A)
      → Each (λ w. IsWithin (B w) (C w)) (needs C p)
      → exec B p ≡ cut B (exec C p)

  -- where B has C's bytes of each want of C's run, its run is C's
  abbrev pub WholeLaw : Type 0
  WholeLaw =
      (B C : BlockMap W F) (p : Prog W F S A)
      → Each (λ w. IsWithin (B w) (C w)) (needs C p)
      → Each (λ w. IsWhole (B w)) (needs C p)
      → exec B p ≡ exec C p

  -- so it is C's run, or stops at the first want of C's run that B lacks, with exactly the marks before it
  abbrev pub LostLaw : Type 0
  LostLaw =
      (B C : BlockMap W F) (p : Prog W F S A)
      → Each (λ w. IsWithin (B w) (C w)) (needs C p)
      → (exec B p ≡ exec C p) ⊎ Loses B (exec C p) (exec B p)

  -- where the run ends with a value, or with a fault that passes a test, so does each of its wants
  abbrev pub WellLaw : Type 0
  WellLaw =
      (well : F → Bool) (B : BlockMap W F) (p : Prog W F S A)
      → EndsWell (λ f. IsTrue (well f)) (exec B p).ending
      → Each (λ w. EndsWell (λ f. IsTrue (well f)) (B w)) (needs B p)

  -- treating a program's steps is treating those of its run
  abbrev pub ThreadLaw : Type 0 → Type 0 → Type 0 → Type 0
  ThreadLaw T St R =
      (B : BlockMap W F) (body : St → S → Prog W F T (Result St R)) (done : St → A → R) (st : St) (p : Prog W F S A)
      → exec B (thread body done st p) ≡ thread_run (λ st s. exec B (body st s)) done st (exec B p).marks (exec B p).ending
