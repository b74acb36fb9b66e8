-- A program that is served comes to a value.
use Rattle.std.proofs.Common.{◌≡◌, ℕ, List, None, Result, Ok, Err, refl}
use Rattle.btr_prog.specs.Prog.{BlockMap, Prog, Return, Stop, Need, Emit, Run, exec, given, needs, wants_of}
use Rattle.btr_prog.specs.Maps.{Each, IsWhole}
use Rattle.btr_run_laws.specs.Complete.{IsServed, if_given, own_fault}

module _ {W F S A : Type 0} (B : BlockMap W F) where
  -- a run comes to a value
  abbrev Ends : Run W F S A → Type 0
  Ends r = (a : A) × (r.ending ≡ Ok a)

  -- a run that goes on by a block's bytes comes to a value, if the block is there and what goes on does
  given_ends : (x : Result (List ℕ) F) (k : List ℕ → Prog W F S A)
      → ((b : List ℕ) → Each (λ w. IsWhole (B w)) (needs B (k b)) → own_fault B (k b) ≡ None → Ends (exec B (k b)))
      → IsWhole x → Each (λ w. IsWhole (B w)) (wants_of (given x (λ b. exec B (k b))).marks) → if_given x (λ b. own_fault B (k b)) ≡ None
      → Ends (given x (λ b. exec B (k b)))
  given_ends (Ok b) k h is whole well = h b whole well
  given_ends (Err f) k h is whole well = absurd is

  -- a program comes to a value, if each block that it needs is there and it states no fault of its own
  ends : (p : Prog W F S A) → Each (λ w. IsWhole (B w)) (needs B p) → own_fault B p ≡ None → Ends (exec B p)
  ends (Return a) whole well = (a, refl)
  ends (Stop f) whole well = absurd (cc well)
  ends (Need w k) whole well = given_ends (B w) k (λ b. ends (k b)) whole.0 whole.1 well
  ends (Emit s p) whole well = ends p whole well

  -- a program that is served comes to a value
  pub served_ends : (p : Prog W F S A) → IsServed B p → Ends (exec B p)
  served_ends p served = ends p served.whole served.well
