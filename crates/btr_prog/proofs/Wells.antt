-- A run that ends well has no want that ends otherwise.
use Rattle.std.proofs.Common.{◌≡◌, ℕ, List, Result, Ok, Err, refl, sym, subst}
use Rattle.btr_prog.specs.Prog.{BlockMap, Prog, Return, Stop, Need, Emit, given, exec, needs, wants_of}
use Rattle.btr_prog.specs.Maps.{Each, EndsWell}

module _ {W F S A : Type 0} (Well : F → Type 0) (B : BlockMap W F) where
  -- of one want: where what follows ends well, so do the want and all behind it
  well_given : (w : W) (x : Result (List ℕ) F) (k : List ℕ → Prog W F S A) → B w ≡ x
      → ((b : List ℕ) → EndsWell Well (exec B (k b)).ending → Each (λ v. EndsWell Well (B v)) (needs B (k b)))
      → EndsWell Well (given x (λ b. exec B (k b))).ending → EndsWell Well (B w)
      × Each (λ v. EndsWell Well (B v)) (wants_of (given x (λ b. exec B (k b))).marks)
  well_given w (Ok b) k is h well = (subst (EndsWell Well) (sym is) tt, h b well)
  well_given w (Err f) k is h well = (subst (EndsWell Well) (sym is) well, tt)

  -- where a run ends with a value or a well fault, so does each of its wants
  pub well_needs : (p : Prog W F S A) → EndsWell Well (exec B p).ending → Each (λ w. EndsWell Well (B w)) (needs B p)
  well_needs (Return a) well = tt
  well_needs (Stop f) well = tt
  well_needs (Need w k) well = well_given w (B w) k refl (λ b. well_needs (k b)) well
  well_needs (Emit s p) well = well_needs p well
