-- One program after another.
use Rattle.std.proofs.Common.{◌≡◌, ℕ, Bool, true, false, cond, refl, ap}
use Rattle.std.proofs.Math.Path.{fun_ext}
use Rattle.std.specs.Prelude.{◌==◌}
use Rattle.btr_prog.specs.Prog.{Prog, Return, Stop, Need, Emit, bind}
use Rattle.btr_volume.specs.Lookup.{Program}
use Rattle.btr_files.specs.Content.{Piece, Gap, gap}

module _ {W F S : Type 0} where
  pub bind_assoc : {A B C : Type 0} (p : Prog W F S A) (k : A → Prog W F S B) (h : B → Prog W F S C) → bind (bind p k) h ≡ bind p (λ a. bind (k a) h)
  bind_assoc (Return a) k h = refl
  bind_assoc (Stop f) k h = refl
  bind_assoc (Need w g) k h = ap (Need w) (fun_ext (λ bytes. bind_assoc (g bytes) k h))
  bind_assoc (Emit s p) k h = ap (Emit s) (bind_assoc p k h)

  -- what follows may be replaced where it is the same after each value
  pub bind_same : {A B : Type 0} (p : Prog W F S A) (k h : A → Prog W F S B) → ((a : A) → k a ≡ h a) → bind p k ≡ bind p h
  bind_same p k h e = ap (bind p) (fun_ext e)

-- zeros or none before a program, and then another
gap_if : {A B : Type 0} (b : Bool) (n : ℕ) (p : Program Piece A) (k : A → Program Piece B) → bind (cond b p (Emit (Gap n) p)) k
    ≡ cond b (bind p k) (Emit (Gap n) (bind p k))
gap_if true n p k = refl
gap_if false n p k = refl

-- zeros before a program, and then another
pub gap_bind : {A B : Type 0} (n : ℕ) (p : Program Piece A) (k : A → Program Piece B) → bind (gap n p) k ≡ gap n (bind p k)
gap_bind n p k = gap_if (n == 0) n p k
