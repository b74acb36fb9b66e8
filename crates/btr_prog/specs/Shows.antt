-- Programs that only show the bytes of some wants: whatever these are, what follows is the same but for the steps.
use Rattle.std.specs.Prelude.{◌≡◌, ℕ, Bool, IsTrue, List}
use Rattle.btr_prog.specs.Prog.{Prog, Return, Stop, Need, Emit}

module _ {W F S A : Type 0} where
  -- two programs are the same but for their steps, which stand one by one in a relation
  abbrev pub AreAlike : (S → S → Type 0) → Prog W F S A → Prog W F S A → Type 0
  AreAlike R (Return a) (Return b) = a ≡ b
  AreAlike R (Stop f) (Stop g) = f ≡ g
  AreAlike R (Need w k) (Need v l) = (w ≡ v) × ((bytes : List ℕ) → AreAlike R (k bytes) (l bytes))
  AreAlike R (Emit s p) (Emit t q) = R s t × AreAlike R p q
  AreAlike R p q = ⊥

  -- whatever the bytes of a want that passes a test are, what follows is alike
  abbrev pub OnlyShows : (S → S → Type 0) → (W → Bool) → Prog W F S A → Type 0
  OnlyShows R plain (Return a) = Unit {0}
  OnlyShows R plain (Stop f) = Unit {0}
  OnlyShows R plain (Need w k) =
      ((bytes : List ℕ) → OnlyShows R plain (k bytes)) × (IsTrue (plain w) → (bytes others : List ℕ) → AreAlike R (k bytes) (k others))
  OnlyShows R plain (Emit s p) = OnlyShows R plain p
