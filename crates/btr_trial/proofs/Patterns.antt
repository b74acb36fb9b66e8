-- Bytes beside a pattern, one by one.
use Rattle.std.proofs.Common.{◌≡◌, ◌∙◌, ℕ, ◌+◌, ◌%◌, ◌<◌, Bool, true, false, nat_lt, List, length, get_or, refl, sym, ap, subst, arith}
use Rattle.std.specs.Str.{bytes_eq}
use Rattle.std.proofs.lemmas.Bool.{ltb-false, ltb-true}
use Rattle.std.proofs.lemmas.List.{ext_get_or}
use Rattle.std.proofs.lemmas.List.FromFn.{get_or-map-range_with_len, length-map-range_with_len}
use Rattle.std.proofs.lemmas.Slice.Eq.{bytes_eq-Decides}
use Rattle.btr_trial.specs.Stated.{pattern}

-- bytes that are others are not found equal, whatever the comparison comes to
differ_by : (xs ys : List ℕ) → (xs ≡ ys → ⊥) → (b : Bool) → bytes_eq xs ys ≡ b → false ≡ bytes_eq xs ys
differ_by xs ys other true e = absurd (other ((bytes_eq-Decides xs ys).0 e))
differ_by xs ys other false e = sym e

-- bytes that are others are not found equal
differ : (xs ys : List ℕ) → (xs ≡ ys → ⊥) → false ≡ bytes_eq xs ys
differ xs ys other = differ_by xs ys other (bytes_eq xs ys) refl

-- what holds of each number below one and of that one holds of a number below the next, by which of both it is
last_or_below : (P : ℕ → Type 0) (n k : ℕ) → ((i : ℕ) → i < n → P i) → P n → k < n + 1 → (b : Bool) → nat_lt k n ≡ b → P k
last_or_below P n k each last below true e = each k (ltb-true k n e)
last_or_below P n k each last below false e = subst P (omega (arith, below, ltb-false k n e)) last

-- what holds of each number below one and of that one holds of each below the next
pub one_more : (P : ℕ → Type 0) (n : ℕ) → ((i : ℕ) → i < n → P i) → P n → (k : ℕ) → k < n + 1 → P k
one_more P n each last k below = last_or_below P n k each last below (nat_lt k n) refl

module _ (bytes : List ℕ) (first len : ℕ) where
  -- a pattern is as long as it says
  long : length (pattern first len) ≡ len
  long = length-map-range_with_len (λ p. (first + p) % 251) 0 len

  -- a byte of a pattern is that of its position
  at : (k : ℕ) → k < len → get_or (pattern first len) k 0 ≡ (first + k) % 251
  at k below = get_or-map-range_with_len (λ p. (first + p) % 251) 0 len k k 0 below (omega arith)

  -- they are as long as the pattern, if they are it
  pub other_length : (length bytes ≡ len → ⊥) → false ≡ bytes_eq bytes (pattern first len)
  other_length other = differ bytes (pattern first len) (λ e. other (ap length e ∙ long))

  -- each byte is that of the pattern, if they are it
  pub other_byte : (k : ℕ) → k < len → (get_or bytes k 0 ≡ (first + k) % 251 → ⊥) → false ≡ bytes_eq bytes (pattern first len)
  other_byte k below other = differ bytes (pattern first len) (λ e. other (ap (λ (l : List ℕ). get_or l k 0) e ∙ at k below))

  -- and they are it where both hold
  pub same_bytes : length bytes ≡ len → ((k : ℕ) → k < len → get_or bytes k 0 ≡ (first + k) % 251) → true ≡ bytes_eq bytes (pattern first len)
  same_bytes is each =
      sym ((bytes_eq-Decides bytes (pattern first len)).1
      (ext_get_or 0 bytes (pattern first len) (is ∙ sym long) (λ k below. each k (rw (sym is) below) ∙ sym (at k (rw (sym is) below)))))
