-- A word is at most one number.
use Rattle.std.proofs.Common.{◌≡◌, ℕ, ◌<◌, ◌^◌, Bool, true, false, cond, ltb, List, Option, Some, None, refl, ap, ◌∙◌, subst, arith}
use Rattle.std.specs.Prelude.{◌&&◌}
use Rattle.std.specs.Bool.{Decides}
use Rattle.std.specs.Fmt.{decimal}
use Rattle.std.specs.Str.{bytes_eq}
use Rattle.std.specs.Str.Parse.{digits_value}
use Rattle.std.proofs.lemmas.Bool.{ltb-true}
use Rattle.std.proofs.lemmas.Bool.Decides.{nat_tests}
use Rattle.std.proofs.lemmas.Fmt.{decimal_is_IsNumeral}
use Rattle.std.proofs.lemmas.Slice.Eq.{bytes_eq-Decides}
use Rattle.btr_run.specs.Numbers.{IsNumber, number_if, number_of}

-- a number that is read by its digits is that of the word
if_sound : (m n : ℕ) (word : List ℕ) → number_if m word ≡ Some n → IsNumber n word
if_sound m n word = of (ltb m (2 ^ 64)) refl (bytes_eq word (decimal m)) (bytes_eq-Decides word (decimal m))
  where
    of : (small : Bool) → ltb m (2 ^ 64) ≡ small → (same : Bool) → Decides same (word ≡ decimal m) → cond (small && same) (Some m) None ≡ Some n
        → IsNumber n word
    of true lt true d e = let is : m ≡ n = cc in subst (λ k. IsNumber k word) is (ltb-true m (2 ^ 64) lt, d.0 refl)
    of true lt false d e = absurd (cc)
    of false lt same d e = absurd (cc)

-- what is read is the number
pub number_sound : (n : ℕ) (word : List ℕ) → number_of word ≡ Some n → IsNumber n word
unfolding number_of
number_sound n word e = if_sound (digits_value 10 word) n word e

-- a number of 64 bits is one by the test
small_number : (n : ℕ) → n < 2 ^ 64 → ltb n (2 ^ 64) ≡ true
small_number n lt = grind (arith, nat_tests)

-- a number is read
pub number_read : (n : ℕ) (word : List ℕ) → IsNumber n word → number_of word ≡ Some n
unfolding number_of
number_read n word is =
    ap (λ m. number_if m word) (ap (digits_value 10) is.1 ∙ (decimal_is_IsNumeral n is.0).1)
    ∙ ap (λ b. cond (b && bytes_eq word (decimal n)) (Some n) None) (small_number n is.0)
    ∙ of (bytes_eq word (decimal n)) (bytes_eq-Decides word (decimal n))
  where
    of : (same : Bool) → Decides same (word ≡ decimal n) → cond (true && same) (Some n) None ≡ Some n
    of true d = refl
    of false d = absurd (cc (d.1 is.1))

-- no number is read where there is none
pub number_none : (word : List ℕ) → ((n : ℕ) → IsNumber n word → ⊥) → number_of word ≡ None
number_none word none = of (number_of word) refl
  where
    of : (o : Option ℕ) → number_of word ≡ o → o ≡ None
    of None e = refl
    of (Some n) e = absurd (none n (number_sound n word e))
