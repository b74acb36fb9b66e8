-- One octal digit more.
use Rattle.std.proofs.Common.{◌≡◌, ℕ, zero, suc, ◌+◌, ◌-◌, ◌/◌, ◌%◌, ◌<◌, ◌≤◌, true, false, eqb, ltb, List, [], ◌∷◌, length, set, drop, refl, ap, ◌∙◌, arith}
use Rattle.std.specs.Fmt.{digits, digits_onto}
use Rattle.std.proofs.lemmas.Bool.Decides.{nat_tests}
use Rattle.std.proofs.lemmas.List.{drop_more, get_or-set_same, drop-set-lt, length-set}

-- before the first digit nothing is written, with room for 64
pub octal_begins : (n : ℕ) → digits_onto 64 8 false n [] ≡ digits 8 false n
unfolding digits
octal_begins n = refl

-- the highest digit, where nothing is left above it, ends the number
pub octal_last : (i n : ℕ) (acc : List ℕ) → 0 < i → n / 8 ≡ 0 → digits_onto i 8 false n acc ≡ (48 + n % 8) ∷ acc
octal_last zero n acc some is = absurd (omega arith)
octal_last (suc k) n acc some is =
    let e : eqb (n / 8) 0 ≡ true = grind (arith, nat_tests) in let g : ltb (n % 8) 10 ≡ true = grind (arith, nat_tests) in rw (e, g) refl

-- a digit with more above it stands behind those of what is left
pub octal_step : (i n : ℕ) (acc : List ℕ) → 0 < i → (n / 8 ≡ 0 → ⊥) → digits_onto i 8 false n acc ≡ digits_onto (i - 1) 8 false (n / 8) ((48 + n % 8) ∷ acc)
octal_step zero n acc some is = absurd (omega arith)
octal_step (suc k) n acc some is =
    let e : eqb (n / 8) 0 ≡ false = grind (arith, nat_tests) in
    let g : ltb (n % 8) 10 ≡ true = grind (arith, nat_tests) in
    let one : k ≡ suc k - 1 = omega arith in
    rw (e, g) (ap (λ j. digits_onto j 8 false (n / 8) ((48 + n % 8) ∷ acc)) one)

-- a digit written before those behind it
pub digit_before : (bytes : List ℕ) (i x : ℕ) → 0 < i → i ≤ length bytes → drop (i - 1) (set bytes (i - 1) x) ≡ x ∷ drop i bytes
digit_before bytes i x some within =
    let next : i - 1 + 1 ≡ i = omega arith in
    drop_more (set bytes (i - 1) x) (i - 1) 0 (omega (arith, length-set bytes (i - 1) x))
    ∙ ap (λ b. b ∷ drop (i - 1 + 1) (set bytes (i - 1) x)) (get_or-set_same bytes (i - 1) x 0 (omega arith))
    ∙ ap (λ j. x ∷ drop j (set bytes (i - 1) x)) next
    ∙ ap (λ l. x ∷ l) (drop-set-lt i bytes (i - 1) x (omega arith))
