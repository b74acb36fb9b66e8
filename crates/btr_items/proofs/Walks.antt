-- The parts of a body, one by one.
use Rattle.std.proofs.Common.{◌≡◌, ℕ, zero, suc, ◌+◌, ◌<◌, ◌≤◌, Bool, true, false, cond, eqb, List, [], ◌∷◌, length, Result, Ok, Err, refl, sym, ap, ◌∙◌, arith}
use Rattle.std.proofs.Common.{eq-eqb}
use Rattle.std.specs.List.{All}
use Rattle.std.proofs.lemmas.List.Elements.{All-nil, All-cons}
use Rattle.std.proofs.lemmas.Bool.Decides.{nat_tests}
use Rattle.btr_items.specs.Parts.{followed_by, place_behind, parts_within, parts_from}
use Rattle.btr_items.specs.declared.fault.ItemFault.{ItemFault}

-- a number is not one above it
differs : (x y : ℕ) → x < y → eqb x y ≡ false
differs x y lt = grind (arith, nat_tests)

-- behind what was read the parts may be any that are the same for it
followed : {T : Type 0} (read : Result T ItemFault) (f g : T → List (Result T ItemFault)) → ((part : T) → read ≡ Ok part → f part ≡ g part)
    → followed_by read f ≡ followed_by read g
followed (Ok part) f g same = ap (λ (l : List (Result _ ItemFault)). Ok part ∷ l) (same part refl)
followed (Err fault) f g same = refl

-- at the body's end there are no parts
pub none_at_end : {T : Type 0} (part_at : ℕ → List ℕ → Result T ItemFault) (end_of : T → ℕ) (most at : ℕ) (body : List ℕ) → at ≡ length body
    → parts_within part_at end_of most at body ≡ []
unfolding parts_within
none_at_end part_at end_of zero at body is = refl
none_at_end part_at end_of (suc most) at body is = rw (eq-eqb at (length body) is) refl

module _ {T : Type 0} (part_at : ℕ → List ℕ → Result T ItemFault) (end_of : T → ℕ)
    (ends_within : (at : ℕ) (body : List ℕ) (part : T) → part_at at body ≡ Ok part → (at < end_of part) × (end_of part ≤ length body)) where
  -- asking for more parts than there can be gives no others
  enough : (m n at : ℕ) (body : List ℕ) → at ≤ length body → length body ≤ m + at → length body ≤ n + at → parts_within part_at end_of m at body
      ≡ parts_within part_at end_of n at body
  unfolding parts_within
  enough zero n at body within few many = sym (none_at_end part_at end_of n at body (omega arith))
  enough (suc m) zero at body within few many = none_at_end part_at end_of (suc m) at body (omega arith)
  enough (suc m) (suc n) at body within few many =
      ap (λ (l : List (Result T ItemFault)). cond (eqb at (length body)) [] l)
      (followed (part_at at body) (λ part. parts_within part_at end_of m (end_of part) body) (λ part. parts_within part_at end_of n (end_of part) body)
      (λ part is. let ends = ends_within at body part is in enough m n (end_of part) body ends.1 (omega (arith, ends.0)) (omega (arith, ends.0))))

  -- with enough parts to ask for, those behind what was read are all that are there
  rest : (m at : ℕ) (body : List ℕ) (read : Result T ItemFault) → part_at at body ≡ read → length body ≤ suc m + at
      → followed_by read (λ part. parts_within part_at end_of m (end_of part) body)
      ≡ read ∷ parts_from part_at end_of (place_behind end_of (length body) read) body
  rest m at body (Ok part) is many =
      let ends = ends_within at body part is in
      ap (λ (l : List (Result T ItemFault)). Ok part ∷ l) (enough m (length body) (end_of part) body ends.1 (omega (arith, ends.0)) (omega arith))
  rest m at body (Err fault) is many = ap (λ (l : List (Result T ItemFault)). Err fault ∷ l)
      (sym (none_at_end part_at end_of (length body) (length body) body refl))

  -- before the body's end the parts are the one that is read and those behind it
  more_of : (most at : ℕ) (body : List ℕ) → at < length body → length body ≤ most + at
      → parts_within part_at end_of most at body ≡ part_at at body ∷ parts_from part_at end_of (place_behind end_of (length body) (part_at at body)) body
  unfolding parts_within
  more_of zero at body lt many = absurd (omega arith)
  more_of (suc m) at body lt many = rw (differs at (length body) lt) (rest m at body (part_at at body) refl many)

  -- before the body's end the first part is the one that is read, and the others stand behind it
  pub more : (at next : ℕ) (body : List ℕ) (read : Result T ItemFault) → at ≤ length body → (at ≡ length body → ⊥) → read ≡ part_at at body → next
      ≡ place_behind end_of (length body) read
      → parts_from part_at end_of at body ≡ read ∷ parts_from part_at end_of next body
  more at next body read within before is behind =
      more_of (length body) at body (omega arith) (omega arith)
      ∙ (λ i. sym is i ∷ parts_from part_at end_of ((ap (place_behind end_of (length body)) (sym is) ∙ sym behind) i) body)

  -- behind what was read there is a place of the body
  pub behind_within : (at : ℕ) (body : List ℕ) (read : Result T ItemFault) → part_at at body ≡ read → place_behind end_of (length body) read ≤ length body
  behind_within at body (Ok part) is = (ends_within at body part is).1
  behind_within at body (Err fault) is = omega arith

-- what holds of the part that was read and of all behind it holds of each
all_followed : {T : Type 0} (P : Result T ItemFault → Type 0) (done : Bool) (read : Result T ItemFault) (behind : T → List (Result T ItemFault))
    → P read → ((part : T) → All P (behind part)) → All P (cond done [] (followed_by read behind))
all_followed P true read behind holds others = All-nil P
all_followed P false (Ok part) behind holds others = All-cons P (Ok part) (behind part) holds (others part)
all_followed P false (Err fault) behind holds others = All-cons P (Err fault) [] holds (All-nil P)

-- what holds of all that can be read holds of each in the list
pub all_parts : {T : Type 0} (part_at : ℕ → List ℕ → Result T ItemFault) (end_of : T → ℕ) (P : Result T ItemFault → Type 0) (body : List ℕ)
    → ((at : ℕ) → P (part_at at body)) → (most at : ℕ) → All P (parts_within part_at end_of most at body)
unfolding parts_within
all_parts part_at end_of P body each zero at = All-nil P
all_parts part_at end_of P body each (suc most) at =
    all_followed P (eqb at (length body)) (part_at at body) (λ part. parts_within part_at end_of most (end_of part) body) (each at)
    (λ part. all_parts part_at end_of P body each most (end_of part))
