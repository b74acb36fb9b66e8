-- What a system array comes to, pair by pair.
use Rattle.std.proofs.Common.{◌≡◌, ℕ, zero, suc, ◌<◌, ◌≤◌, true, inl, inr, List, length, drop, slice_range, Result, Ok, Err, sym, ◌∙◌, subst, refl, arith}
use Rattle.std.proofs.Common.{length-drop}
use Rattle.std.proofs.lemmas.Bool.{eq-eqb, ne_eqb, cases_eq}
use Rattle.btr_base.specs.Field.{number_at}
use Rattle.btr_chunk.specs.declared.chunk.Chunk.{Chunk}
use Rattle.btr_chunk.specs.declared.array.ArrayFault.{ArrayFault}
use Rattle.btr_chunk.specs.declared.array.ArrayFault.TheVariants.{BadArray, Stripes, BadChunk, Memory}
use Rattle.btr_chunk.specs.Item.{chunk_of}
use Rattle.btr_chunk.specs.Array.{begins_pair, pair_size, with_item, first_pair, and_then, array_after, IsItemReading, IsArrayReading}

-- the first pair, where there is one
pub first_pair-is : (chunks : List Chunk) (bytes : List ℕ) (start size : ℕ) → begins_pair bytes ≡ true → start ≡ number_at 8 9 bytes → size ≡ pair_size bytes
    → first_pair chunks bytes ≡ with_item chunks start (chunk_of start (slice_range bytes 17 size))
first_pair-is chunks bytes start size begins start_is size_is =
    rw (start_is, size_is, begins) refl

-- an array with nothing left
pub array_after-empty : (n : ℕ) (chunks : List Chunk) (bytes : List ℕ) → length bytes ≡ 0 → array_after n chunks bytes ≡ Ok chunks
array_after-empty zero chunks bytes none = refl
array_after-empty (suc n) chunks bytes none = rw (eq-eqb (length bytes) 0 none) refl

-- after a first part, reading goes on alike where the rests are alike
and_then-same : (r : Result (List Chunk) ArrayFault) (f g : List Chunk → Result (List Chunk) ArrayFault) → ((more : List Chunk) → f more ≡ g more)
    → and_then r f ≡ and_then r g
and_then-same (Ok more) f g same = same more
and_then-same (Err fault) f g same = refl

-- any bound on the number of pairs will do
pub array_after-enough : (n m : ℕ) (chunks : List Chunk) (bytes : List ℕ) → length bytes ≤ n → length bytes ≤ m → array_after n chunks bytes
    ≡ array_after m chunks bytes
array_after-enough zero m chunks bytes few enough = sym (array_after-empty m chunks bytes (omega arith))
array_after-enough (suc n) zero chunks bytes few enough = array_after-empty (suc n) chunks bytes (omega arith)
array_after-enough (suc n) (suc m) chunks bytes few enough =
    let rest = drop (pair_size bytes) bytes in
    elim (cases_eq (length bytes) 0) [
      | inl none ↦ array_after-empty (suc n) chunks bytes none ∙ sym (array_after-empty (suc m) chunks bytes none)
      | inr some ↦
          rw (ne_eqb (length bytes) 0 some) (and_then-same (first_pair chunks bytes) (λ more. array_after n more rest) (λ more. array_after m more rest)
          (λ more. array_after-enough n m more rest (omega (arith, length-drop (pair_size bytes) bytes)) (omega (arith, length-drop (pair_size bytes) bytes))))
    ]

-- an array whose first pair is read goes on behind it
pub array_after-more : (chunks : List Chunk) (bytes : List ℕ) (more : List Chunk) → 0 < length bytes → first_pair chunks bytes ≡ Ok more
    → array_after (length bytes) chunks bytes ≡ array_after (length (drop (pair_size bytes) bytes)) more (drop (pair_size bytes) bytes)
array_after-more chunks bytes more some first = by_length (length bytes) refl
  where
    -- by the number of bytes, an array whose first pair is read goes on behind that pair
    by_length : (n : ℕ) → length bytes ≡ n → array_after n chunks bytes
        ≡ array_after (length (drop (pair_size bytes) bytes)) more (drop (pair_size bytes) bytes)
    by_length zero none = absurd (omega arith)
    by_length (suc n) long =
        rw (ne_eqb (length bytes) 0 (λ none. omega arith), first)
        (array_after-enough n (length (drop (pair_size bytes) bytes)) more (drop (pair_size bytes) bytes)
        (omega (arith, length-drop (pair_size bytes) bytes)) (omega arith))

-- and one whose first pair is refused ends there
pub array_after-refused : (chunks : List Chunk) (bytes : List ℕ) (fault : ArrayFault) → 0 < length bytes → first_pair chunks bytes ≡ Err fault
    → array_after (length bytes) chunks bytes ≡ Err fault
array_after-refused chunks bytes fault some first = by_length (length bytes) refl
  where
    -- by the number of bytes, an array whose first pair is refused is refused
    by_length : (n : ℕ) → length bytes ≡ n → array_after n chunks bytes ≡ Err fault
    by_length zero none = absurd (omega arith)
    by_length (suc n) long = rw (ne_eqb (length bytes) 0 (λ none. omega arith), first) refl

-- the refusal of a pair is that of the array
pub IsArrayReading-refused : (T : Type 0) (array pair : Result (List Chunk) ArrayFault) (fault : ArrayFault) (new : List Chunk)
    → IsItemReading {T = T} pair (Err fault) new
    → ((pair ≡ Err fault) → array ≡ Err fault) → IsArrayReading array (Err fault)
IsArrayReading-refused T array pair BadArray new reading ends = ends reading
IsArrayReading-refused T array pair (Stripes n) new reading ends = ends reading
IsArrayReading-refused T array pair (BadChunk start) new reading ends = ends reading
IsArrayReading-refused T array pair Memory new reading ends = tt

-- the readings of items that come to the same
pub IsItemReading-same : (T : Type 0) (item other : Result (List Chunk) ArrayFault) (r : Result T ArrayFault) (new : List Chunk) → item ≡ other
    → IsItemReading {T = T} other r new → IsItemReading {T = T} item r new
IsItemReading-same T item other r new same reading = subst (λ (x : Result (List Chunk) ArrayFault). IsItemReading {T = T} x r new) (sym same) reading
