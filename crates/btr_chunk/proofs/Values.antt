-- The values of a map in the order of their keys, and the look-ups of them.
use Rattle.std.proofs.Common.{◌≡◌, ℕ, zero, suc, ◌<◌, List, [], ◌∷◌, get_or, Some, slice_get, sym, ap, ◌∙◌, arith}
use Rattle.std.proofs.lemmas.Map.Entries.{btree_map_get_place, place_from_lookup}
use Rattle.std.proofs.lemmas.Map.Keys.{below_from_sorted}
use Rattle.std.proofs.lemmas.Option.{slice_get-map, slice_get_within, slice_get-get_or}
use Rattle.std.specs.Cmp.{nat_cmp_total}
use Rattle.std.specs.Option.{option_map}
use Rattle.std.specs.List.Sorted.{IsStrictlySortedBy}
use Rattle.std.specs.Map.{keys_of, values_of}
use Rattle.std.specs.Ordering.{nat_cmp}
use Rattle.std.specs.BTreeMap.{BTreeMap, IsOrdered, values, is_at}
use Rattle.btr_chunk.specs.declared.chunk.Chunk.{Chunk}
use Rattle.btr_chunk.specs.Index.{start_of}

-- the entry of a value
pub entry-values_of : (es : List (ℕ × Chunk)) (i : ℕ) (c : Chunk) → slice_get (values_of es) i ≡ Some c → (k : ℕ) × (slice_get es i ≡ Some (k, c))
entry-values_of [] i c there = cc
entry-values_of (e ∷ es) zero c there = let same : e.1 ≡ c = cc in (e.0, ap (λ x. Some (e.0, x)) same)
entry-values_of (e ∷ es) (suc i) c there = entry-values_of es i c there

-- the value of an entry
pub value-entry : (es : List (ℕ × Chunk)) (i k : ℕ) (c : Chunk) → slice_get es i ≡ Some (k, c) → slice_get (values_of es) i ≡ Some c
value-entry [] i k c there = cc
value-entry (e ∷ es) zero k c there = let same : e ≡ (k, c) = cc in ap (λ x. Some x.1) same
value-entry (e ∷ es) (suc i) k c there = value-entry es i k c there

-- a value is that of some key
pub start_of-values : (m : BTreeMap ℕ Chunk) → IsOrdered nat_cmp m → (i : ℕ) (c : Chunk) → slice_get (values m) i ≡ Some c → (k : ℕ) × (start_of m k ≡ Some c)
start_of-values m ordered i c there =
    let entry = entry-values_of m.entries i c there in
    (entry.0, btree_map_get_place nat_cmp_total m i entry.0 c ordered entry.1)

-- what a look-up finds is among the values
pub values-start_of : (m : BTreeMap ℕ Chunk) (k : ℕ) (c : Chunk) → start_of m k ≡ Some c → (i : ℕ) × (slice_get (values m) i ≡ Some c)
values-start_of m k c found =
    let entry = place_from_lookup (is_at (nat_cmp k)) m.entries c found in
    (entry.0, value-entry m.entries entry.0 entry.1 c entry.2)

-- the keys ascend
pub keys-below : (es : List (ℕ × Chunk)) (i j k l : ℕ) (c d : Chunk) → IsStrictlySortedBy nat_cmp (keys_of es) → i < j
    → slice_get es i ≡ Some (k, c) → slice_get es j ≡ Some (l, d) → k < l
keys-below es i j k l c d sorted below here there =
    let key : slice_get (keys_of es) i ≡ Some k = slice_get-map (λ (e : ℕ × Chunk). e.0) es i ∙ ap (option_map (λ (e : ℕ × Chunk). e.0)) here in
    let other : slice_get (keys_of es) j ≡ Some l = slice_get-map (λ (e : ℕ × Chunk). e.0) es j ∙ ap (option_map (λ (e : ℕ × Chunk). e.0)) there in
    let within = slice_get_within (keys_of es) j l other in
    let first : Some k ≡ Some (get_or (keys_of es) i 0) = sym key ∙ slice_get-get_or (keys_of es) i 0 (omega arith) in
    let second : Some l ≡ Some (get_or (keys_of es) j 0) = sym other ∙ slice_get-get_or (keys_of es) j 0 within in
    let k_is : k ≡ get_or (keys_of es) i 0 = cc in
    let l_is : l ≡ get_or (keys_of es) j 0 = cc in
    omega (arith, below_from_sorted (keys_of es) i j 0 sorted below within)
