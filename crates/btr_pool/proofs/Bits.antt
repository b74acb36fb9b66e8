-- Facts about the bits that say which slots are lent.
use Rattle.std.proofs.Common.{◌≡◌, ◌≢◌, ℕ, zero, suc, ◌-◌, ◌*◌, ◌/◌, ◌%◌, ◌^◌, ◌<◌, ◌≤◌, ◌↔◌, ◌⊎◌, Bool, true, false, not, cond, eqb, List, length, get_or, set}
use Rattle.std.proofs.Common.{map, count_by, replicate, bit_and, bit_or, refl, sym, ap, ◌∙◌, subst, inl, inr, arith, w64}
use Rattle.std.specs.Int.{bit_at, bit_not}
use Rattle.std.specs.Int.RustNames.{count_ones}
use Rattle.std.proofs.lemmas.Bool.{cases_eq, cases_lt}
use Rattle.std.proofs.lemmas.List.{length-map, length-set, length-replicate, same_lists, get_or-set_same, get_or-set_other, get_or-map, get_or_past}
use Rattle.std.proofs.lemmas.List.{get_or-replicate}
use Rattle.std.proofs.lemmas.List.FromFn.{length-map-range_with_len, get_or-map-range_with_len}
use Rattle.std.proofs.lemmas.Nat.{zero_from_ones, ones_le_self, and_le_l, or_lt, one_shl, pow_pos, pow_below}
use Rattle.std.proofs.lemmas.Nat.Bits.{bit_at-lt, bit_at_above, bit_at_ones, bit_at_and, same_from_bits, and_pow, bit_at_set_same, bit_at_set_other}
use Rattle.std.proofs.lemmas.Nat.Bits.{bit_at_clear_same, bit_at_clear_other, bit_at-trailing_zeros, ones_shr}
use Rattle.std.specs.Int.{trailing_zeros}
use Rattle.std.proofs.lemmas.Simd.{ones-mask_l, bit_mask_l}
use lib.Lanes.{mask_l}
use Rattle.btr_pool.specs.Ledger.{lent_of}

-- the ledger has an entry for each slot
pub length-lent_of : (count free : ℕ) → length (lent_of count free) ≡ count
length-lent_of count free = length-map-range_with_len (λ k. eqb (bit_at free k) 0) 0 count

-- a slot is lent where its bit is 0
pub get_or-lent_of : (count free k : ℕ) (d : Bool) → k < count → get_or (lent_of count free) k d ≡ eqb (bit_at free k) 0
get_or-lent_of count free k d lt = get_or-map-range_with_len (λ j. eqb (bit_at free j) 0) 0 count k k d lt (omega arith)

-- a slot that isn't there is not free
pub lent_past : (count free k : ℕ) → count ≤ k → get_or (lent_of count free) k true ≡ true
lent_past count free k le = get_or_past (lent_of count free) k true (omega (arith, length-lent_of count free))

-- one bit changed, and so one slot
pub lent_changed : (count before after k : ℕ) (lent : Bool) → count ≤ 64 → eqb (bit_at after k) 0 ≡ lent
    → ((i : ℕ) → i < 64 → i ≢ k → bit_at after i ≡ bit_at before i) → lent_of count after ≡ set (lent_of count before) k lent
lent_changed count before after k lent few here others =
    let old : List Bool = lent_of count before in
    let size : length (lent_of count after) ≡ count = length-lent_of count after in
    let old_size : length old ≡ count = length-lent_of count before in
    same_lists (lent_of count after) (set old k lent) (size ∙ sym (length-set old k lent ∙ old_size)) (λ i d lt.
    let below : i < count = omega (arith, lt, size) in
    let new : get_or (lent_of count after) i d ≡ eqb (bit_at after i) 0 = get_or-lent_of count after i d below in
    elim (cases_eq i k) [
      | inl e ↦ new ∙ ap (λ j. eqb (bit_at after j) 0) e ∙ here
          ∙ sym (ap (λ j. get_or (set old k lent) j d) e ∙ get_or-set_same old k lent d (omega (arith, below, e, old_size)))
      | inr ne ↦ new ∙ ap (λ b. eqb b 0) (others i (omega (arith, below, few)) ne) ∙ sym (get_or-lent_of count before i d below)
          ∙ sym (get_or-set_other old k i lent d ne)
    ])

-- a bit is 1 or 0 as the test of it says
bit_back : (b : ℕ) → b < 2 → cond (not (eqb b 0)) 1 0 ≡ b
bit_back zero lt = refl
bit_back (suc zero) lt = refl
bit_back (suc (suc b)) lt = absurd (omega arith)

-- the bits are those of the slots that are not lent
free_is : (count free : ℕ) → free < 2 ^ count → mask_l (map not (lent_of count free)) ≡ free
free_is count free within =
    let lent : List Bool = lent_of count free in
    same_from_bits (mask_l (map not lent)) free (λ i.
    bit_mask_l (map not lent) i ∙ elim (cases_lt i count) [
      | inl lt ↦ ap (λ b. cond b 1 0) (get_or-map not lent i true false (omega (arith, lt, length-lent_of count free))
          ∙ ap not (get_or-lent_of count free i true lt)) ∙ bit_back (bit_at free i) (bit_at-lt free i)
      | inr le ↦ ap (λ b. cond b 1 0) (get_or_past (map not lent) i false (omega (arith, le, length-map lent not, length-lent_of count free)))
          ∙ sym (bit_at_above free count i within le)
    ])

-- as many bits are 1 as slots are free
pub count_ones_free : (count free : ℕ) → free < 2 ^ count → count_ones free ≡ count_by not (lent_of count free)
count_ones_free count free within = ap count_ones (sym (free_is count free within)) ∙ ones-mask_l not (lent_of count free)

-- no bit is 1 where no slot is free
pub none_free : (count free : ℕ) → free < 2 ^ count → (free ≡ 0) ↔ (count_by not (lent_of count free) ≡ 0)
none_free count free within =
    let ones = count_ones_free count free within in
    (λ none. omega (arith, ones, ones_le_self free, none), λ none. zero_from_ones free (ones ∙ none))

-- `1 << k`
abbrev pub bit : ℕ → ℕ
bit k = 1 * 2 ^ k % 2 ^ 64

-- the test `free & (1 << k) == 0`
pub bit_when_clear : (free k : ℕ) → k < 64 → bit_and free (bit k) ≡ 0 → bit_at free k ≡ 0
bit_when_clear free k lt none =
    let test : bit_and free (bit k) ≡ bit_at free k * 2 ^ k = ap (bit_and free) (one_shl k 64 lt) ∙ and_pow free k in
    zero_factor (bit_at free k) (2 ^ k) (pow_pos k) (sym test ∙ none)
  where
    -- where a product with a positive factor is 0, the other factor is 0
    zero_factor : (a b : ℕ) → 0 < b → a * b ≡ 0 → a ≡ 0
    zero_factor zero b pos e = refl
    zero_factor (suc a) b pos e = absurd (omega (arith, pos, e))

-- where `free & (1 << k)` is not 0, the bit is 1
pub bit_when_set : (free k : ℕ) → k < 64 → (bit_and free (bit k) ≡ 0 → ⊥) → bit_at free k ≡ 1
bit_when_set free k lt some =
    let test : bit_and free (bit k) ≡ bit_at free k * 2 ^ k = ap (bit_and free) (one_shl k 64 lt) ∙ and_pow free k in
    let none : 0 * 2 ^ k ≡ 0 = omega arith in
    one_of (bit_at free k) (bit_at-lt free k) (λ e. some (test ∙ ap (λ b. b * 2 ^ k) e ∙ none))
  where
    -- a bit that is not 0 is 1
    one_of : (a : ℕ) → a < 2 → (a ≡ 0 → ⊥) → a ≡ 1
    one_of zero lt ne = absurd (ne refl)
    one_of (suc zero) lt ne = refl
    one_of (suc (suc a)) lt ne = absurd (omega arith)

-- slot k is free, and then lent
pub record IsLent (count free : ℕ) (lent : List Bool) (k : ℕ) : Type 0 where
  pub was_free : get_or lent k true ≡ false
  pub within : bit_and free (bit_not w64 (bit k)) < 2 ^ count
  pub after : lent_of count (bit_and free (bit_not w64 (bit k))) ≡ set lent k true

-- a free slot whose bit is cleared is lent, and no other changes
pub lent_when_free : (count free k : ℕ) (lent : List Bool) → lent_of count free ≡ lent → free < 2 ^ count → count ≤ 64 → k < 64 → bit_at free k ≡ 1
    → IsLent count free lent k
lent_when_free count free k lent view within few lt one =
    let below : k < count = elim (cases_lt k count) [ inl lt ↦ lt | inr le ↦ absurd (omega (arith, one, bit_at_above free count k within le)) ] in
    let was_free : get_or (lent_of count free) k true ≡ false = get_or-lent_of count free k true below ∙ ap (λ b. eqb b 0) one in
    let after = lent_changed count free (bit_and free (bit_not w64 (bit k))) k true few (ap (λ b. eqb b 0) (bit_at_clear_same w64 free k lt))
    (bit_at_clear_other w64 free k lt) in
    record {
      was_free = ap (λ l. get_or l k true) (sym view) ∙ was_free;
      within = omega (arith, within, and_le_l free (bit_not w64 (bit k)));
      after = after ∙ ap (λ l. set l k true) view;
    }

-- slot k isn't there, or it is lent
pub lent_otherwise : (count free k : ℕ) (lent : List Bool) → lent_of count free ≡ lent → count ≤ 64 → (64 ≤ k) ⊎ (bit_at free k ≡ 0) → get_or lent k true ≡ true
lent_otherwise count free k lent view few why = ap (λ l. get_or l k true) (sym view) ∙ elim (cases_lt k count) [
  | inr le ↦ lent_past count free k le
  | inl lt ↦ get_or-lent_of count free k true lt ∙ elim why [ inl far ↦ absurd (omega (arith, lt, few, far)) | inr zero_bit ↦ ap (λ b. eqb b 0) zero_bit ]
]

-- slot k is taken back
pub record IsFreed (count free : ℕ) (lent : List Bool) (k : ℕ) : Type 0 where
  pub within : bit_or free (bit k) < 2 ^ count
  pub after : lent_of count (bit_or free (bit k)) ≡ set lent k false

-- a slot whose bit is set is free, and no other changes
pub freed : (count free k : ℕ) (lent : List Bool) → lent_of count free ≡ lent → free < 2 ^ count → count ≤ 64 → k < count → IsFreed count free lent k
freed count free k lent view within few below =
    let lt : k < 64 = omega (arith, below, few) in
    let after = lent_changed count free (bit_or free (bit k)) k false few (ap (λ b. eqb b 0) (bit_at_set_same w64 free k lt))
    (bit_at_set_other_below free k lt) in
    record {
      within = or_lt count free (bit k) within (omega (arith, one_shl k 64 lt, pow_below k count below));
      after = after ∙ ap (λ l. set l k false) view;
    }
  where
    -- setting one bit leaves the other bits as they were
    bit_at_set_other_below : (free k : ℕ) → k < 64 → (i : ℕ) → i < 64 → i ≢ k → bit_at (bit_or free (bit k)) i ≡ bit_at free i
    bit_at_set_other_below free k lt i _ ne = bit_at_set_other w64 free k lt i ne

-- `u64::MAX >> (64 - count)`: no slot is lent
pub record IsAllFree (count free : ℕ) : Type 0 where
  pub within : free < 2 ^ count
  pub view : lent_of count free ≡ replicate count false

-- with as many bits as there are slots, all are free
pub all_free : (count : ℕ) → count ≤ 64 → IsAllFree count ((2 ^ 64 - 1) / 2 ^ (64 - count))
all_free count few =
    let back : 64 - (64 - count) ≡ count = omega (arith, few) in
    let is : (2 ^ 64 - 1) / 2 ^ (64 - count) ≡ 2 ^ count - 1 = ones_shr 64 (64 - count) (omega arith) ∙ ap (λ n. 2 ^ n - 1) back in
    subst (IsAllFree count) (sym is) record {
      within = omega (arith, pow_pos count);
      view = same_lists (lent_of count (2 ^ count - 1)) (replicate count false)
          (length-lent_of count (2 ^ count - 1) ∙ sym (length-replicate count false)) (λ i d lt.
          let below : i < count = omega (arith, lt, length-lent_of count (2 ^ count - 1)) in
          get_or-lent_of count (2 ^ count - 1) i d below ∙ ap (λ b. eqb b 0) (bit_at_ones count i below) ∙ sym (get_or-replicate count i false d below));
    }

-- the lowest 1 of some of the bits is one of the bits
pub lowest_is_one : (bits mask : ℕ) → bits < 2 ^ 64 → (bit_and bits mask ≡ 0 → ⊥) → bit_at bits (trailing_zeros w64 (bit_and bits mask)) ≡ 1
lowest_is_one bits mask fits some =
    let some_bits = bit_and bits mask in
    let k = trailing_zeros w64 some_bits in
    let lowest = bit_at-trailing_zeros w64 some_bits (omega (arith, some)) (omega (arith, fits, and_le_l bits mask)) in
    let both = bit_at_and bits mask k in
    omega (arith, lowest.1, both, bit_at-lt bits k)
