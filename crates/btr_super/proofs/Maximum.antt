-- A superblock that none exceeds, and that exceeds those before it, is the newest.
use Rattle.std.proofs.Common.{◌≡◌, ℕ, zero, suc, ◌<◌, ◌≤◌, Bool, true, false, leb, ◌&&◌, List, [], ◌∷◌, length, get_or, Some, refl, arith}
use Rattle.std.specs.List.{slice_get, list_all, find}
use Rattle.std.proofs.lemmas.Bool.Decides.{nat_tests}
use Rattle.std.proofs.lemmas.List.Sums.{position_or_len_is}
use Rattle.std.proofs.lemmas.Option.{slice_get-get_or}
use Rattle.btr_super.specs.Newest.{is_newest, newest, newest_index, IsNewest}
use Rattle.btr_super.specs.declared.superblock.Super.{Super}

-- two tests of which the second fails do not both pass
and_false : (b : Bool) {c : Bool} → c ≡ false → (b && c) ≡ false
and_false true e = e
and_false false e = refl

module _ {X : Type 0} where
  -- where each element passes, all do
  all_true : (test : X → Bool) (xs : List X) → ((k : ℕ) (x : X) → slice_get xs k ≡ Some x → test x ≡ true) → list_all test xs ≡ true
  all_true test [] all = refl
  all_true test (x ∷ xs) all = rw (all 0 x refl) (all_true test xs (λ k y e. all (suc k) y e))

  -- where one element fails, not all pass
  one_false : (test : X → Bool) (xs : List X) (i : ℕ) (x : X) → slice_get xs i ≡ Some x → test x ≡ false → list_all test xs ≡ false
  one_false test [] i x at fails = absurd (cc)
  one_false test (y ∷ xs) zero x at fails = let same : y ≡ x = cc in rw (same, fails) refl
  one_false test (y ∷ xs) (suc i) x at fails = and_false (test y) (one_false test xs i x at fails)

  -- the first element that passes is found
  find_first : (test : X → Bool) (xs : List X) (i : ℕ) (x : X) → slice_get xs i ≡ Some x → test x ≡ true
      → ((k : ℕ) (y : X) → k < i → slice_get xs k ≡ Some y → test y ≡ false) → find test xs ≡ Some x
  find_first test [] i x at passes none = absurd (cc)
  find_first test (y ∷ xs) zero x at passes none = let same : y ≡ x = cc in rw (same, passes) refl
  find_first test (y ∷ xs) (suc i) x at passes none = rw (none 0 y (omega arith) refl)
      (find_first test xs i x at passes (λ k z lt e. none (suc k) z (omega arith) e))

-- a superblock that none exceeds is a newest
is_greatest : (supers : List Super) (s : Super) → ((k : ℕ) (t : Super) → slice_get supers k ≡ Some t → t.generation ≤ s.generation) → is_newest supers s ≡ true
is_greatest supers s greatest = all_true (λ t. leb t.generation s.generation) supers (λ k t e. let le = greatest k t e in grind (arith, nat_tests))

-- a superblock that another one exceeds is not the newest
is_exceeded : (supers : List Super) (s t : Super) (i : ℕ) → slice_get supers i ≡ Some t → s.generation < t.generation → is_newest supers s ≡ false
is_exceeded supers s t i at lt = one_false (λ u. leb u.generation s.generation) supers i t at (grind (arith, nat_tests))

-- the newest is the one that stands in the list, that none exceeds, and that exceeds those before it
pub newest_is : (supers : List Super) (s : Super) → IsNewest supers s → newest supers ≡ Some s
newest_is supers s is =
    find_first (is_newest supers) supers is.index s is.stands (is_greatest supers s is.greatest)
    (λ k t lt at. is_exceeded supers t s is.index is.stands (is.first k t lt at))

-- a superblock of the list stands below its length
get_below : (supers : List Super) (k : ℕ) (s : Super) → slice_get supers k ≡ Some s → k < length supers
get_below [] k s e = absurd (cc)
get_below (t ∷ supers) zero s e = omega arith
get_below (t ∷ supers) (suc k) s e = omega (arith, get_below supers k s e)

-- the one at an index is the first with the greatest generation among the first n
pub record IsNewestAt (supers : List Super) (n index : ℕ) : Type 0 where
  pub greatest : (k : ℕ) (s t : Super) → k < n → slice_get supers k ≡ Some s → slice_get supers index ≡ Some t → s.generation ≤ t.generation
  pub first : (k : ℕ) (s t : Super) → k < index → slice_get supers k ≡ Some s → slice_get supers index ≡ Some t → s.generation < t.generation

-- a superblock of the list, by its index
stands : (supers : List Super) (k : ℕ) (d : Super) → k < length supers → slice_get supers k ≡ Some (get_or supers k d)
stands supers k d lt = slice_get-get_or supers k d lt

-- the one that is the first with the greatest generation among all stands at the index of the newest
newest_index_at : (supers : List Super) (n index : ℕ) (d : Super) → index < length supers → length supers ≤ n → IsNewestAt supers n index
    → newest_index supers ≡ index
newest_index_at supers n index d lt all is =
    let here = get_or supers index d in
    position_or_len_is (is_newest supers) supers index d (omega arith)
    (λ k below. is_exceeded supers (get_or supers k d) here index (stands supers index d lt)
    (is.first k (get_or supers k d) here below (stands supers k d (omega arith)) (stands supers index d lt)))
    (λ within. is_greatest supers here (λ k t at. is.greatest k t here (omega (arith, get_below supers k t at)) at (stands supers index d lt)))

-- the index of the newest is that of the first with the greatest generation among all
pub newest_index_is : (supers : List Super) (n index : ℕ) → index < length supers → length supers ≤ n → IsNewestAt supers n index → newest_index supers ≡ index
newest_index_is [] n index lt all is = absurd (omega arith)
newest_index_is (s ∷ supers) n index lt all is = newest_index_at (s ∷ supers) n index s lt all is
