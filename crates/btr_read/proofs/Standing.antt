-- The parts that a candidate by parities reads.
use Rattle.std.proofs.Common.{◌≡◌, ℕ, ◌<◌, Bool, true, false, not, cond, ◌&&◌, List, [], ◌∷◌, map, refl, sym, ap, ◌∙◌, inl, inr}
use Rattle.std.proofs.lemmas.Bool.{false≢true}
use Rattle.std.specs.List.{list_all, filter, range_with_len}
use Rattle.btr_chunk.specs.declared.place.Part.{Part}
use Rattle.btr_chunk.specs.declared.place.Part.TheVariants.{Slice}
use Rattle.btr_read.proofs.Ones.{In, below_in, in_below}

-- where two tests hold they hold together
pub both : (a b : Bool) → a ≡ true → b ≡ true → (a && b) ≡ true
both a b e h = ap (λ x. x && b) e ∙ h

-- where two tests hold together the first one does
pub left_of : (a b : Bool) → (a && b) ≡ true → a ≡ true
left_of true b h = refl
left_of false b h = absurd (false≢true h)

-- where two tests hold together the second one does
pub right_of : (a b : Bool) → (a && b) ≡ true → b ≡ true
right_of true b h = h
right_of false b h = absurd (false≢true h)

module _ (f : Part → Bool) (p : ℕ → Bool) where
  -- of a list of slices all that are read pass a test, where each that is read passes
  all_of : (xs : List ℕ) → ((x : ℕ) → In x xs → p x ≡ true → f (Slice x) ≡ true) → list_all f (map Slice (filter p xs)) ≡ true
  all_of [] h = refl
  all_of (x ∷ xs) h = by (p x) refl (all_of xs (λ y i. h y (inr i)))
    where
      by : (b : Bool) → p x ≡ b → list_all f (map Slice (filter p xs)) ≡ true → list_all f (map Slice (cond b (x ∷ filter p xs) (filter p xs))) ≡ true
      by true e rest = both (f (Slice x)) (list_all f (map Slice (filter p xs))) (h x (inl refl) e) rest
      by false e rest = rest

  -- where all slices of a list that are read pass a test, each that is read passes
  one_of : (xs : List ℕ) (x : ℕ) → list_all f (map Slice (filter p xs)) ≡ true → In x xs → p x ≡ true → f (Slice x) ≡ true
  one_of [] x h i e = absurd i
  one_of (y ∷ xs) x h i e = by (p y) refl h i (λ g j. one_of xs x g j e)
    where
      by : (b : Bool) → p y ≡ b → list_all f (map Slice (cond b (y ∷ filter p xs) (filter p xs))) ≡ true → In x (y ∷ xs)
          → (list_all f (map Slice (filter p xs)) ≡ true → In x xs → f (Slice x) ≡ true) → f (Slice x) ≡ true
      by true q g (inl same) rest = ap (λ z. f (Slice z)) (sym same) ∙ left_of (f (Slice y)) (list_all f (map Slice (filter p xs))) g
      by true q g (inr j) rest = rest (right_of (f (Slice y)) (list_all f (map Slice (filter p xs))) g) j
      by false q g (inl same) rest = absurd (false≢true (sym q ∙ ap p same ∙ e))
      by false q g (inr j) rest = rest g j

  -- all slices below k that are read pass a test
  pub all_read : (k : ℕ) → ((s : ℕ) → s < k → p s ≡ true → f (Slice s) ≡ true) → list_all f (map Slice (filter p (range_with_len 0 k))) ≡ true
  all_read k h = all_of (range_with_len 0 k) (λ s i. h s (in_below k s i))

  -- where all slices below k that are read pass a test, each that is read passes
  pub one_read : (k s : ℕ) → list_all f (map Slice (filter p (range_with_len 0 k))) ≡ true → s < k → p s ≡ true → f (Slice s) ≡ true
  one_read k s h lt e = one_of (range_with_len 0 k) s h (below_in k s lt) e

  -- where a slice below k is read and fails a test, not all that are read pass
  pub not_all_read : (k s : ℕ) → s < k → p s ≡ true → f (Slice s) ≡ false → list_all f (map Slice (filter p (range_with_len 0 k))) ≡ false
  not_all_read k s lt e lacks = by (list_all f (map Slice (filter p (range_with_len 0 k)))) refl
    where
      by : (b : Bool) → list_all f (map Slice (filter p (range_with_len 0 k))) ≡ b → list_all f (map Slice (filter p (range_with_len 0 k))) ≡ false
      by true h = absurd (false≢true (sym lacks ∙ one_read k s h lt e))
      by false h = h

  -- the same by what lacks
  pub all_have : (k : ℕ) → ((s : ℕ) → s < k → (p s && not (f (Slice s))) ≡ false) → list_all f (map Slice (filter p (range_with_len 0 k))) ≡ true
  all_have k h = all_read k (λ s lt e. by (f (Slice s)) refl (ap (λ b. b && not (f (Slice s))) (sym e) ∙ h s lt))
    where
      by : {x : Bool} (b : Bool) → x ≡ b → not x ≡ false → x ≡ true
      by true e g = e
      by false e g = absurd (false≢true (sym g ∙ ap not e))

  -- where a slice below k is read and lacks what is tested, not all that are read have it
  pub one_lacks : (k s : ℕ) → s < k → (p s && not (f (Slice s))) ≡ true → list_all f (map Slice (filter p (range_with_len 0 k))) ≡ false
  one_lacks k s lt h = not_all_read k s lt (left_of (p s) (not (f (Slice s))) h) (inverse (f (Slice s)) (right_of (p s) (not (f (Slice s))) h))
    where
      inverse : (b : Bool) → not b ≡ true → b ≡ false
      inverse true e = absurd (false≢true e)
      inverse false e = refl
