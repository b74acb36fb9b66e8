-- The first of some elements that passes a test.
use Rattle.std.proofs.Common.{◌≡◌, ℕ, suc, ◌+◌, Bool, true, false, cond, List, [], ◌∷◌, ◌++◌, drop, slice_get, Some, None, refl, sym, ap, ◌∙◌, add-one}
use Rattle.std.proofs.Common.{drop-cons}
use Rattle.btr_scrub.proofs.Common.{filter, flat_map, get_or_from_slice_get, option_map, slice_get_within}

-- what is left from an element on begins with it
pub drop_one : {X : Type 0} (xs : List X) (i : ℕ) (x : X) → slice_get xs i ≡ Some x → drop i xs ≡ x ∷ drop (i + 1) xs
drop_one xs i x e =
    drop-cons xs i x (slice_get_within xs i x e)
    ∙ ap (λ y. y ∷ drop (suc i) xs) (get_or_from_slice_get xs i x x e)
    ∙ ap (λ n. x ∷ drop n xs) (sym (add-one i))

-- one that passes is the first of those from it on
pub found_here : {X : Type 0} (p : X → Bool) (xs : List X) (i : ℕ) (x : X) → slice_get xs i ≡ Some x → p x ≡ true → slice_get (filter p (drop i xs)) 0 ≡ Some x
found_here p xs i x e hit =
    ap (λ ys. slice_get (filter p ys) 0) (drop_one xs i x e)
    ∙ ap (λ b. slice_get (cond b (x ∷ filter p (drop (i + 1) xs)) (filter p (drop (i + 1) xs))) 0) hit

-- one that doesn't is passed over
pub passed_over : {X : Type 0} (p : X → Bool) (xs : List X) (i : ℕ) (x : X) → slice_get xs i ≡ Some x → p x ≡ false → filter p (drop i xs)
    ≡ filter p (drop (i + 1) xs)
passed_over p xs i x e miss =
    ap (filter p) (drop_one xs i x e)
    ∙ ap (λ b. cond b (x ∷ filter p (drop (i + 1) xs)) (filter p (drop (i + 1) xs))) miss

-- the first of several lists is that of the first one, or of the others where that has none
first_of : {X Y : Type 0} (f : X → Y) (xs ys : List X) (y : Y) → Some y ≡ option_map f (slice_get xs 0) → Some y ≡ option_map f (slice_get (xs ++ ys) 0)
first_of f [] ys y e = cc
first_of f (x ∷ xs) ys y e = e

-- a list without a first item adds nothing before another
none_of : {X Y : Type 0} (f : X → Y) (xs ys : List X) → None ≡ option_map f (slice_get xs 0) → xs ++ ys ≡ ys
none_of f [] ys e = refl
none_of f (x ∷ xs) ys e = cc

-- the first of all is the first of the next list, where that has one
pub flat_here : {X Y Z : Type 0} (f : Y → Z) (g : X → List Y) (xs : List X) (i : ℕ) (x : X) (z : Z) → slice_get xs i ≡ Some x → Some z
    ≡ option_map f (slice_get (g x) 0) → Some z ≡ option_map f (slice_get (flat_map g (drop i xs)) 0)
flat_here f g xs i x z e some = first_of f (g x) (flat_map g (drop (i + 1) xs)) z some
    ∙ sym (ap (λ ys. option_map f (slice_get (flat_map g ys) 0)) (drop_one xs i x e))

-- where it has none, the first is that of the lists behind it
pub flat_over : {X Y Z : Type 0} (f : Y → Z) (g : X → List Y) (xs : List X) (i : ℕ) (x : X) → slice_get xs i ≡ Some x → None ≡ option_map f (slice_get (g x) 0)
    → flat_map g (drop i xs) ≡ flat_map g (drop (i + 1) xs)
flat_over f g xs i x e none = ap (flat_map g) (drop_one xs i x e) ∙ none_of f (g x) (flat_map g (drop (i + 1) xs)) none
