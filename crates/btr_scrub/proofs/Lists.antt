-- Members of lists, and what holds of some of them, or of none.
use Rattle.std.proofs.Common.{◌≡◌, ℕ, zero, suc, ◌<◌, List, [], ◌∷◌, ◌++◌, map, length, slice_get, All, Some, refl, sym, ap, subst, inl, inr, arith, Bool, true}
use Rattle.std.proofs.Common.{false, ◌||◌, ◌⊎◌, ◌∙◌, Option, None, IsSome, is_some, is_none, Result, Ok, Err, IsErrAnd}
use Rattle.std.proofs.lemmas.List.Elements.{All-cons, All-nil}
use Rattle.btr_scrub.proofs.Common.{In, cons_option, false_from_ne_true, false≢true, filter_map, flat_map, get_or_from_slice_get, in_either, in_left, in_right}
use Rattle.btr_scrub.proofs.Common.{list_any, option_map, same_Some, slice_get_within}
use Rattle.std.specs.List.{Any, Contains, fold}
use Rattle.std.proofs.lemmas.Bool.{both_ways, or_cases}
use Rattle.std.proofs.lemmas.List.Folds.{Any-from_list_any, list_any-from_Any, list_any-append}
pub use Rattle.btr_read.proofs.Ones.{in_map}
pub use Rattle.btr_read.proofs.Order.{to_filter as in_filter}

-- one of a list has it
pub any_at : {X : Type 0} (P : X → Type 0) (xs : List X) (i : ℕ) (x : X) → i < length xs → slice_get xs i ≡ Some x → P x → Any P xs
any_at P xs i x within e p = (i, x, within, get_or_from_slice_get xs i x x e, p)

-- what a list contains is a member
pub in_of : {X : Type 0} (x : X) (xs : List X) → Contains xs x → In x xs
in_of x [] c = absurd (omega (arith, c.1))
in_of x (y ∷ xs) (zero, lt, e) = inl e
in_of x (y ∷ xs) (suc k, lt, e) = inr (in_of x xs (k, omega (arith, lt), e))

-- a member has a number
pub at_in : {X : Type 0} (x : X) (xs : List X) → In x xs → (i : ℕ) × (slice_get xs i ≡ Some x)
at_in x [] i = absurd i
at_in x (y ∷ xs) (inl e) = (0, ap Some e)
at_in x (y ∷ xs) (inr i) = let r = at_in x xs i in (suc r.0, r.1)

-- what stands at a number is a member
pub in_some : {X : Type 0} (x : X) (xs : List X) (i : ℕ) → slice_get xs i ≡ Some x → In x xs
in_some x xs i e = in_of x xs (i, slice_get_within xs i x e, get_or_from_slice_get xs i x x e)

-- what holds of each member holds of all
pub all_from : {X : Type 0} (P : X → Type 0) (xs : List X) → ((x : X) → In x xs → P x) → All P xs
all_from P [] h = All-nil P
all_from P (x ∷ xs) h = All-cons P x xs (h x (inl refl)) (all_from P xs (λ y i. h y (inr i)))

-- what holds of a member holds of some
pub any_in : {X : Type 0} (P : X → Type 0) (xs : List X) (x : X) → In x xs → P x → Any P xs
any_in P xs x i p = let r = at_in x xs i in any_at P xs r.0 x (slice_get_within xs r.0 x r.1) r.1 p

-- where some member has it, it is one of the list
pub in_any : {X : Type 0} (P : X → Type 0) (xs : List X) → Any P xs → (x : X) × In x xs × P x
in_any P xs a = (a.1, in_of a.1 xs (a.0, a.2, a.3), a.4)

-- a member of all is one of what some member gives
pub of_flat : {X Y : Type 0} (f : X → List Y) (y : Y) (xs : List X) → In y (flat_map f xs) → (x : X) × In x xs × In y (f x)
of_flat f y [] i = absurd i
of_flat f y (x ∷ xs) i = elim (in_either y (f x) (flat_map f xs) i) [
  | inl j ↦ (x, inl refl, j)
  | inr j ↦ let r = of_flat f y xs j in (r.0, inr r.1, r.2)
]

-- what a member gives is a member of all
pub in_flat : {X Y : Type 0} (f : X → List Y) (x : X) (y : Y) (xs : List X) → In x xs → In y (f x) → In y (flat_map f xs)
in_flat f x y [] i j = absurd i
in_flat f x y (z ∷ xs) (inl e) j = in_left y (f z) (flat_map f xs) (subst (λ w. In y (f w)) (sym e) j)
in_flat f x y (z ∷ xs) (inr i) j = in_right y (f z) (flat_map f xs) (in_flat f x y xs i j)

-- a member of what is mapped comes from a member
pub of_mapped : {X Y : Type 0} (f : X → Y) (y : Y) (xs : List X) → In y (map f xs) → (x : X) × In x xs × (f x ≡ y)
of_mapped f y [] h = absurd h
of_mapped f y (x ∷ xs) (inl e) = (x, inl refl, e)
of_mapped f y (x ∷ xs) (inr h) = let r = of_mapped f y xs h in (r.0, inr r.1, r.2)

-- what comes of a list comes of a member
pub of_filter_map : {X Y : Type 0} (g : X → Option Y) (y : Y) (xs : List X) → In y (filter_map g xs) → (x : X) × In x xs × (g x ≡ Some y)
of_filter_map g y [] i = absurd i
of_filter_map g y (x ∷ xs) i = by (g x) refl i (of_filter_map g y xs)
  where
    by : (o : Option _) → g x ≡ o → In y (cons_option o (filter_map g xs)) → (In y (filter_map g xs) → (z : _) × In z xs × (g z ≡ Some y)) → (z : _)
        × In z (x ∷ xs) × (g z ≡ Some y)
    by None e i rest = let r = rest i in (r.0, inr r.1, r.2)
    by (Some z) e (inl same) rest = (x, inl refl, e ∙ ap Some same)
    by (Some z) e (inr j) rest = let r = rest j in (r.0, inr r.1, r.2)

-- a member is one of more, too
pub in_more : {X : Type 0} (o : Option X) (x : X) (xs : List X) → In x xs → In x (cons_option o xs)
in_more None x xs i = i
in_more (Some y) x xs i = inr i

-- the first is a member
pub first_in : {X : Type 0} (xs : List X) (x : X) → slice_get xs 0 ≡ Some x → In x xs
first_in xs x e = in_some x xs 0 e

-- a value that came of another has that
pub mapped : {X Y : Type 0} (g : X → Y) (o : Option X) (y : Y) → option_map g o ≡ Some y → (x : X) × (o ≡ Some x) × (g x ≡ y)
mapped g None y e = absurd (false≢true (ap is_some e))
mapped g (Some x) y e = (x, refl, same_Some (g x) y e)

-- what is there has a value
pub some_of : {X : Type 0} (o : Option X) → IsSome o → (x : X) × (o ≡ Some x)
some_of None h = absurd (false≢true h)
some_of (Some x) h = (x, refl)

-- what isn't missing is there
pub some_if : {X : Type 0} (o : Option X) → is_none o ≡ false → IsSome o
some_if None e = absurd (false≢true (sym e))
some_if (Some x) e = refl

-- nothing comes of a list where nothing comes of each
pub flat_none : {X Y : Type 0} (f : X → List Y) (xs : List X) → ((x : X) → In x xs → f x ≡ []) → flat_map f xs ≡ []
flat_none f [] h = refl
flat_none f (x ∷ xs) h = ap (λ ys. ys ++ flat_map f xs) (h x (inl refl)) ∙ flat_none f xs (λ y i. h y (inr i))

-- a fold by steps that change nothing changes nothing
pub fold_none : {X Y : Type 0} (f : Y → X → Y) (y : Y) (xs : List X) → ((x : X) → In x xs → f y x ≡ y) → fold f y xs ≡ y
fold_none f y [] h = refl
fold_none f y (x ∷ xs) h = ap (λ z. fold f z xs) (h x (inl refl)) ∙ fold_none f y xs (λ z i. h z (inr i))

-- ---- tests of some, or of none

-- where some pass a test, one does
pub any_is : {X : Type 0} (f : X → Bool) (xs : List X) → list_any f xs ≡ true → (x : X) × In x xs × (f x ≡ true)
any_is f xs h = in_any (λ x. f x ≡ true) xs (Any-from_list_any f xs h)

-- where one passes a test, some do
pub is_any : {X : Type 0} (f : X → Bool) (x : X) (xs : List X) → In x xs → f x ≡ true → list_any f xs ≡ true
is_any f x xs i e = list_any-from_Any f xs (any_in (λ x. f x ≡ true) xs x i e)

-- where none passes a test, no member does
pub none_in : {X : Type 0} (p : X → Bool) (xs : List X) (x : X) → list_any p xs ≡ false → In x xs → p x ≡ false
none_in p xs x none i = false_from_ne_true (p x) (λ e. both_ways (list_any p xs) none (is_any p x xs i e))

-- what passes in two lists passes in one of them
pub any_append : {X : Type 0} (f : X → Bool) (xs ys : List X) → list_any f (xs ++ ys) ≡ true → (list_any f xs ≡ true) ⊎ (list_any f ys ≡ true)
any_append f xs ys h = or_cases (list_any f xs) (list_any f ys) (sym (list_any-append f xs ys) ∙ h)

-- a test of what is mapped is one of the members
pub any_map : {X Y : Type 0} (f : Y → Bool) (g : X → Y) (xs : List X) → list_any f (map g xs) ≡ list_any (λ x. f (g x)) xs
any_map f g [] = refl
any_map f g (x ∷ xs) = ap (λ b. f (g x) || b) (any_map f g xs)

-- what passes among all passes in what some member gives
pub any_flat : {X Y : Type 0} (f : Y → Bool) (g : X → List Y) (xs : List X) → list_any f (flat_map g xs) ≡ true → (x : X) × In x xs × (list_any f (g x) ≡ true)
any_flat f g xs h =
    let y = any_is f (flat_map g xs) h in
    let x = of_flat g y.0 xs y.1 in
    (x.0, x.1, is_any f y.0 (g x.0) x.2 y.2)

-- what holds of a fault holds of the answer that has it
pub passed : {A E : Type 0} (P : Result A E → Type 0) (r : Result A E) (fault : E) → IsErrAnd r (λ e. e ≡ fault) → P (Err fault) → P r
passed P (Ok a) fault h p = absurd h
passed P (Err e) fault h p = subst (λ x. P (Err x)) (sym h) p
