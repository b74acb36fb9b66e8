-- The one solution of equations, among all lists of bytes.
use Rattle.std.proofs.Common.{◌≡◌, ℕ, zero, suc, ◌<◌, Bool, true, false, cond, ◌||◌, ◌⊎◌, List, [], ◌∷◌, ◌++◌, length, map, get_or, Some, refl, sym, ap, ◌∙◌}
use Rattle.std.proofs.Common.{subst, inl, inr, arith}
use Rattle.std.proofs.lemmas.Bool.{false≢true}
use Rattle.std.proofs.lemmas.List.FromFn.{get_or-range_with_len, length-range_with_len}
use Rattle.std.specs.List.{find, range_with_len, list_any}
use Rattle.std.specs.Option.{unwrap_or}
use Rattle.btr_parity.specs.Slices.{IsSlice}
use Rattle.btr_read.specs.Solution.{each_before, byte_lists, the_one}

-- x is one of a list
abbrev pub In : {X : Type 0} → X → List X → Type 0
In x [] = ⊥
In x (y ∷ ys) = (y ≡ x) ⊎ In x ys

-- what is in a list is in it with more behind
pub in_left : {X : Type 0} (x : X) (xs ys : List X) → In x xs → In x (xs ++ ys)
in_left x [] ys h = absurd h
in_left x (y ∷ xs) ys (inl e) = inl e
in_left x (y ∷ xs) ys (inr h) = inr (in_left x xs ys h)

-- what is in a list is in it with more before
pub in_right : {X : Type 0} (x : X) (xs ys : List X) → In x ys → In x (xs ++ ys)
in_right x [] ys h = h
in_right x (y ∷ xs) ys h = inr (in_right x xs ys h)

-- what is in two lists together is in one of them
pub in_either : {X : Type 0} (x : X) (xs ys : List X) → In x (xs ++ ys) → In x xs ⊎ In x ys
in_either x [] ys h = inr h
in_either x (y ∷ xs) ys (inl e) = inl (inl e)
in_either x (y ∷ xs) ys (inr h) = elim (in_either x xs ys h) [ inl a ↦ inl (inr a) | inr b ↦ inr b ]

-- what comes of an entry of a list is in the list of all that comes of it
pub in_map : {X Y : Type 0} (f : X → Y) (x : X) (xs : List X) → In x xs → In (f x) (map f xs)
in_map f x [] h = absurd h
in_map f x (y ∷ xs) (inl e) = inl (ap f e)
in_map f x (y ∷ xs) (inr h) = inr (in_map f x xs h)

-- what is in a mapped list comes of an entry of the list
pub of_map : {X Y : Type 0} (f : X → Y) (y : Y) (xs : List X) → In y (map f xs) → (x : X) × In x xs × (f x ≡ y)
of_map f y [] h = absurd h
of_map f y (x ∷ xs) (inl e) = (x, inl refl, e)
of_map f y (x ∷ xs) (inr h) = let r = of_map f y xs h in (r.0, inr r.1, r.2)

-- the entry at a place within a list is in it
pub in_at : {X : Type 0} (xs : List X) (i : ℕ) (d : X) → i < length xs → In (get_or xs i d) xs
in_at [] i d lt = absurd (omega (arith, lt))
in_at (x ∷ xs) zero d lt = inl refl
in_at (x ∷ xs) (suc i) d lt = inr (in_at xs i d (omega (arith, lt)))

-- what is in a list stands at a place of it
pub at_in : {X : Type 0} (x : X) (xs : List X) → In x xs → (i : ℕ) × (i < length xs) × (get_or xs i x ≡ x)
at_in x [] h = absurd h
at_in x (y ∷ ys) (inl e) = (0, omega arith, e)
at_in x (y ∷ ys) (inr h) = let r = at_in x ys h in (suc r.0, omega (arith, r.1), r.2)

-- each number below n is in the range of the first n
pub below_in : (n b : ℕ) → b < n → In b (range_with_len 0 n)
below_in n b lt =
    let at : get_or (range_with_len 0 n) b 0 ≡ b = get_or-range_with_len 0 n b 0 lt ∙ omega arith in
    subst (λ x. In x (range_with_len 0 n)) at (in_at (range_with_len 0 n) b 0 (omega (arith, lt, length-range_with_len 0 n)))

-- each number in the range of the first n is below n
pub in_below : (n b : ℕ) → In b (range_with_len 0 n) → b < n
in_below n b h =
    let r = at_in b (range_with_len 0 n) h in
    let lt : r.0 < n = omega (arith, r.1, length-range_with_len 0 n) in
    omega (arith, lt, r.2, get_or-range_with_len 0 n r.0 b lt)

-- one of the bytes before one of the rests is one of the lists made of them
in_each : (b : ℕ) (rest : List ℕ) (bytes : List ℕ) (rests : List (List ℕ)) → In b bytes → In rest rests → In (b ∷ rest) (each_before bytes rests)
in_each b rest [] rests h g = absurd h
in_each b rest (c ∷ bytes) rests (inl e) g = in_left (b ∷ rest) (map (λ r. c ∷ r) rests) (each_before bytes rests)
    (subst (λ x. In (b ∷ rest) (map (λ r. x ∷ r) rests)) (sym e) (in_map (λ r. b ∷ r) rest rests g))
in_each b rest (c ∷ bytes) rests (inr h) g = in_right (b ∷ rest) (map (λ r. c ∷ r) rests) (each_before bytes rests) (in_each b rest bytes rests h g)

pub record IsBefore (bytes : List ℕ) (rests : List (List ℕ)) (x : List ℕ) : Type 0 where
  pub byte : ℕ
  pub rest : List ℕ
  pub in_bytes : In byte bytes
  pub in_rests : In rest rests
  pub whole : byte ∷ rest ≡ x

-- each list made of bytes and rests is one of the bytes before one of the rests
of_each : (x : List ℕ) (bytes : List ℕ) (rests : List (List ℕ)) → In x (each_before bytes rests) → IsBefore bytes rests x
of_each x [] rests h = absurd h
of_each x (c ∷ bytes) rests h = elim (in_either x (map (λ r. c ∷ r) rests) (each_before bytes rests) h) [
  | inl a ↦ let r = of_map (λ r. c ∷ r) x rests a in record { byte = c; rest = r.0; in_bytes = inl refl; in_rests = r.1; whole = r.2 }
  | inr b ↦ let r = of_each x bytes rests b in record { byte = r.byte; rest = r.rest; in_bytes = inr r.in_bytes; in_rests = r.in_rests; whole = r.whole }
]

-- a byte before n bytes makes n + 1 bytes
slice_cons : (n b : ℕ) (rest : List ℕ) → b < 256 → IsSlice n rest → IsSlice (suc n) (b ∷ rest)
slice_cons n b rest lt h = record { long = omega (arith, h.long); bytes = each }
  where
    each : (k : ℕ) (d : ℕ) → k < length (b ∷ rest) → get_or (b ∷ rest) k d < 256
    each zero d below = lt
    each (suc k) d below = h.bytes k d (omega (arith, below))

-- n + 1 bytes without the first are n bytes
slice_rest : (n b : ℕ) (rest : List ℕ) → IsSlice (suc n) (b ∷ rest) → IsSlice n rest
slice_rest n b rest h = record { long = omega (arith, h.long); bytes = λ k d below. h.bytes (suc k) d (omega (arith, below)) }

-- the first entry of a list of bytes is a byte
slice_first : (n b : ℕ) (rest : List ℕ) → IsSlice (suc n) (b ∷ rest) → b < 256
slice_first n b rest h = h.bytes zero 0 (omega arith)

-- the lists of n bytes are the slices of n bytes
pub covers : (n : ℕ) (x : List ℕ) → IsSlice n x → In x (byte_lists n)
unfolding byte_lists
covers zero [] h = inl refl
covers zero (b ∷ x) h = absurd (omega (arith, h.long))
covers (suc n) [] h = absurd (omega (arith, h.long))
covers (suc n) (b ∷ x) h = in_each b x (range_with_len 0 256) (byte_lists n) (below_in 256 b (slice_first n b x h)) (covers n x (slice_rest n b x h))

-- each of the lists of n bytes is a slice of n bytes
pub all_slices : (n : ℕ) (x : List ℕ) → In x (byte_lists n) → IsSlice n x
unfolding byte_lists
all_slices zero x (inl e) = subst (IsSlice zero) e (record { long = refl; bytes = λ k d lt. absurd (omega (arith, lt)) })
all_slices zero x (inr h) = absurd h
all_slices (suc n) x h =
    let r = of_each x (range_with_len 0 256) (byte_lists n) h in
    subst (IsSlice (suc n)) r.whole (slice_cons n r.byte r.rest (in_below 256 r.byte r.in_bytes) (all_slices n r.rest r.in_rests))

find_if : (test : List ℕ → Bool) (y : List ℕ) (ys : List (List ℕ)) (x : List ℕ) (b : Bool) → test y ≡ b → In x (y ∷ ys) → test x ≡ true
    → ((z : List ℕ) → In z (y ∷ ys) → test z ≡ true → z ≡ x) → (In x ys → unwrap_or (find test ys) [] ≡ x) → unwrap_or (cond b (Some y) (find test ys)) [] ≡ x
find_if test y ys x true e i t only rest = only y (inl refl) e
find_if test y ys x false e (inl same) t only rest = absurd (false≢true (sym e ∙ ap test same ∙ t))
find_if test y ys x false e (inr i) t only rest = rest i

-- a search finds the only list that passes
find_is : (test : List ℕ → Bool) (xs : List (List ℕ)) (x : List ℕ) → In x xs → test x ≡ true → ((z : List ℕ) → In z xs → test z ≡ true → z ≡ x)
    → unwrap_or (find test xs) [] ≡ x
find_is test [] x i t only = absurd i
find_is test (y ∷ ys) x i t only = find_if test y ys x (test y) refl i t only (λ j. find_is test ys x j t (λ z k. only z (inr k)))

-- the one list of n bytes that passes a test
pub the_one_is : (n : ℕ) (test : List ℕ → Bool) (x : List ℕ) → IsSlice n x → test x ≡ true → ((z : List ℕ) → IsSlice n z → test z ≡ true → z ≡ x)
    → the_one n test ≡ x
unfolding the_one
the_one_is n test x h t only = find_is test (byte_lists n) x (covers n x h) t (λ z i e. only z (all_slices n z i) e)

-- where some list passes there is one that does
any_if : (test : List ℕ → Bool) (xs : List (List ℕ)) → list_any test xs ≡ true → (x : List ℕ) × In x xs × (test x ≡ true)
any_if test [] h = absurd (false≢true h)
any_if test (y ∷ ys) h = by (test y) refl h (any_if test ys)
  where
    by : (b : Bool) → test y ≡ b → (b || list_any test ys) ≡ true → (list_any test ys ≡ true → (x : List ℕ) × In x ys × (test x ≡ true))
        → (x : List ℕ) × In x (y ∷ ys) × (test x ≡ true)
    by true e g rest = (y, inl refl, e)
    by false e g rest = let r = rest g in (r.0, inr r.1, r.2)

-- where a list that is in it passes, some list does
any_there : (test : List ℕ → Bool) (xs : List (List ℕ)) (x : List ℕ) → In x xs → test x ≡ true → list_any test xs ≡ true
any_there test [] x i t = absurd i
any_there test (y ∷ ys) x (inl e) t = ap (λ b. b || list_any test ys) (ap test e ∙ t)
any_there test (y ∷ ys) x (inr i) t = either (test y) (any_there test ys x i t)
  where
    either : (b : Bool) → list_any test ys ≡ true → (b || list_any test ys) ≡ true
    either true h = refl
    either false h = h

-- some list of n bytes passes a test
pub some_slice : (n : ℕ) (test : List ℕ → Bool) → list_any test (byte_lists n) ≡ true → (x : List ℕ) × IsSlice n x × (test x ≡ true)
some_slice n test h = let r = any_if test (byte_lists n) h in (r.0, all_slices n r.0 r.1, r.2)

-- where n bytes pass a test, some list of n bytes does
pub slice_there : (n : ℕ) (test : List ℕ → Bool) (x : List ℕ) → IsSlice n x → test x ≡ true → list_any test (byte_lists n) ≡ true
slice_there n test x h t = any_there test (byte_lists n) x (covers n x h) t
