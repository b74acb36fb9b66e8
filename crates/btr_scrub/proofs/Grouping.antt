-- Lists in which those that pass a test stand together, and those of one number behind those of the numbers before.
use Rattle.std.proofs.Common.{◌≡◌, ℕ, ◌<◌, ◌≤◌, Bool, true, false, cond, List, [], ◌∷◌, ◌++◌, refl, ap, ◌∙◌, inl, inr, arith, append-nil}
use Rattle.std.proofs.lemmas.List.Elements.{filter-append}
use Rattle.btr_scrub.proofs.Common.{In, filter}

module _ {X : Type 0} (p : X → Bool) where
  -- where all pass, all are left
  pub filter_all : (xs : List X) → ((x : X) → In x xs → p x ≡ true) → filter p xs ≡ xs
  filter_all [] h = refl
  filter_all (x ∷ xs) h = ap (λ b. cond b (x ∷ filter p xs) (filter p xs)) (h x (inl refl)) ∙ ap (λ ys. x ∷ ys) (filter_all xs (λ y i. h y (inr i)))

  -- where none passes, none is left
  pub filter_none : (xs : List X) → ((x : X) → In x xs → p x ≡ false) → filter p xs ≡ []
  filter_none [] h = refl
  filter_none (x ∷ xs) h = ap (λ b. cond b (x ∷ filter p xs) (filter p xs)) (h x (inl refl)) ∙ filter_none xs (λ y i. h y (inr i))

  -- those before which none passes are left as without it
  pub filter_later : (xs ys : List X) → ((x : X) → In x xs → p x ≡ false) → filter p (xs ++ ys) ≡ filter p ys
  filter_later xs ys h = filter-append p xs ys ∙ ap (λ zs. zs ++ filter p ys) (filter_none xs h)

  -- so are those behind which none does
  pub filter_first : (xs ys : List X) → ((y : X) → In y ys → p y ≡ false) → filter p (xs ++ ys) ≡ filter p xs
  filter_first xs ys h = filter-append p xs ys ∙ ap (λ zs. filter p xs ++ zs) (filter_none ys h) ∙ append-nil (filter p xs)

-- The next of a list have one number: all before them have a number below q, and what is left has none up to theirs.
pub record IsNextGroup {X : Type 0} (p : ℕ → X → Bool) (q : ℕ) (past : List X) (r : ℕ) (mine left : List X) : Type 0 where
  pub later : q ≤ r
  pub before : (k : ℕ) (x : X) → In x past → q ≤ k → p k x ≡ false
  pub each : (x : X) → In x mine → p r x ≡ true
  pub no_other : (k : ℕ) (x : X) → In x mine → k < r → p k x ≡ false
  pub behind : (k : ℕ) (x : X) → In x left → k ≤ r → p k x ≡ false

module _ {X : Type 0} {p : ℕ → X → Bool} {q : ℕ} {past : List X} {r : ℕ} {mine left : List X} (g : IsNextGroup p q past r mine left) where
  -- those of this number are they
  pub group_is : filter (p r) (past ++ (mine ++ left)) ≡ mine
  group_is = filter_later (p r) past (mine ++ left) (λ x i. g.before r x i g.later)
      ∙ filter_first (p r) mine left (λ x i. g.behind r x i (omega arith)) ∙ filter_all (p r) mine g.each

  -- none has a number between
  pub group_between : (k : ℕ) → q ≤ k → k < r → filter (p k) (past ++ (mine ++ left)) ≡ []
  group_between k from to = filter_later (p k) past (mine ++ left) (λ x i. g.before k x i from)
      ∙ filter_later (p k) mine left (λ x i. g.no_other k x i to) ∙ filter_none (p k) left (λ x i. g.behind k x i (omega (arith, to)))
