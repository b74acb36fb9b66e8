-- Lists, one element more at a time.
use Rattle.std.proofs.Common.{◌≡◌, ℕ, ◌+◌, ◌<◌, Bool, true, false, List, [], ◌∷◌, ◌++◌, length, take, get_or, filter_map, Option, Some, None, IfSome}
use Rattle.std.proofs.Common.{if◌then◌else◌, map, flat_map, eqb, eq-eqb, refl, sym, ap, ◌∙◌}
use Rattle.std.proofs.lemmas.Bool.{ne_eqb}
use Rattle.std.proofs.lemmas.Grind.{flat_map-append}
use Rattle.std.proofs.lemmas.List.{take_more, append-nil}
use Rattle.std.proofs.lemmas.List.Elements.{filter_map-append}
use Rattle.std.specs.List.{cons_option}
use Rattle.std.specs.Option.{option_to_list}
use Rattle.btr_volume.specs.declared.root.TreeRoot.{TreeRoot}
use Rattle.btr_walk.specs.Le.{or_here}
use Rattle.btr_check.specs.Before.{first_of}
use Rattle.btr_check.specs.Trees.{last_of}
use Rattle.btr_check.specs.Walking.{or_first}

-- a list with one more that there may be
pub one_more : {X : Type 0} (o : Option X) (xs : List X) → cons_option o xs ≡ option_to_list o ++ xs
one_more None xs = refl
one_more (Some x) xs = refl

-- the first of some, and then others
pub first_more : {X : Type 0} (a b : Option X) (xs : List X) → or_first (or_first a b) (first_of xs) ≡ or_first a (first_of (option_to_list b ++ xs))
first_more None None xs = refl
first_more None (Some b) xs = refl
first_more (Some a) b xs = refl

-- the first of two lists is that of the one, or else that of the other
pub first_then : {X : Type 0} (xs ys : List X) → first_of (xs ++ ys) ≡ or_first (first_of xs) (first_of ys)
first_then [] ys = refl
first_then (x ∷ xs) ys = refl

-- a list that has no first element is empty
pub no_first : {X : Type 0} (xs : List X) → first_of xs ≡ None → xs ≡ []
no_first [] e = refl
no_first (x ∷ xs) e = cc

first_one : {Y : Type 0} (o : Option Y) → first_of (cons_option o []) ≡ o
first_one None = refl
first_one (Some y) = refl

module _ {X Y : Type 0} (rule : X → Option Y) (xs : List X) where
  -- the first that a rule gives of some, one more
  pub first_of_more : (i : ℕ) (d : X) → i < length xs → first_of (filter_map rule (take (i + 1) xs)) ≡ or_first (first_of (filter_map rule (take i xs)))
      (rule (get_or xs i d))
  first_of_more i d below =
      ap (λ l. first_of (filter_map rule l)) (take_more xs i d below) ∙ ap first_of (filter_map-append rule (take i xs) (get_or xs i d ∷ []))
      ∙ first_then (filter_map rule (take i xs)) (filter_map rule (get_or xs i d ∷ [])) ∙ ap (or_first (first_of (filter_map rule (take i xs))))
      (first_one (rule (get_or xs i d)))

-- the last tree of an id with one more behind it: that one, if it has the id
last_snoc : (id : ℕ) (xs : List TreeRoot) (x : TreeRoot) → last_of id (xs ++ x ∷ []) ≡ (if eqb x.id id then Some x else last_of id xs)
last_snoc id [] x = by (eqb x.id id)
  where
    by : (b : Bool) → or_here None b x ≡ (if b then Some x else None)
    by true = refl
    by false = refl
last_snoc id (y ∷ xs) x = ap (λ o. or_here o (eqb y.id id) y) (last_snoc id xs x) ∙ by (eqb x.id id)
  where
    by : (b : Bool) → or_here (if b then Some x else last_of id xs) (eqb y.id id) y ≡ (if b then Some x else or_here (last_of id xs) (eqb y.id id) y)
    by true = refl
    by false = refl

-- the last tree of an id among some, one more
pub last_more : (id : ℕ) (xs : List TreeRoot) (i : ℕ) (d : TreeRoot) → i < length xs → last_of id
    (take (i + 1) xs) ≡ (if eqb (get_or xs i d).id id then Some (get_or xs i d) else last_of id (take i xs))
last_more id xs i d below = ap (last_of id) (take_more xs i d below) ∙ last_snoc id (take i xs) (get_or xs i d)

-- the same by what a loop did
pub last_taken : (id : ℕ) (xs : List TreeRoot) (i : ℕ) (d : TreeRoot) (last : Option TreeRoot) → i < length xs → (get_or xs i d).id ≡ id
    → last ≡ Some (get_or xs i d) → last ≡ last_of id (take (i + 1) xs)
last_taken id xs i d last below same is = is ∙ sym
    (last_more id xs i d below ∙ ap (λ b. if b then Some (get_or xs i d) else last_of id (take i xs)) (eq-eqb _ _ same))

-- where one more tree has another id, the last one of the id stays
pub last_kept : (id : ℕ) (xs : List TreeRoot) (i : ℕ) (d : TreeRoot) (last before : Option TreeRoot) → i < length xs → ((get_or xs i d).id ≡ id → ⊥)
    → last ≡ before → before ≡ last_of id (take i xs) → last ≡ last_of id (take (i + 1) xs)
last_kept id xs i d last before below other is had = is ∙ had ∙ sym
    (last_more id xs i d below ∙ ap (λ b. if b then Some (get_or xs i d) else last_of id (take i xs)) (ne_eqb _ _ other))

-- the first of what is made of some things is made of the first of these
pub first_mapped : {X Y : Type 0} (f : X → Y) (xs : List X) (ys : List Y) (x : X) → first_of xs ≡ Some x → first_of (map f xs ++ ys) ≡ Some (f x)
first_mapped f [] ys x e = cc
first_mapped f (a ∷ xs) ys x e = cc

-- what holds of both holds of the first
pub first_holds : {X : Type 0} (P : X → Type 0) (a b : Option X) → IfSome a P → IfSome b P → IfSome (or_first a b) P
first_holds P None b one two = two
first_holds P (Some a) b one two = one

-- the findings of a list with one thing more
pub flat_more : {X Y : Type 0} (f : X → List Y) (xs : List X) (x : X) → flat_map f (xs ++ x ∷ []) ≡ flat_map f xs ++ f x
flat_more f xs x = flat_map-append f xs (x ∷ []) ∙ ap (λ l. flat_map f xs ++ l) (append-nil (f x))
