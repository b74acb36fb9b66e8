-- What holds at each place of a list, said of a part of the list.
use Rattle.std.proofs.Common.{◌≡◌, ℕ, ◌+◌, ◌<◌, ◌≤◌, List, [], ◌∷◌, Option, Some, None, IfNone, length, get_or, take, drop, map, All, refl, sym, subst, arith}
use Rattle.std.proofs.Common.{length-drop}
use Rattle.std.proofs.lemmas.List.{length-take, get_or-take, get_or-drop}

pub map-map : {A B C : Type 0} (f : A → B) (g : B → C) (xs : List A) → map g (map f xs) ≡ map (λ x. g (f x)) xs
map-map f g [] = refl
map-map f g (x ∷ xs) = λ i. g (f x) ∷ map-map f g xs i

-- what follows from a fact holds of a missing value where the fact does
pub IfNone_then : {X : Type 0} (o : Option X) {P Q : Type 0} → IfNone o P → (P → Q) → IfNone o Q
IfNone_then None holds then = then holds
IfNone_then (Some x) holds then = tt

-- the elements of a list are known by a view of them at each place
pub record IsSeenAs {X K : Type 0} (view : X → K) (f : ℕ → K) (xs : List X) : Type 0 where
  pub at : (i : ℕ) (d : X) → i < length xs → view (get_or xs i d) ≡ f i

-- what holds of the view at each place holds of the view of each element
pub All_seen : {X K : Type 0} (view : X → K) (f : ℕ → K) (xs : List X) (R : K → Type 0) → IsSeenAs view f xs → ((i : ℕ) → i < length xs → R (f i))
    → All (λ x. R (view x)) xs
All_seen view f xs R seen each k d within = subst R (sym (seen.at k d within)) (each k within)

-- what holds of the view at the first n places holds of the view of each of the first n elements
pub All_seen-take : {X K : Type 0} (view : X → K) (f : ℕ → K) (xs : List X) (R : K → Type 0) (n : ℕ) → IsSeenAs view f xs
    → ((i : ℕ) → i < n → R (f i)) → All (λ x. R (view x)) (take n xs)
All_seen-take {X} view f xs R n seen each k d within =
    let below : k < n = omega (arith, length-take n xs) in
    let inside : k < length xs = omega (arith, length-take n xs) in
    subst (λ (x : X). R (view x)) (sym (get_or-take n xs k d below)) (subst R (sym (seen.at k d inside)) (each k below))

-- what holds of the view from place n on holds of the view of each element from there on
pub All_seen-drop : {X K : Type 0} (view : X → K) (f : ℕ → K) (xs : List X) (R : K → Type 0) (n : ℕ) → IsSeenAs view f xs
    → ((i : ℕ) → n ≤ i → i < length xs → R (f i)) → All (λ x. R (view x)) (drop n xs)
All_seen-drop {X} view f xs R n seen each k d within =
    let inside : n + k < length xs = omega (arith, length-drop n xs) in
    subst (λ (x : X). R (view x)) (sym (get_or-drop n xs k d)) (subst R (sym (seen.at (n + k) d inside)) (each (n + k) (omega arith) inside))
