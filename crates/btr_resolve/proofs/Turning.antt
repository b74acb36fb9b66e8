-- A path that is kept from its last byte to its first.
use Rattle.std.proofs.Common.{◌≡◌, ℕ, List, [], ◌∷◌, ◌++◌, length, take, drop, ap, ap₂, ◌∙◌}
use Rattle.std.specs.Prelude.{reverse}
use Rattle.std.proofs.Math.Seq.{drop-append_seam, take-append_seam}
use Rattle.std.proofs.lemmas.List.{reverse-append, reverse-reverse}

-- a name was put in front
pub entered : (bytes more turned new name : List ℕ) (at : ℕ) → at ≡ length bytes → more ≡ bytes ++ name
    → turned ≡ take at more ++ reverse (drop at more) → new ≡ turned ++ 47 ∷ [] → reverse new ≡ 47 ∷ name ++ reverse bytes
entered bytes more turned new name at is_at is_more is_turned is_new =
    let whole : turned ≡ bytes ++ reverse name =
    is_turned ∙ ap₂ (λ (n : ℕ) (xs : List ℕ). take n xs ++ reverse (drop n xs)) is_at is_more
    ∙ ap₂ (λ (xs ys : List ℕ). xs ++ reverse ys) (take-append_seam bytes name) (drop-append_seam bytes name) in
    ap reverse (is_new ∙ ap (λ xs. xs ++ 47 ∷ []) whole)
    ∙ reverse-append (bytes ++ reverse name) (47 ∷ [])
    ∙ ap (λ xs. 47 ∷ xs) (reverse-append bytes (reverse name) ∙ ap (λ xs. xs ++ reverse bytes) (reverse-reverse name))
