-- The blocks of a row, collected one by one.
use Rattle.std.proofs.Common.{◌≡◌, ℕ, true, List, [], ◌∷◌, ◌++◌, Some, None, refl, sym, ap, ◌∙◌, subst, inl, inr, append_assoc}
use Rattle.btr_scrub.proofs.Common.{Chunk, In, Want, addr_of, holds, in_either}
use Rattle.btr_scrub.specs.Rowing.{row_in}

-- so far: a first block, and some behind it
pub record CollectsSoFar (chunk : Chunk) (row : ℕ) (first : Want) (old new wants : List Want) : Type 0 where
  pub more : List Want
  pub are : wants ≡ first ∷ more
  pub split : old ≡ more ++ new
  pub inside : (want : Want) → In want more → row_in chunk (addr_of want) ≡ Some row

-- only the first block was collected
pub collects_first : (chunk : Chunk) (row : ℕ) (first : Want) (old wants empty : List Want) → empty ≡ [] → wants ≡ empty ++ first ∷ []
    → CollectsSoFar chunk row first old old wants
collects_first chunk row first old wants empty none e = record { more = []; are = e ∙ ap (λ ws. ws ++ first ∷ []) none; split = refl; inside = λ w i. absurd i }

-- one more was
pub collects_more : (chunk : Chunk) (row : ℕ) (first want : Want) (old new rest wants wants' : List Want)
    → CollectsSoFar chunk row first old new wants → new ≡ want ∷ rest → row_in chunk (addr_of want) ≡ Some row → wants' ≡ wants ++ want ∷ []
    → CollectsSoFar chunk row first old rest wants'
collects_more chunk row first want old new rest wants wants' h is in_row e = record {
  more = h.more ++ want ∷ [];
  are = e ∙ ap (λ ws. ws ++ want ∷ []) h.are;
  split = h.split ∙ ap (λ ws. h.more ++ ws) is ∙ sym (append_assoc h.more (want ∷ []) rest);
  inside = λ w i. elim (in_either w h.more (want ∷ []) i) [
    | inl j ↦ h.inside w j
    | inr (inl same) ↦ subst (λ v. row_in chunk (addr_of v) ≡ Some row) same in_row
    | inr (inr j) ↦ absurd j
  ];
}

-- an address of the chunk has a row
pub has_row : (chunk : Chunk) (addr : ℕ) → holds chunk addr ≡ true → row_in chunk addr ≡ None → ⊥
has_row chunk addr e none = let h = rw e at none in cc
