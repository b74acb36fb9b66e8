-- Two listings that were run by hand, on paper, and compute to the same.
use Rattle.std.proofs.Common.{◌≡◌, ℕ, zero, suc, List, [], ◌∷◌, Result, Ok, Err, refl}
use Rattle.btr_prog.specs.Prog.{Wants, Does, run, exec}
use Rattle.btr_prog_example.specs.declared.blocks.Want.{Want}
use Rattle.btr_prog_example.specs.declared.blocks.Want.TheVariants.{Catalogue, Page}
use Rattle.btr_prog_example.specs.Rows.{Bytes, End}
use Rattle.btr_prog_example.specs.Listing.{listing}

-- catalogue 0 has pages 1, 2 and 3; page 1 is "ab", page 2 is lost
abbrev lacks : Want → Result (List ℕ) ℕ
lacks (Catalogue a) = Ok (1 ∷ (2 ∷ (3 ∷ [])))
lacks (Page zero) = Err 0
lacks (Page (suc zero)) = Ok (97 ∷ (98 ∷ []))
lacks (Page (suc (suc a))) = Err (suc (suc a))

-- the same, where page 2 is "c" and page 3 is empty
abbrev has : Want → Result (List ℕ) ℕ
has (Catalogue a) = Ok (1 ∷ (2 ∷ (3 ∷ [])))
has (Page zero) = Err 0
has (Page (suc zero)) = Ok (97 ∷ (98 ∷ []))
has (Page (suc (suc zero))) = Ok (99 ∷ [])
has (Page (suc (suc (suc a)))) = Ok []

-- where page 2 is lost, the rows of page 1 are put and the listing ends with the fault 2
stops_at_two : exec lacks (listing 0) ≡ run (Wants (Catalogue 0) ∷
    (Wants (Page 1) ∷ (Does (Bytes (97 ∷ (98 ∷ []))) ∷ (Does End ∷ (Wants (Page 2) ∷ []))))) (Err 2)
stops_at_two = refl

-- where page 3 is empty, the rows of pages 1 and 2 are put and the listing ends with page 2
ends_at_three : exec has (listing 0) ≡ run (Wants (Catalogue 0) ∷
    (Wants (Page 1) ∷ (Does (Bytes (97 ∷ (98 ∷ []))) ∷ (Does End ∷ (Wants (Page 2) ∷ (Does (Bytes (99 ∷ [])) ∷ (Does End ∷ (Wants (Page 3) ∷ [])))))))) (Ok 2)
ends_at_three = refl
