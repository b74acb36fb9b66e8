-- P and Q of one slice.
use Rattle.std.proofs.Common.{◌≡◌, ℕ, List, [], ◌∷◌, ap, ◌∙◌, arith}
use Rattle.btr_scrub_row.proofs.Common.{IsSlice, parity_by_folding, parity_p, parity_q, plus}
use Rattle.btr_parity.specs.Slices.{scaled, zeros}
use Rattle.btr_parity.proofs.Lost.{plus_comm, plus-zeros, scaled-zeros}

zeros_first : (size : ℕ) (d : List ℕ) → IsSlice size d → plus (zeros size) d ≡ d
zeros_first size d h = plus_comm (zeros size) d ∙ plus-zeros d size h.long

-- P of one slice is the slice
pub p_of_one : (size : ℕ) (d : List ℕ) → IsSlice size d → parity_p size (d ∷ []) ≡ d
p_of_one size d h = parity_by_folding.p_of_one_more size [] d h ∙ ap (λ z. plus z d) (parity_by_folding.p_of_none size) ∙ zeros_first size d h

-- so is Q
pub q_of_one : (size : ℕ) (d : List ℕ) → IsSlice size d → parity_q size (d ∷ []) ≡ d
q_of_one size d h =
    parity_by_folding.q_of_one_before size [] d (λ k e lt. absurd (omega (arith, lt))) h
    ∙ ap (λ z. plus (scaled 2 z) d) (parity_by_folding.q_of_none size) ∙ ap (λ z. plus z d) (scaled-zeros 2 size) ∙ zeros_first size d h
