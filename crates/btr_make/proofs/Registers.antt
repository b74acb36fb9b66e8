-- The checksum of a block is computed byte by byte.
use Rattle.std.proofs.Common.{◌≡◌, ◌∙◌, inl, inr, ℕ, suc, ◌+◌, ◌-◌, ◌^◌, ◌<◌, List, [], ◌∷◌, Option, Some, None, refl, sym, ap, length, take, drop, get_or}
use Rattle.std.proofs.Common.{bit_xor, arith, add-one}
use Rattle.std.specs.Prelude.{IfSome}
use Rattle.std.specs.Option.{option_and_then}
use Rattle.std.specs.List.{slice_get, slice_range}
use Rattle.std.proofs.lemmas.Nat.{xor_lt}
use Rattle.std.proofs.lemmas.Option.{slice_get_within, slice_get-get_or, slice_get_cases}
use Rattle.std.proofs.Math.Seq.{drop-cons}
use Rattle.btr_base.specs.Crc.{register, shifted_by}
use Rattle.btr_base.proofs.Shifts.{register-cons, register-nil, shifted_by_lt}
use Rattle.btr_make.specs.Seal.{IsRegisterAt, IsCrcOf}

-- the register after a byte, and after more
register_more : (reg b : ℕ) (rest : List ℕ) → reg < 2 ^ 32 → b < 2 ^ 8 → register (register reg (b ∷ [])) rest ≡ register reg (b ∷ rest)
register_more reg b rest lt small =
    let s : ℕ = shifted_by 8 (bit_xor reg b) in
    let s_lt : s < 2 ^ 32 = shifted_by_lt 8 (bit_xor reg b) (xor_lt 32 reg b lt (omega arith)) in
    ap (λ r. register r rest) (register-cons reg b [] lt small ∙ register-nil s s_lt) ∙ sym (register-cons reg b rest lt small)

-- before the first byte the register is at its beginning
pub register_begins : (image : Option (List ℕ)) (begin end : ℕ) → IsRegisterAt 0xFFFFFFFF image begin end begin
register_begins None begin end = refl
register_begins (Some image) begin end = (inl refl, refl)

-- one more byte of the image is taken into the register
pub register_goes_on : (reg b begin end at : ℕ) (image : Option (List ℕ)) → reg < 2 ^ 32 → b < 2 ^ 8 → at < end
    → option_and_then (λ (bytes : List ℕ). slice_get bytes at) image ≡ Some b → IsRegisterAt reg image begin end at
    → IsRegisterAt (register reg (b ∷ [])) image begin end (at + 1)
register_goes_on reg b begin end at None lt small below found here = cc
register_goes_on reg b begin end at (Some image) lt small below found here =
    let within : at < length image = slice_get_within image at b found in
    let byte : get_or image at b ≡ b = let e : Some (get_or image at b) ≡ Some b = sym (slice_get-get_or image at b within) ∙ found in cc in (
      inr (omega arith),
      register_more reg b (slice_range image (at + 1) end) lt small
          ∙ ap (register reg) (sym (front image at end b below within byte)) ∙ here.1,
    )
  where
    -- a range of the image is its first byte and the range behind that
    front : (image : List ℕ) (at end b : ℕ) → at < end → at < length image → get_or image at b ≡ b → slice_range image at end
        ≡ b ∷ slice_range image (at + 1) end
    front image at end b below within byte =
        let n : ℕ = end - (at + 1) in
        let more : end - at ≡ suc n = omega arith in
        ap (λ k. take k (drop at image)) more
        ∙ ap (take (suc n)) (drop-cons image at b within ∙ ap (λ x. x ∷ drop (suc at) image) byte)
        ∙ ap (λ k. b ∷ take n (drop k image)) (sym (add-one at))

-- once all bytes are taken in, the register turned over is the CRC-32C of the range
pub register_ends : (reg begin end : ℕ) (image : Option (List ℕ)) → reg < 2 ^ 32 → begin < end → IsRegisterAt reg image begin end end
    → IsCrcOf (2 ^ 32 - 1 - reg) image begin end
register_ends reg begin end None lt more here = absurd (omega arith)
register_ends reg begin end (Some image) lt more here =
    let none : end - end ≡ 0 = omega arith in
    let empty : slice_range image end end ≡ [] = ap (λ k. take k (drop end image)) none in
    let is : reg ≡ register 0xFFFFFFFF (slice_range image begin end) = sym (register-nil reg lt) ∙ ap (register reg) (sym empty) ∙ here.1 in
    (elim here.0 [ inl same ↦ absurd (omega arith) | inr within ↦ within ], ap (λ r. 2 ^ 32 - 1 - r) is)

-- where a byte of the range is not there, the image ends before the range
pub byte_missing : (begin end at : ℕ) (image : Option (List ℕ)) → at < end → option_and_then (λ (bytes : List ℕ). slice_get bytes at) image ≡ None
    → IfSome image (λ bytes. length bytes < end)
byte_missing begin end at None below found = tt
byte_missing begin end at (Some image) below found =
    elim (slice_get_cases image at).1 [ inl there ↦ absurd (let e : Some there.0 ≡ None = sym there.2 ∙ found in cc) | inr past ↦ omega arith ]
