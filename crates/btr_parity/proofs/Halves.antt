-- A product, looked up by the two halves of a byte.
use Rattle.std.proofs.Common.{◌≡◌, ℕ, ◌+◌, ◌*◌, ◌/◌, ◌%◌, ◌^◌, ◌<◌, List, length, get_or, replicate, map, refl, sym, ap, ap₂, ◌∙◌, arith, bit_xor, w8, Fits}
use Rattle.std.specs.Int.Bits.{xor_zero_l, xor_zero_r}
use Rattle.std.specs.Simd.Lanes.{zip2, Each1}
use Rattle.std.proofs.lemmas.Nat.{and_mask, xor_block}
use Rattle.std.proofs.lemmas.List.FromFn.{get_or-map-range_with_len}
use Rattle.std.proofs.lemmas.List.{length-map, ext_get_or, get_or-map}
use Rattle.std.proofs.lemmas.Simd.{SwzOk, swz_l, length-zip2, length-swz_l, get_or-zip2, get_or-swz_l_below, get_or-replicate, Each1-get_or, Each1-from_get_or}
use Rattle.std.proofs.lemmas.Simd.{SwzOk-from_below}
use lib.Bits.{bit_and}
use Rattle.btr_parity.specs.Field.{product}
use Rattle.btr_parity.specs.Multiples.{multiples}
use Rattle.btr_parity.proofs.Products.{product-right}

-- the low half of a byte is what a division by 16 leaves
low_half : (b : ℕ) → bit_and b 15 ≡ b % 16
low_half b = and_mask b 4

-- a byte is its low half and 16 times its high half
halves : (b : ℕ) → b ≡ bit_xor (b % 16) (16 * (b / 16))
halves b =
    let block : bit_xor (0 * 2 ^ 4 + b % 16) (b / 16 * 2 ^ 4 + 0) ≡ bit_xor 0 (b / 16) * 2 ^ 4 + bit_xor (b % 16) 0 =
    xor_block 4 0 (b / 16) (b % 16) 0 (omega arith) (omega arith) in
    let l : 0 * 2 ^ 4 + b % 16 ≡ b % 16 = omega arith in
    let r : b / 16 * 2 ^ 4 + 0 ≡ 16 * (b / 16) = omega arith in
    let whole : b ≡ b / 16 * 2 ^ 4 + b % 16 = omega arith in
    whole ∙ sym (ap₂ (λ u v. u * 2 ^ 4 + v) (xor_zero_l (b / 16)) (xor_zero_r (b % 16))) ∙ sym block ∙ ap₂ bit_xor l r

-- entry k of a table of multiples is the factor times k steps
entry : (factor step k : ℕ) → k < 16 → get_or (multiples factor step) k 0 ≡ product factor (step * k)
entry factor step k lt = get_or-map-range_with_len (λ k. product factor (step * k)) 0 16 k k 0 lt (omega arith)

-- the low halves of 16 bytes
low_of : List ℕ → List ℕ
low_of bytes = zip2 bit_and bytes (replicate 16 15)

-- the high halves of 16 bytes
high_of : List ℕ → List ℕ
high_of bytes = zip2 (λ a s. a / 2 ^ s) bytes (replicate 16 4)

module _ (bytes : List ℕ) (long : length bytes ≡ 16) (fits : Each1 (Fits w8) bytes) where
  -- each of the 16 is a byte
  byte_at : (i : ℕ) → i < 16 → get_or bytes i 0 < 256
  byte_at i lt = (Each1-get_or (Fits w8) bytes i 0 (omega arith) fits).fits

  -- there are 16 low halves
  length-low_of : length (low_of bytes) ≡ 16
  unfolding low_of
  length-low_of = length-zip2 bit_and bytes (replicate 16 15) long ∙ long

  -- there are 16 high halves
  length-high_of : length (high_of bytes) ≡ 16
  unfolding high_of
  length-high_of = length-zip2 (λ a s. a / 2 ^ s) bytes (replicate 16 4) long ∙ long

  -- at each place stands the low half of the byte there
  get_or-low_of : (i : ℕ) → i < 16 → get_or (low_of bytes) i 0 ≡ get_or bytes i 0 % 16
  unfolding low_of
  get_or-low_of i lt =
      get_or-zip2 bit_and bytes (replicate 16 15) i 0 0 0 (omega arith) lt ∙ ap (bit_and (get_or bytes i 0)) (get_or-replicate 16 i 15 0 lt)
      ∙ low_half (get_or bytes i 0)

  -- at each place stands the high half of the byte there
  get_or-high_of : (i : ℕ) → i < 16 → get_or (high_of bytes) i 0 ≡ get_or bytes i 0 / 16
  unfolding high_of
  get_or-high_of i lt =
      get_or-zip2 (λ a s. a / 2 ^ s) bytes (replicate 16 4) i 0 0 0 (omega arith) lt ∙ ap (λ s. get_or bytes i 0 / 2 ^ s) (get_or-replicate 16 i 4 0 lt)

  -- the low halves are places of a table of 16
  pub low_within : SwzOk w8 16 16 0 (zip2 bit_and bytes (replicate 16 15))
  unfolding low_of
  low_within =
      SwzOk-from_below w8 16 1 16 0 (low_of bytes) refl (omega (arith, length-low_of))
      (Each1-from_get_or (λ j. j < 16) (low_of bytes) 0 (λ i lt. let within : i < 16 = omega (arith, length-low_of) in omega (arith, get_or-low_of i within)))

  -- the high halves are places of a table of 16
  pub high_within : SwzOk w8 16 16 0 (zip2 (λ a s. a / 2 ^ s) bytes (replicate 16 4))
  unfolding high_of
  high_within =
      SwzOk-from_below w8 16 1 16 0 (high_of bytes) refl (omega (arith, length-high_of))
      (Each1-from_get_or (λ j. j < 16) (high_of bytes) 0 (λ i lt. let within : i
      < 16 = omega (arith, length-high_of) in omega (arith, get_or-high_of i within, byte_at i within)))

  -- what a table gives at a place
  found : (factor step : ℕ) (js : List ℕ) (i j : ℕ) → length js ≡ 16 → i < 16 → get_or js i 0 ≡ j → j < 16
      → get_or (swz_l w8 16 (multiples factor step) 0 js) i 0 ≡ product factor (step * j)
  found factor step js i j len lt is small =
      let place : 16 * ((0 + i) / 16) + get_or js i 0 ≡ j = omega arith in
      get_or-swz_l_below w8 16 (multiples factor step) 0 js i (omega arith) (omega arith) ∙ ap (λ k. get_or (multiples factor step) k 0) place
      ∙ entry factor step j small

  -- the products of the low halves, looked up
  lows : ℕ → List ℕ
  lows factor = swz_l w8 16 (multiples factor 1) 0 (low_of bytes)

  -- the products of the high halves by 16, looked up
  highs : ℕ → List ℕ
  highs factor = swz_l w8 16 (multiples factor 16) 0 (high_of bytes)

  -- as many low products as bytes
  length-lows : (factor : ℕ) → length (lows factor) ≡ 16
  unfolding lows
  length-lows factor = length-swz_l w8 16 (multiples factor 1) 0 (low_of bytes) ∙ length-low_of

  -- as many high products as bytes
  length-highs : (factor : ℕ) → length (highs factor) ≡ 16
  unfolding highs
  length-highs factor = length-swz_l w8 16 (multiples factor 16) 0 (high_of bytes) ∙ length-high_of

  -- at each place the two looked-up products add up to the product of the byte there
  at_lane : (factor i : ℕ) → i < 16 → get_or (zip2 bit_xor (lows factor) (highs factor)) i 0 ≡ product factor (get_or bytes i 0)
  unfolding lows highs
  at_lane factor i lt =
      let b = get_or bytes i 0 in
      let l = found factor 1 (low_of bytes) i (b % 16) length-low_of lt (get_or-low_of i lt) (omega arith) in
      let h = found factor 16 (high_of bytes) i (b / 16) length-high_of lt (get_or-high_of i lt) (omega (arith, byte_at i lt)) in
      let one : 1 * (b % 16) ≡ b % 16 = omega arith in
      get_or-zip2 bit_xor (lows factor) (highs factor) i 0 0 0 (omega (arith, length-lows factor)) (omega (arith, length-highs factor))
      ∙ ap₂ bit_xor (l ∙ ap (product factor) one) h ∙ sym ((product-right factor).adds (b % 16) (16 * (b / 16))) ∙ ap (product factor) (sym (halves b))

  -- the two looked-up products add up to the products of all 16 bytes
  looked_up : (factor : ℕ) → zip2 bit_xor (lows factor) (highs factor) ≡ map (product factor) bytes
  looked_up factor =
      let len : length (zip2 bit_xor (lows factor) (highs factor)) ≡ 16 =
      length-zip2 bit_xor (lows factor) (highs factor) (length-lows factor ∙ sym (length-highs factor)) ∙ length-lows factor in
      ext_get_or 0 (zip2 bit_xor (lows factor) (highs factor)) (map (product factor) bytes) (len ∙ sym (length-map bytes (product factor) ∙ long))
      (λ i lt. let within : i < 16 = omega (arith, len) in at_lane factor i within ∙ sym (get_or-map (product factor) bytes i 0 0 (omega arith)))

  -- 16 bytes are multiplied by two tables, of the multiples of 1 and of 16
  pub scaled_by_halves : (factor : ℕ) (low high : List ℕ) → low ≡ multiples factor 1 → high ≡ multiples factor 16
      → zip2 bit_xor (swz_l w8 16 low 0 (zip2 bit_and bytes (replicate 16 15))) (swz_l w8 16 high 0 (zip2 (λ a s. a / 2 ^ s) bytes (replicate 16 4)))
      ≡ map (product factor) bytes
  unfolding lows highs low_of high_of
  scaled_by_halves factor low high el eh =
      ap₂ (λ l h. zip2 bit_xor (swz_l w8 16 l 0 (low_of bytes)) (swz_l w8 16 h 0 (high_of bytes))) el eh ∙ looked_up factor
