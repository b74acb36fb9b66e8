-- The bytes of images in memory.
use Rattle.std.proofs.Common.{◌≡◌, ℕ, zero, suc, ◌+◌, ◌-◌, ◌%◌, ◌<◌, ◌≤◌, List, ◌∷◌, ◌++◌, length, map, take, drop, get_or, replicate, Some, None, refl, sym}
use Rattle.std.proofs.Common.{ap, ◌∙◌, arith, length-append}
use Rattle.std.specs.List.{range_with_len, slice_get, slice_range}
use Rattle.std.proofs.lemmas.List.{same_lists, places, length-take, length-drop, get_or_default, get_or-drop, get_or-take}
use Rattle.std.proofs.lemmas.List.FromFn.{length-map-range_with_len, get_or-map-range_with_len}
use Rattle.std.proofs.lemmas.Bool.Decides.{nat_tests}
use Rattle.btr_rack.specs.Rack.{pasted}
use Rattle.btr_rack.specs.Image.{Pages, Patches, page_byte, kept_byte, patched}

-- a list that a function makes, at an index
pub get_made : (f : ℕ → ℕ) (a n i : ℕ) → i < n → slice_get (map f (range_with_len a n)) i ≡ Some (f (a + i))
get_made f a zero i lt = absurd (omega arith)
get_made f a (suc n) zero lt = ap (λ k. Some (f k)) (omega arith)
get_made f a (suc n) (suc i) lt = get_made f (a + 1) n i (omega arith) ∙ ap (λ k. Some (f k)) (omega arith)

-- and past its end
pub get_past : (f : ℕ → ℕ) (a n i : ℕ) → n ≤ i → slice_get (map f (range_with_len a n)) i ≡ None
get_past f a zero i le = refl
get_past f a (suc n) zero le = absurd (omega arith)
get_past f a (suc n) (suc i) le = get_past f (a + 1) n i (omega arith)

-- a function that is 0 makes zeros
pub made_zeros : (f : ℕ → ℕ) (a n : ℕ) → ((i : ℕ) → f i ≡ 0) → map f (range_with_len a n) ≡ replicate n 0
made_zeros f a zero none = refl
made_zeros f a (suc n) none = λ i. none a i ∷ made_zeros f (a + 1) n none i

-- a part of what a function makes
pub part_made : (f : ℕ → ℕ) (xs : List ℕ) (n off : ℕ) → off + length xs ≤ n → ((k : ℕ) → k < length xs → get_or xs k 0 ≡ f (off + k)) → xs
    ≡ slice_range (map f (range_with_len 0 n)) off (off + length xs)
part_made f xs n off fits each = same_lists _ _ sized (λ k d lt. at k d lt)
  where
    -- the part is as long as its range
    sized : length xs ≡ length (slice_range (map f (range_with_len 0 n)) off (off + length xs))
    sized = omega (
      arith,
      length-take (off + length xs - off) (drop off (map f (range_with_len 0 n))),
      length-drop off (map f (range_with_len 0 n)),
      length-map-range_with_len f 0 n,
    )

    -- the part and its range have the same byte at each place
    at : (k d : ℕ) → k < length xs → get_or xs k d ≡ get_or (slice_range (map f (range_with_len 0 n)) off (off + length xs)) k d
    at k d lt =
        let within : k < off + length xs - off = omega arith in
        get_or_default xs k d 0 lt ∙ each k lt
        ∙ sym (get_or-map-range_with_len f 0 n (off + k) (off + k) d (omega arith) (omega arith))
        ∙ sym (get_or-drop off (map f (range_with_len 0 n)) k d)
        ∙ sym (get_or-take (off + length xs - off) (drop off (map f (range_with_len 0 n))) k d within)

-- what a function makes that was patched
pub patched_bytes : (f g : ℕ → ℕ) (n off : ℕ) (piece : List ℕ) → off + length piece ≤ n → ((i : ℕ) → g i ≡ patched (f i) off piece i)
    → map g (range_with_len 0 n) ≡ pasted (map f (range_with_len 0 n)) off piece
patched_bytes f g n off piece fits each = same_lists _ _ sized at
  where
    -- with the piece written over them, the bytes are as many as before
    sized : length (map g (range_with_len 0 n)) ≡ length (take off (map f (range_with_len 0 n)) ++ piece
        ++ drop (off + length piece) (map f (range_with_len 0 n)))
    sized = simp (length-append, length-take, length-drop, length-map-range_with_len) (omega arith)

    -- what the patched function makes has the same byte at each place as what was written over
    at : (k d : ℕ) → k < length (map g (range_with_len 0 n)) → get_or (map g (range_with_len 0 n)) k d
        ≡ get_or (take off (map f (range_with_len 0 n)) ++ piece ++ drop (off + length piece) (map f (range_with_len 0 n))) k d
    at k d lt =
        let below : k < n = omega (arith, length-map-range_with_len g 0 n) in
        let made : get_or (map g (range_with_len 0 n)) k d ≡ g k = get_or-map-range_with_len g 0 n k k d below (omega arith) in
        let was : get_or (map f (range_with_len 0 n)) k d ≡ f k = get_or-map-range_with_len f 0 n k k d below (omega arith) in
        let now : g k ≡ patched (f k) off piece k = each k in
        let whole : length (map f (range_with_len 0 n)) ≡ n = length-map-range_with_len f 0 n in
        grind (arith, places, nat_tests, made, was, now, whole)

-- what a function makes from a place on
abbrev standing : (ℕ → ℕ) → ℕ → ℕ → List ℕ
standing g off n = map g (range_with_len off n)

-- where a first part of a piece was patched in, some bytes of the piece's length were
pub partly_patched : (f g : ℕ → ℕ) (len off n : ℕ) (piece : List ℕ) → off + length piece ≤ len → ((i : ℕ) → g i ≡ patched (f i) off (take n piece) i)
    → (some : List ℕ) × (length some ≡ length piece) × (map g (range_with_len 0 len) ≡ pasted (map f (range_with_len 0 len)) off some)
partly_patched f g len off n piece fits each = (
  standing g off (length piece),
  sized,
  patched_bytes f g len off (standing g off (length piece))
      (omega (arith, sized)) at,
)
  where
    -- what stands in the piece's place is as long as the piece
    sized : length (standing g off (length piece)) ≡ length piece
    sized = length-map-range_with_len g off (length piece)

    -- the patched function is the old one with what stands in the piece's place
    at : (i : ℕ) → g i ≡ patched (f i) off (standing g off (length piece)) i
    at i =
        let part : length (take n piece) ≤ length piece = omega (arith, length-take n piece) in
        let made : i < off + length piece → off ≤ i → get_or (standing g off (length piece)) (i - off) 0 ≡ g i =
        λ lt le. get_or-map-range_with_len g off (length piece) (i - off) i 0 (omega arith) (omega arith) in
        let now : g i ≡ patched (f i) off (take n piece) i = each i in
        grind (arith, nat_tests, part, made, now, sized)

-- what is written over by itself
pub pasted-same : (bytes : List ℕ) (off n : ℕ) → off + n ≤ length bytes → pasted bytes off (slice_range bytes off (off + n)) ≡ bytes
pasted-same bytes off n le = same_lists _ _ whole at
  where
    -- the range has its length
    part : length (slice_range bytes off (off + n)) ≡ n
    part = omega (arith, length-take (off + n - off) (drop off bytes), length-drop off bytes)

    -- what was written over is as long as before
    whole : length (pasted bytes off (slice_range bytes off (off + n))) ≡ length bytes
    whole = simp (length-append, length-take, length-drop) (omega arith)

    -- at each place stands the byte that stood there
    at : (k d : ℕ) → k < length (pasted bytes off (slice_range bytes off (off + n))) → get_or (pasted bytes off (slice_range bytes off (off + n))) k d
        ≡ get_or bytes k d
    at k d lt = grind (arith, places, nat_tests, part, whole)

-- a byte that is a number is that number's byte
pub byte_is : (b n : ℕ) → b < 256 → b ≡ n → b ≡ n % 256
byte_is b n fits is = omega arith

-- what was patched in, as bytes
pub patched_byte : (old new at : ℕ) (piece : List ℕ) (i : ℕ) → ((k : ℕ) → get_or piece k 0 < 256) → new ≡ patched old at piece i → new % 256
    ≡ patched (old % 256) at piece i
patched_byte old new at piece i fits is =
    let small = fits (i - at) in
    grind (arith, nat_tests, small, is)

-- a piece of bytes that was written over pages stands in what is read of them
pub patched_pages : (old new : Pages) (off : ℕ) (piece : List ℕ) → ((k : ℕ) → get_or piece k 0 < 256) → Patches old new off piece → (i : ℕ)
    → page_byte new i ≡ patched (page_byte old i) off piece i
patched_pages old new off piece fits each = λ i. patched_byte (kept_byte old i) (kept_byte new i) off piece i fits (each i)

-- the first part of a piece of bytes is bytes
pub take_fits : (n : ℕ) (piece : List ℕ) → ((k : ℕ) → get_or piece k 0 < 256) → (k : ℕ) → get_or (take n piece) k 0 < 256
take_fits n piece fits k = let small = fits k in grind (arith, places, small)

-- a byte, however often, is bytes
pub replicate_fits : (n b : ℕ) → b < 256 → (k : ℕ) → get_or (replicate n b) k 0 < 256
replicate_fits zero b small k = omega arith
replicate_fits (suc n) b small zero = small
replicate_fits (suc n) b small (suc k) = replicate_fits n b small k
