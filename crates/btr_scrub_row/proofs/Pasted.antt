-- Bytes that are written over others in memory, and ranges of what comes of it.
use Rattle.std.proofs.Common.{◌≡◌, ◌≢◌, ◌⊎◌, ℕ, ◌+◌, ◌*◌, ◌-◌, ◌<◌, ◌≤◌, List, ◌++◌, length, get_or, take, drop, slice_range, sym, ap, ◌∙◌, inl, inr, arith}
use Rattle.std.proofs.Common.{append_assoc, length-append, length-take, length-drop}
use Rattle.btr_scrub_row.proofs.Common.{element_in, pasted, range-range}
use borrow.Rule.Slice.PartMut.{put_mid}
use Rattle.std.proofs.lemmas.Bool.{cases_lt}
use Rattle.std.proofs.lemmas.List.{drop-drop, same_lists, get_or-take, get_or-drop, get_or_append_left, get_or-append_right}
use Rattle.btr_read.proofs.Pieces.{length-first}

module _ (image : List ℕ) (off : ℕ) (bytes : List ℕ) (fits : off + length bytes ≤ length image) where
  abbrev rest : List ℕ
  rest = drop (off + length bytes) image

  -- what stands before the bytes is as long as their place says
  front : length (take off image) ≡ off
  front = length-first image off (omega (arith, fits))

  both_long : length (take off image ++ bytes) ≡ off + length bytes
  both_long = let a = length-append (take off image) bytes in omega (arith, a, front)

  -- bytes written over others leave the length
  pub length-pasted : length (pasted image off bytes) ≡ length image
  length-pasted =
      let a = length-append (take off image ++ bytes) rest in
      let c = length-drop (off + length bytes) image in
      omega (arith, a, c, both_long, fits)

  -- each byte before them is as it was
  pub pasted-below : (i d : ℕ) → i < off → get_or (pasted image off bytes) i d ≡ get_or image i d
  pasted-below i d lt =
      get_or_append_left (take off image ++ bytes) rest d i (omega (arith, both_long, lt))
      ∙ get_or_append_left (take off image) bytes d i (omega (arith, front, lt)) ∙ get_or-take off image i d lt

  -- those at their place are theirs
  pub pasted-within : (i d : ℕ) → off ≤ i → i < off + length bytes → get_or (pasted image off bytes) i d ≡ get_or bytes (i - off) d
  pasted-within i d le lt =
      get_or_append_left (take off image ++ bytes) rest d i (omega (arith, both_long, lt))
      ∙ get_or-append_right (take off image) bytes off i d front le

  -- each byte behind them is as it was
  pub pasted-above : (i d : ℕ) → off + length bytes ≤ i → get_or (pasted image off bytes) i d ≡ get_or image i d
  pasted-above i d le =
      get_or-append_right (take off image ++ bytes) rest (off + length bytes) i d both_long le
      ∙ get_or-drop (off + length bytes) image (i - (off + length bytes)) d
      ∙ ap (λ j. get_or image j d) (omega (arith, le))

  -- so is each byte before or behind them
  pub pasted-outside : (i d : ℕ) → (i < off) ⊎ (off + length bytes ≤ i) → get_or (pasted image off bytes) i d ≡ get_or image i d
  pasted-outside i d (inl lt) = pasted-below i d lt
  pasted-outside i d (inr le) = pasted-above i d le

-- what is left of a list whose middle was written
pub put_is : (xs ys : List ℕ) (a k : ℕ) → length ys ≡ k → put_mid a k xs ys ≡ pasted xs a ys
put_is xs ys a k e = ap (λ zs. take a xs ++ (ys ++ zs)) (drop-drop k a xs ∙ ap (λ m. drop (a + m) xs) (sym e))
    ∙ sym (append_assoc (take a xs) ys (drop (a + length ys) xs))

-- a byte of a range
pub at_range : (xs : List ℕ) (a n i d : ℕ) → i < n → get_or (slice_range xs a (a + n)) i d ≡ get_or xs (a + i) d
at_range xs a n i d lt = get_or-take (a + n - a) (drop a xs) i d (omega (arith, lt)) ∙ get_or-drop a xs i d

-- a range within bytes is as long as it says
pub length-range : (xs : List ℕ) (a n : ℕ) → a + n ≤ length xs → length (slice_range xs a (a + n)) ≡ n
length-range xs a n le = omega (arith, length-take (a + n - a) (drop a xs), length-drop a xs, le)

-- ranges of one length, byte by byte
same_ranges : (xs ys : List ℕ) (a n : ℕ) → length ys ≡ length xs → ((i d : ℕ) → i < n → get_or ys (a + i) d ≡ get_or xs (a + i) d)
    → slice_range ys a (a + n) ≡ slice_range xs a (a + n)
same_ranges xs ys a n long each =
    let mine = length-take (a + n - a) (drop a ys) in
    let mine' = length-drop a ys in
    let theirs = length-take (a + n - a) (drop a xs) in
    let theirs' = length-drop a xs in
    same_lists (slice_range ys a (a + n)) (slice_range xs a (a + n)) (omega (arith, mine, mine', theirs, theirs', long)) (λ i d lt.
    let below : i < n = omega (arith, lt, mine) in
    at_range ys a n i d below ∙ each i d below ∙ sym (at_range xs a n i d below))

module _ (xs : List ℕ) (start : ℕ) (w : List ℕ) (fits : start + length w ≤ length xs) where
  -- the bytes that were written
  pub range_pasted : slice_range (pasted xs start w) start (start + length w) ≡ w
  range_pasted =
      let long = length-range (pasted xs start w) start (length w) (omega (arith, length-pasted xs start w fits, fits)) in
      same_lists (slice_range (pasted xs start w) start (start + length w)) w long (λ i d lt.
      let below : i < length w = omega (arith, lt, long) in
      at_range (pasted xs start w) start (length w) i d below ∙ pasted-within xs start w fits (start + i) d (omega arith) (omega (arith, below))
      ∙ ap (λ j. get_or w j d) (omega arith))

  -- a range apart from them
  pub range_apart : (a n : ℕ) → (a + n ≤ start) ⊎ (start + length w ≤ a) → slice_range (pasted xs start w) a (a + n) ≡ slice_range xs a (a + n)
  range_apart a n apart = same_ranges xs (pasted xs start w) a n (length-pasted xs start w fits)
      (λ i d lt. pasted-outside xs start w fits (a + i) d (by apart i lt))
    where
      by : (a + n ≤ start) ⊎ (start + length w ≤ a) → (i : ℕ) → i < n → (a + i < start) ⊎ (start + length w ≤ a + i)
      by (inl le) i lt = inl (omega (arith, le, lt))
      by (inr le) i lt = inr (omega (arith, le))

  -- a range around them
  pub range_around : (a rest n : ℕ) → start ≡ a + rest → rest + length w ≤ n → a + n ≤ length xs → slice_range (pasted xs start w) a (a + n)
      ≡ pasted (slice_range xs a (a + n)) rest w
  range_around a rest n at inside whole =
      let ys = slice_range xs a (a + n) in
      let long_ys : length ys ≡ n = length-range xs a n whole in
      let fits' : rest + length w ≤ length ys = omega (arith, inside, long_ys) in
      let long = length-range (pasted xs start w) a n (omega (arith, length-pasted xs start w fits, whole)) in
      let long' = length-pasted ys rest w fits' in
      same_lists (slice_range (pasted xs start w) a (a + n)) (pasted ys rest w) (omega (arith, long, long', long_ys)) (λ i d lt.
      let below : i < n = omega (arith, lt, long) in
      at_range (pasted xs start w) a n i d below ∙ elim (cases_lt i rest) [
        | inl before ↦ pasted-outside xs start w fits (a + i) d (inl (omega (arith, before, at)))
            ∙ sym (pasted-outside ys rest w fits' i d (inl before) ∙ at_range xs a n i d below)
        | inr le ↦ elim (cases_lt i (rest + length w)) [
          | inl within ↦ pasted-within xs start w fits (a + i) d (omega (arith, le, at)) (omega (arith, within, at))
              ∙ ap (λ j. get_or w j d) (omega (arith, at)) ∙ sym (pasted-within ys rest w fits' i d le within)
          | inr past ↦ pasted-outside xs start w fits (a + i) d (inr (omega (arith, past, at)))
              ∙ sym (pasted-outside ys rest w fits' i d (inr past) ∙ at_range xs a n i d below)
        ]
      ])

-- elements are apart
pub element_other : (xs : List ℕ) (e rest j : ℕ) (w : List ℕ) → e * 65536 + rest + length w ≤ length xs → rest + length w ≤ 65536 → j ≢ e
    → element_in (pasted xs (e * 65536 + rest) w) j ≡ element_in xs j
element_other xs e rest j w fits inside other = range_apart xs (e * 65536 + rest) w fits (j * 65536) 65536 (elim (cases_lt j e) [
  | inl lt ↦ inl (omega (arith, lt))
  | inr le ↦ inr (omega (arith, le, ne_more j e le other, inside))
])
  where
    ne_more : (j e : ℕ) → e ≤ j → j ≢ e → e + 1 ≤ j
    ne_more j e le ne = elim (cases_lt e j) [ inl lt ↦ omega (arith, lt) | inr ge ↦ absurd (ne (omega (arith, ge, le))) ]

-- a range of the first bytes
pub front_range : (xs : List ℕ) (n a b : ℕ) → a ≤ b → b ≤ n → slice_range (take n xs) a b ≡ slice_range xs a b
front_range xs n a b le most =
    let cut : take n xs ≡ slice_range xs 0 (0 + n) = ap (λ m. take m xs) (omega arith) in
    ap (λ zs. slice_range zs a b) cut ∙ range-range xs 0 n a b le most ∙ ap (λ m. slice_range xs m (0 + b)) (omega arith) ∙ ap (slice_range xs a) (omega arith)
