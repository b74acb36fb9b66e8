-- A piece whose first bytes are dropped, as lists.
use Rattle.std.proofs.Common.{◌≡◌, ℕ, ◌+◌, ◌-◌, ◌/◌, ◌%◌, ◌^◌, ◌<◌, ◌≤◌, inl, inr, List, [], ◌∷◌, length, get_or, take, drop, replicate, sym, ap, subst, ◌∙◌}
use Rattle.std.proofs.Common.{arith, length-drop}
use Rattle.std.specs.Int.Bits.{bit_xor, xor_zero_l, xor_zero_r}
use lib.Lanes.{put_chunk}
use Rattle.std.proofs.lemmas.Bool.{cases_lt}
use Rattle.std.proofs.lemmas.Nat.{xor_lt}
use Rattle.std.proofs.lemmas.Simd.{length-put_chunk, get_or-put_chunk_below, get_or-put_chunk_at, get_or-put_chunk_above}
use Rattle.std.proofs.lemmas.List.{get_or-take, get_or-drop, get_or_past, length-take, length-replicate, get_or-replicate, ext_get_or}
use Rattle.btr_base.specs.Crc.{register}
use Rattle.btr_base.specs.Fold.{after, far, near, gathered, sent, received, register_behind}
use Rattle.btr_base.proofs.Multiple.{far_is_multiple, near_is_multiple}
use Rattle.btr_base.proofs.Words.{register_bytes, after_start}
use Rattle.btr_base.proofs.Ahead.{AreWithin, after-same, after-more, gathered-same, gathered-moved, gathered_none, front, front_in, front_past, front_fits}
use Rattle.btr_base.proofs.Ahead.{dropped}

-- the number at a place of a list, and 0 past its end
abbrev pub at : List ℕ → ℕ → ℕ
at xs i = get_or xs i 0

-- the far multiple's exponents below its highest are at most 300
pub far_within : AreWithin 300 far
far_within = (omega arith, (omega arith, (omega arith, (omega arith, (omega arith, tt)))))

-- the near multiple's exponents below its highest are at most 144
pub near_within : AreWithin 144 near
near_within = (omega arith, (omega arith, (omega arith, (omega arith, (omega arith, (omega arith, (omega arith, tt)))))))

-- what is within a bound is within a greater one
further : (d e : ℕ) (es : List ℕ) → d ≤ e → AreWithin d es → AreWithin e es
further d e [] le within = tt
further d e (x ∷ es) le within = (omega (arith, within.0), further d e es le within.1)

-- a block of n bytes more is dropped
pub block_sent : (d r n m : ℕ) (es : List ℕ) (byte : ℕ → ℕ) (xs block : List ℕ) → AreWithin r es → r + n ≤ d → length block ≡ n → d + m + n ≤ length xs
    → ((i : ℕ) → i < n → at block i ≡ bit_xor (byte (m + i)) (sent es xs (m + i)))
    → ((j : ℕ) → j < m → at xs (j + d) ≡ bit_xor (byte j) (sent es xs j))
    → (j : ℕ) → j < m + n → at (put_chunk (d + m) xs block) (j + d) ≡ bit_xor (byte j) (sent es (put_chunk (d + m) xs block) j)
block_sent d r n m es byte xs block within apart long room e before j lt =
    let ys = put_chunk (d + m) xs block in
    let same : sent es xs j ≡ sent es ys j =
    gathered-same r es (at xs) (at ys) j j within (λ a le. sym (get_or-put_chunk_below (d + m) xs block (j + a) 0 (omega arith))) in
    elim (cases_lt j m) [
      | inl earlier ↦ get_or-put_chunk_below (d + m) xs block (j + d) 0 (omega arith) ∙ before j earlier ∙ ap (bit_xor (byte j)) same
      | inr le ↦
          let i = j - m in
          let place : j + d ≡ d + m + i = omega arith in
          let here : m + i ≡ j = omega arith in
          ap (at ys) place ∙ get_or-put_chunk_at (d + m) xs block i 0 (omega (arith, long)) (omega (arith, long)) ∙ e i (omega arith)
          ∙ ap (λ p. bit_xor (byte p) (sent es xs p)) here ∙ ap (bit_xor (byte j)) same
    ]

-- zeros, and nothing behind them
pub zeros_at : (n : ℕ) (xs : List ℕ) (i : ℕ) → xs ≡ replicate n 0 → at xs i ≡ 0
zeros_at n xs i all = ap (λ (l : List ℕ). at l i) all ∙ elim (cases_lt i n) [
  | inl lt ↦ get_or-replicate n i 0 0 lt
  | inr past ↦ get_or_past (replicate n 0) i 0 (omega (arith, length-replicate {A = ℕ} n 0))
]

-- what is gathered of bytes is a byte
gathered_fits : (es : List ℕ) (u : ℕ → ℕ) (j : ℕ) → ((i : ℕ) → u i < 2 ^ 8) → gathered es u j < 2 ^ 8
unfolding gathered
gathered_fits [] u j fits = omega arith
gathered_fits (e ∷ es) u j fits = xor_lt 8 (u (j + e)) (gathered es u j) (fits (j + e)) (gathered_fits es u j fits)

-- a byte with what was sent to it from afar is a byte
pub received_fits : (xs bytes : List ℕ) (j : ℕ) → ((i : ℕ) → at xs i < 2 ^ 8) → ((i : ℕ) → at bytes i < 2 ^ 8) → received xs bytes j < 2 ^ 8
received_fits xs bytes j fits are_bytes = xor_lt 8 (at bytes j) (sent far xs j) (are_bytes j) (gathered_fits far (at xs) j fits)

-- a kept byte, with what the near multiple sends to it, is a byte
pub kept_fits : (xs ys bytes : List ℕ) (j k : ℕ) → ((i : ℕ) → at xs i < 2 ^ 8) → ((i : ℕ) → at ys i < 2 ^ 8) → ((i : ℕ) → at bytes i < 2 ^ 8)
    → bit_xor (received xs bytes j) (sent near ys k) < 2 ^ 8
kept_fits xs ys bytes j k fits nearer_fits are_bytes =
    xor_lt 8 (received xs bytes j) (sent near ys k) (received_fits xs bytes j fits are_bytes) (gathered_fits near (at ys) k nearer_fits)

-- a list of bytes with a block of bytes
pub block_fits : (n m : ℕ) (lane : ℕ → ℕ) (xs block : List ℕ) → length block ≡ n → m + n ≤ length xs → ((i : ℕ) → i < n → at block i ≡ lane i)
    → ((i : ℕ) → lane i < 2 ^ 8)
    → ((i : ℕ) → at xs i < 2 ^ 8) → (i : ℕ) → at (put_chunk m xs block) i < 2 ^ 8
block_fits n m lane xs block long room is lanes fits i = elim (cases_lt i m) [
  | inl below ↦ omega (arith, get_or-put_chunk_below m xs block i 0 below, fits i)
  | inr from ↦ elim (cases_lt (i - m) n) [
    | inl within ↦
        let place : m + (i - m) ≡ i = omega arith in
        omega (
          arith,
          ap (at (put_chunk m xs block)) (sym place)
              ∙ get_or-put_chunk_at m xs block (i - m) 0 (omega (arith, long)) (omega (arith, long)) ∙ is (i - m) within,
          lanes (i - m),
        )
    | inr past ↦ omega (arith, get_or-put_chunk_above m xs block i 0 (omega (arith, long)), fits i)
  ]
]

-- what stands before a block is as it was
pub block_front : (d m : ℕ) (xs block : List ℕ) → take d (put_chunk (d + m) xs block) ≡ take d xs
block_front d m xs block =
    ext_get_or 0 (take d (put_chunk (d + m) xs block)) (take d xs)
    (omega (arith, length-take d (put_chunk (d + m) xs block), length-take d xs, length-put_chunk (d + m) xs block))
    (λ i lt. let small : i < d = omega (arith, length-take d (put_chunk (d + m) xs block)) in
    get_or-take d (put_chunk (d + m) xs block) i 0 small ∙ get_or-put_chunk_below (d + m) xs block i 0 (omega arith) ∙ sym (get_or-take d xs i 0 small))

-- the first numbers of a list, which stand n places on in another one
pub moved_front : (xs ys : List ℕ) (n : ℕ) → length xs ≡ 4972 → length ys ≡ 4972 → n ≤ 4096 → ((i : ℕ) → i < 561 → at xs i ≡ at ys (n + i))
    → take 561 xs ≡ take 561 (drop n ys)
moved_front xs ys n long_x long_y le same =
    ext_get_or 0 (take 561 xs) (take 561 (drop n ys)) (omega (arith, length-take 561 xs, length-take 561 (drop n ys), length-drop n ys))
    (λ i lt. let small : i < 561 = omega (arith, length-take 561 xs) in
    get_or-take 561 xs i 0 small ∙ same i small ∙ sym (get_or-drop n ys i 0) ∙ sym (get_or-take 561 (drop n ys) i 0 small))

-- the first numbers of a list
front_take : (n : ℕ) (xs : List ℕ) (i : ℕ) → at (take n xs) i ≡ front n (at xs) i
front_take n xs i = elim (cases_lt i n) [
  | inl lt ↦ get_or-take n xs i 0 lt ∙ sym (front_in n (at xs) i lt)
  | inr le ↦ get_or_past (take n xs) i 0 (omega (arith, length-take n xs)) ∙ sym (front_past n (at xs) i le)
]

-- the numbers that stand n places on in the front of a list
abbrev behind : List ℕ → ℕ → ℕ → ℕ
behind xs n i = front (n + 561) (at xs) (i + n)

-- at the first 561 places stand the numbers from place n on
behind_in : (xs : List ℕ) (n i : ℕ) → i < 561 → behind xs n i ≡ at xs (n + i)
behind_in xs n i lt = front_in (n + 561) (at xs) (i + n) (omega arith) ∙ ap (at xs) (omega arith)

-- past the first 561 places there is nothing
behind_past : (xs : List ℕ) (n i : ℕ) → 561 ≤ i → behind xs n i ≡ 0
behind_past xs n i le = front_past (n + 561) (at xs) (i + n) (omega arith)

-- the first 561 numbers are the front of a longer front of the list
fronts : (xs : List ℕ) (n i : ℕ) → at (take 561 xs) i ≡ front 561 (front (n + 561) (at xs)) i
fronts xs n i = front_take 561 xs i ∙ elim (cases_lt i 561) [
  | inl lt ↦ front_in 561 (at xs) i lt ∙ sym (front_in (n + 561) (at xs) i (omega arith)) ∙ sym (front_in 561 (front (n + 561) (at xs)) i lt)
  | inr le ↦ front_past 561 (at xs) i le ∙ sym (front_past 561 (front (n + 561) (at xs)) i le)
]

-- a sum to which the first adds nothing
added : (x y w : ℕ) → x ≡ 0 → bit_xor w (bit_xor x y) ≡ bit_xor w y
added x y w none = ap (λ z. bit_xor w (bit_xor z y)) none ∙ ap (bit_xor w) (xor_zero_l y)

-- what the first n bytes have sent is left, where they are dropped
left : (xs bytes : List ℕ) (n : ℕ) → ((i : ℕ) → i < n + 561 → at xs i < 2 ^ 32) → n + 561 ≤ length bytes
    → ((j : ℕ) → j < n → at xs (j + 561) ≡ received xs bytes j)
    → register_behind (take 561 xs) bytes ≡ after 8 0 (length bytes - n) (λ j. bit_xor (at bytes (j + n)) (gathered far (behind xs n) j))
unfolding register_behind gathered
left xs bytes n fits wide sent =
    let u : ℕ → ℕ = front (n + 561) (at xs) in
    let k = length bytes - n in
    let count : length bytes ≡ n + k = omega arith in
    let all : List ℕ = 561 ∷ far in
    ap (λ m. after 8 0 m (received (take 561 xs) bytes)) count
    ∙ after-same 0 (n + k) (received (take 561 xs) bytes) (λ j. bit_xor (at bytes j) (gathered all (front 561 u) j)) (λ j lt.
    ap (bit_xor (at bytes j)) (gathered-same 300 far (at (take 561 xs)) (front 561 u) j j far_within (λ a le. fronts xs n (j + a)))
    ∙ sym (added (front 561 u (j + 561)) (gathered far (front 561 u) j) (at bytes j) (front_past 561 u (j + 561) (omega arith))))
    ∙ dropped 561 far (at bytes) u n k (further 300 561 far (omega arith) far_within) far_is_multiple (omega arith) (front_fits (n + 561) (at xs) fits)
    (λ i le. front_past (n + 561) (at xs) i le)
    (λ j lt. front_in (n + 561) (at xs) (j + 561) (omega arith) ∙ sent j lt
    ∙ ap (bit_xor (at bytes j)) (gathered-same 300 far (at xs) u j j far_within (λ a le. sym (front_in (n + 561) (at xs) (j + a) (omega arith)))))
    ∙ after-same 0 k (λ j. bit_xor (at bytes (j + n)) (gathered all (behind xs n) j)) (λ j. bit_xor (at bytes (j + n)) (gathered far (behind xs n) j))
    (λ j lt. added (behind xs n (j + 561)) (gathered far (behind xs n) j) (at bytes (j + n)) (behind_past xs n (j + 561) (omega arith)))

-- the last of the dropped bytes stand at the front
pub folded : (xs bytes : List ℕ) (n : ℕ) → ((i : ℕ) → i < n + 561 → at xs i < 2 ^ 32) → n + 561 ≤ length bytes
    → ((j : ℕ) → j < n → at xs (j + 561) ≡ received xs bytes j)
    → register_behind (take 561 xs) bytes ≡ register_behind (take 561 (drop n xs)) (drop n bytes)
unfolding register_behind
folded xs bytes n fits wide sent =
    let rest = drop n bytes in
    let kept = take 561 (drop n xs) in
    left xs bytes n fits wide sent
    ∙ after-same 0 (length bytes - n) (λ j. bit_xor (at bytes (j + n)) (gathered far (behind xs n) j)) (received kept rest) (λ j lt.
    λ i. bit_xor ((ap (at bytes) (turn j) ∙ sym (get_or-drop n bytes j 0)) i)
    (gathered-same 300 far (behind xs n) (at kept) j j far_within (λ a le. moved (j + a)) i))
    ∙ ap (λ m. after 8 0 m (received kept rest)) (sym (length-drop n bytes))
  where
    turn : (j : ℕ) → j + n ≡ n + j
    turn j = omega arith

    -- the numbers behind n are the first 561 of the list without its first n
    moved : (i : ℕ) → behind xs n i ≡ at (take 561 (drop n xs)) i
    moved i = elim (cases_lt i 561) [
      | inl lt ↦ behind_in xs n i lt ∙ sym (get_or-drop n xs i 0) ∙ sym (get_or-take 561 (drop n xs) i 0 lt)
      | inr le ↦ behind_past xs n i le ∙ sym (get_or_past (take 561 (drop n xs)) i 0 (omega (arith, length-take 561 (drop n xs))))
    ]

-- behind the kept bytes nothing was sent to
pub ended : (xs bytes : List ℕ) (n : ℕ) → ((i : ℕ) → i < n + 561 → at xs i < 2 ^ 32) → n + 576 ≤ length bytes → ((i : ℕ) → at bytes i < 2 ^ 8)
    → ((j : ℕ) → j < n → at xs (j + 561) ≡ received xs bytes j) → ((i : ℕ) → n + 561 ≤ i → i < n + 561 + 315 → at xs i ≡ 0)
    → after 8 0 576 (λ j. received xs bytes (n + j)) < 2 ^ 32
    → register_behind (take 561 xs) bytes ≡ register (after 8 0 576 (λ j. received xs bytes (n + j))) (drop (n + 576) bytes)
ended xs bytes n fits wide are_bytes sent zeros lt =
    let w : ℕ → ℕ = λ j. bit_xor (at bytes (j + n)) (gathered far (behind xs n) j) in
    let kept : ℕ → ℕ = λ j. received xs bytes (n + j) in
    let rest = drop (n + 576) bytes in
    let q = length bytes - n - 576 in
    let count : length bytes - n ≡ q + 576 = omega arith in
    let size : q ≡ length rest = omega (arith, length-drop (n + 576) bytes) in
    left xs bytes n fits (omega arith) sent
    ∙ ap (λ m. after 8 0 m w) count ∙ after-more 0 576 q w
    ∙ ap (λ r. after 8 r q (λ j. w (j + 576))) (after-same 0 576 w kept (λ j small. same j small))
    ∙ after-same (after 8 0 576 kept) q (λ j. w (j + 576)) (at rest) (λ j small. later j)
    ∙ ap (λ m. after 8 (after 8 0 576 kept) m (at rest)) size
    ∙ sym (register_bytes (after 8 0 576 kept) rest lt (λ i. let P : ℕ → Type 0 = λ x. x
    < 2 ^ 8 in subst P (sym (get_or-drop (n + 576) bytes i 0)) (are_bytes (n + 576 + i))))
  where
    -- up to 300 places behind each of the next 576 bytes, the numbers behind n are those of the whole list
    there : (j a : ℕ) → j < 576 → a ≤ 300 → behind xs n (j + a) ≡ at xs (n + j + a)
    there j a small le = elim (cases_lt (j + a) 561) [
      | inl lt ↦ behind_in xs n (j + a) lt ∙ ap (at xs) (omega arith)
      | inr past ↦ behind_past xs n (j + a) past ∙ sym (zeros (n + j + a) (omega arith) (omega arith))
    ]

    turn : (j : ℕ) → j + n ≡ n + j
    turn j = omega arith

    -- each of the next 576 bytes receives the same from the numbers behind n as from the whole list
    same : (j : ℕ) → j < 576 → bit_xor (at bytes (j + n)) (gathered far (behind xs n) j) ≡ received xs bytes (n + j)
    same j small = λ i. bit_xor (at bytes (turn j i)) (gathered-same 300 far (behind xs n) (at xs) j (n + j) far_within (λ a le. there j a small le) i)

    -- behind those 576 bytes nothing is received: the bytes are as they stand in the piece
    later : (j : ℕ) → bit_xor (at bytes (j + 576 + n)) (gathered far (behind xs n) (j + 576)) ≡ at (drop (n + 576) bytes) j
    later j =
        let place : j + 576 + n ≡ n + 576 + j = omega arith in
        ap (bit_xor (at bytes (j + 576 + n))) (gathered_none far (behind xs n) (j + 576) (λ i le. behind_past xs n i (omega arith)))
        ∙ xor_zero_r (at bytes (j + 576 + n)) ∙ ap (at bytes) place ∙ sym (get_or-drop (n + 576) bytes j 0)

-- of the kept bytes the last ones are left, with what was sent to them
pub kept_left : (byte : ℕ → ℕ) (ys last : List ℕ) → ((i : ℕ) → at ys i < 2 ^ 32) → ((i : ℕ) → i < 176 → at ys i ≡ 0)
    → ((j : ℕ) → j + 176 < 576 → at ys (j + 176) ≡ bit_xor (byte j) (sent near ys j)) → ((i : ℕ) → 576 ≤ i → at ys i ≡ 0)
    → length last ≡ 176 → ((i : ℕ) → at last i < 2 ^ 8) → ((j : ℕ) → j < 176 → at last j ≡ bit_xor (byte (400 + j)) (sent near ys (400 + j)))
    → register 0 last ≡ after 8 0 576 byte
unfolding gathered
kept_left byte ys last fits none sent end long are_bytes lasts =
    let all : List ℕ = 176 ∷ near in
    let v : ℕ → ℕ = λ i. at ys (i + 400) in
    register_bytes 0 last (omega arith) are_bytes ∙ ap (λ m. after 8 0 m (at last)) long
    ∙ sym (
    after-same 0 576 byte (λ j. bit_xor (byte j) (gathered all (front 176 (at ys)) j)) (λ j lt.
    sym (ap (bit_xor (byte j)) (gathered_none all (front 176 (at ys)) j (λ i le. nothing i)) ∙ xor_zero_r (byte j)))
    ∙ dropped 176 near byte (at ys) 400 176 (further 144 176 near (omega arith) near_within) near_is_multiple (omega arith) fits (λ i le. end i (omega arith))
    (λ j lt. sent j (omega arith))
    ∙ after-same 0 176 (λ j. bit_xor (byte (j + 400)) (gathered all v j)) (at last) (λ j lt.
    added (v (j + 176)) (gathered near v j) (byte (j + 400)) (end (j + 176 + 400) (omega arith))
    ∙ ap (bit_xor (byte (j + 400))) (sym (gathered-moved near (at ys) 400 j))
    ∙ ap (λ p. bit_xor (byte p) (gathered near (at ys) p)) (turn j) ∙ sym (lasts j lt))
    )
  where
    turn : (j : ℕ) → j + 400 ≡ 400 + j
    turn j = omega arith

    -- of the first 176 numbers none is set
    nothing : (i : ℕ) → front 176 (at ys) i ≡ 0
    nothing i = elim (cases_lt i 176) [ inl lt ↦ front_in 176 (at ys) i lt ∙ none i lt | inr le ↦ front_past 176 (at ys) i le ]

-- nothing was dropped before a piece: only the register goes into its first four bytes
pub begun : (start : ℕ) (xs bytes : List ℕ) → start < 2 ^ 32 → 4 ≤ length bytes → ((i : ℕ) → at bytes i < 2 ^ 8)
    → ((i : ℕ) → i < 4 → at xs i ≡ start / 256 ^ i % 256) → ((i : ℕ) → 4 ≤ i → i < 561 → at xs i ≡ 0)
    → register start bytes ≡ register_behind (take 561 xs) bytes
unfolding register_behind gathered
begun start xs bytes lt wide are_bytes first zeros =
    let k = length bytes - 4 in
    let count : length bytes ≡ k + 4 = omega arith in
    let all : ℕ → ℕ = received (take 561 xs) bytes in
    let with_start : ℕ → ℕ = λ j. bit_xor (at bytes j) (start / 256 ^ j % 256) in
    register_bytes start bytes lt are_bytes ∙ ap (λ m. after 8 start m (at bytes)) count ∙ after-more start 4 k (at bytes)
    ∙ ap (λ r. after 8 r k (λ j. at bytes (j + 4))) (
    ap (λ r. after 8 r 4 (at bytes)) (sym (xor_zero_l start)) ∙ after_start 4 0 start (at bytes) (omega (arith, lt))
    ∙ after-same 0 4 with_start all (λ j small. ap (bit_xor (at bytes j)) (sym (first_sent j small)))
    )
    ∙ after-same (after 8 0 4 all) k (λ j. at bytes (j + 4)) (λ j. all (j + 4)) (λ j small. sym (
    ap (bit_xor (at bytes (j + 4))) (gathered_none far (at (take 561 xs)) (j + 4) (λ i le. none i (omega arith))) ∙ xor_zero_r (at bytes (j + 4))))
    ∙ sym (after-more 0 4 k all) ∙ ap (λ m. after 8 0 m all) (sym count)
  where
    -- from the fourth place on the first 561 numbers are 0
    none : (i : ℕ) → 4 ≤ i → at (take 561 xs) i ≡ 0
    none i le = elim (cases_lt i 561) [
      | inl small ↦ get_or-take 561 xs i 0 small ∙ zeros i le small
      | inr past ↦ get_or_past (take 561 xs) i 0 (omega (arith, length-take 561 xs))
    ]

    here : (j : ℕ) → j + 0 ≡ j
    here j = omega arith

    -- to the first four bytes the bytes of the register at the start are sent
    first_sent : (j : ℕ) → j < 4 → sent far (take 561 xs) j ≡ start / 256 ^ j % 256
    first_sent j small =
        (λ i. bit_xor (at (take 561 xs) (here j i)) (bit_xor (none (j + 154) (omega arith) i) (bit_xor (none (j + 198) (omega arith) i)
        (bit_xor (none (j + 214) (omega arith) i) (bit_xor (none (j + 300) (omega arith) i) 0)))))
        ∙ xor_zero_r (at (take 561 xs) j) ∙ get_or-take 561 xs j 0 (omega arith) ∙ first j small

-- the first numbers are the same
pub front_same : (xs ys : List ℕ) (n i : ℕ) → take n ys ≡ take n xs → i < n → at ys i ≡ at xs i
front_same xs ys n i kept small = sym (get_or-take n ys i 0 small) ∙ ap (λ (l : List ℕ). at l i) kept ∙ get_or-take n xs i 0 small

-- where the first numbers of two lists are the same, so is what was sent from them
pub kept_sent : (xs ys bytes : List ℕ) (n : ℕ) → take (n + 561) ys ≡ take (n + 561) xs → ((j : ℕ) → j < n → at xs (j + 561) ≡ received xs bytes j)
    → (j : ℕ) → j < n → at ys (j + 561) ≡ received ys bytes j
kept_sent xs ys bytes n kept sent j lt =
    same (j + 561) (omega arith) ∙ sent j lt
    ∙ ap (bit_xor (at bytes j)) (gathered-same 300 far (at xs) (at ys) j j far_within (λ a le. sym (same (j + a) (omega arith))))
  where
    -- the first n + 561 numbers of both lists are the same
    same : (i : ℕ) → i < n + 561 → at ys i ≡ at xs i
    same i small = front_same xs ys (n + 561) i kept small

-- fewer of the first numbers are the same too
pub fewer : (xs ys : List ℕ) (m n : ℕ) → take (m + n) ys ≡ take (m + n) xs → take n ys ≡ take n xs
fewer xs ys m n kept = sym (shorter ys) ∙ ap (take n) kept ∙ shorter xs
  where
    -- the first n of more of the first numbers are the first n
    shorter : (l : List ℕ) → take n (take (m + n) l) ≡ take n l
    shorter l =
        ext_get_or 0 (take n (take (m + n) l)) (take n l) (omega (arith, length-take n (take (m + n) l), length-take (m + n) l, length-take n l))
        (λ i lt. let small : i < n = omega (arith, length-take n (take (m + n) l)) in
        get_or-take n (take (m + n) l) i 0 small ∙ get_or-take (m + n) l i 0 (omega arith) ∙ sym (get_or-take n l i 0 small))
