-- A slot that is written piece by piece.
use Rattle.std.proofs.Common.{◌≡◌, ◌≢◌, ℕ, ◌+◌, ◌-◌, ◌<◌, ◌≤◌, List, [], ◌∷◌, ◌++◌, length, take, drop, refl, sym, ap, ap₂, ◌∙◌, subst, arith, length-append}
use Rattle.std.proofs.Common.{length-take, length-drop, bit_xor}
use Rattle.std.proofs.lemmas.List.{take_at, drop_at, drop-drop, drop-take, take-take, map-append, set-set}
use Rattle.std.proofs.lemmas.Simd.{length-zip2}
use Rattle.std.proofs.lemmas.List.{length-map}
use Rattle.std.proofs.Math.Seq.{take-add}
use Rattle.std.specs.List.{slice_range}
use Rattle.btr_parity.specs.Field.{product, power}
use Rattle.btr_parity.specs.Slices.{plus}
use Rattle.btr_pool.specs.Slots.{Slots, IsLive, bytes_at, with_bytes}
use Rattle.btr_pool.proofs.Loans.{bytes_at-with_bytes_same, bytes_at-with_bytes_other}
use Rattle.btr_rack.specs.Rack.{pasted}
use Rattle.btr_read.specs.declared.parity.Parity.{Parity}
use Rattle.btr_read.specs.declared.parity.Parity.TheVariants as parity
use Rattle.btr_read.specs.Gathering.{weighed}

-- ---- a list and its pieces

-- a range of a range
pub range-range : (xs : List ℕ) (o n a b : ℕ) → a ≤ b → b ≤ n → slice_range (slice_range xs o (o + n)) a b ≡ slice_range xs (o + a) (o + b)
range-range xs o n a b le most =
    let ys = drop o xs in
    let whole : o + n - o ≡ n = omega arith in
    let long : a + (n - a) ≡ n = omega (arith, le, most) in
    let cut : drop a (take n ys) ≡ take (n - a) (drop a ys) = ap (λ m. drop a (take m ys)) (sym long) ∙ drop-take a (n - a) ys in
    let inner : take (b - a) (take (n - a) (drop a ys)) ≡ take (b - a) (drop a ys) = take-take (b - a) (n - a) (drop a ys) (omega (arith, le, most)) in
    ap (λ m. take (b - a) (drop a (take m ys))) whole
    ∙ ap (take (b - a)) cut ∙ inner
    ∙ ap (take (b - a)) (drop-drop a o xs)
    ∙ ap (λ m. take m (drop (o + a) xs)) (omega arith)

-- a longer first part is a first part and the piece behind it
pub take_on : (xs : List ℕ) (done end : ℕ) → done ≤ end → take end xs ≡ take done xs ++ slice_range xs done end
take_on xs done end le =
    let whole : end ≡ done + (end - done) = omega arith in
    ap (λ n. take n xs) whole ∙ take-add done (end - done) xs

-- a piece that ends within the list is as long as from its start to its end
pub length-slice_range : (xs : List ℕ) (done end : ℕ) → end ≤ length xs → length (slice_range xs done end) ≡ end - done
length-slice_range xs done end le = omega (arith, length-take (end - done) (drop done xs), length-drop done xs)

-- where a piece is there in whole
pub reaches : (xs : List ℕ) (done end : ℕ) → done < end → length (slice_range xs done end) ≡ end - done → end ≤ length xs
reaches xs done end lt e = omega (arith, lt, e, length-take (end - done) (drop done xs), length-drop done xs)

-- a first part within a list has as many entries as were taken
pub length-first : (xs : List ℕ) (done : ℕ) → done ≤ length xs → length (take done xs) ≡ done
length-first xs done le = omega (arith, length-take done xs)

-- what stands behind a first part that was written
behind : (xs written : List ℕ) (done end : ℕ) → length written ≡ done → done ≤ end → drop end (written ++ drop done xs) ≡ drop end xs
behind xs written done end long le =
    let whole : done + (end - done) ≡ end = omega arith in
    ap (λ n. drop n (written ++ drop done xs)) (sym whole)
    ∙ sym (drop-drop (end - done) done (written ++ drop done xs))
    ∙ ap (drop (end - done)) (drop_at written (drop done xs) done long)
    ∙ drop-drop (end - done) done xs
    ∙ ap (λ n. drop n xs) whole

-- the piece behind it is as it was
range_behind : (xs written : List ℕ) (done end : ℕ) → length written ≡ done → slice_range (written ++ drop done xs) done end ≡ slice_range xs done end
range_behind xs written done end long = ap (take (end - done)) (drop_at written (drop done xs) done long)

-- and once it is written too
pasted_behind : (xs written piece : List ℕ) (done end : ℕ) → length written ≡ done → done + length piece ≡ end
    → pasted (written ++ drop done xs) done piece ≡ (written ++ piece) ++ drop end xs
pasted_behind xs written piece done end long there =
    ap₂ (λ front rest. (front ++ piece) ++ rest) (take_at written (drop done xs) done long)
    (ap (λ n. drop n (written ++ drop done xs)) there ∙ behind xs written done end long (omega arith))

-- ---- a slot and its pieces

-- the first bytes of slot k were written, as many as are done, and they meet P
pub record WrittenSoFar (P : List ℕ → Type 0) (k done : ℕ) (old now : Slots) : Type 0 where
  pub written : List ℕ
  pub long : length written ≡ done
  pub meets : P written
  pub is : now ≡ with_bytes old k (written ++ drop done (bytes_at old k))

module _ (P : List ℕ → Type 0) (k done : ℕ) (old now : Slots) (live : IsLive old k) (h : WrittenSoFar P k done old now) where
  -- the slot has what was written, and its old bytes behind it
  bytes_now : bytes_at now k ≡ h.written ++ drop done (bytes_at old k)
  bytes_now = ap (λ pool. bytes_at pool k) h.is ∙ bytes_at-with_bytes_same old k (h.written ++ drop done (bytes_at old k)) live

  -- writing the slot leaves the size of the pool's slots
  pub size_now : now.size ≡ old.size
  size_now = ap (λ pool. pool.size) h.is

  -- the slot's bytes behind what was written are as they were
  pub range_now : (end : ℕ) → slice_range (bytes_at now k) done end ≡ slice_range (bytes_at old k) done end
  range_now end = ap (λ bytes. slice_range bytes done end) bytes_now ∙ range_behind (bytes_at old k) h.written done end h.long

  -- every other slot is as it was
  pub other_now : (j : ℕ) → j ≢ k → bytes_at now j ≡ bytes_at old j
  other_now j ne = ap (λ pool. bytes_at pool j) h.is ∙ bytes_at-with_bytes_other old j k (h.written ++ drop done (bytes_at old k)) ne

  -- the slot was as long as it is, so far as it isn't written
  pub long_enough : (end : ℕ) → done < end → end ≤ length (bytes_at now k) → end ≤ length (bytes_at old k)
  long_enough end lt le = omega (
    arith,
    lt,
    le,
    ap length bytes_now,
    length-append h.written (drop done (bytes_at old k)),
    length-drop done
        (bytes_at old k),
    h.long,
  )

  -- one more piece
  pub written_more : (Q : List ℕ → Type 0) (end : ℕ) (piece : List ℕ) (after : Slots) → done + length piece ≡ end → after
      ≡ with_bytes now k (pasted (bytes_at now k) done piece) → Q (h.written ++ piece) → WrittenSoFar Q k end old after
  written_more Q end piece after there e meets =
      let xs = bytes_at old k in
      let front = h.written ++ drop done xs in
      let bytes : pasted (bytes_at now k) done piece ≡ (h.written ++ piece) ++ drop end xs =
      ap (λ bytes. pasted bytes done piece) bytes_now ∙ pasted_behind xs h.written piece done end h.long there in
      record {
        written = h.written ++ piece;
        long = omega (arith, length-append h.written piece, h.long, there);
        meets = meets;
        is =
            e
            ∙ ap₂ (λ pool bytes. with_bytes pool k bytes) h.is bytes
            ∙ (λ i. record { size = old.size; lent = old.lent; bytes = set-set old.bytes k front ((h.written ++ piece) ++ drop end xs) i });
      }

-- ---- sums of pieces

-- the sum of lists put together is that of their sums, where the first parts are as long as each other
pub plus-append : (xs ys xs' ys' : List ℕ) → length xs ≡ length ys → plus (xs ++ xs') (ys ++ ys') ≡ plus xs ys ++ plus xs' ys'
plus-append [] [] xs' ys' e = refl
plus-append [] (y ∷ ys) xs' ys' e = absurd (omega arith)
plus-append (x ∷ xs) [] xs' ys' e = absurd (omega arith)
plus-append (x ∷ xs) (y ∷ ys) xs' ys' e = ap (λ rest. bit_xor x y ∷ rest) (plus-append xs ys xs' ys' (omega arith))

-- what two pieces together add to a parity is what each adds
weighed-append : (p : Parity) (i : ℕ) (xs ys : List ℕ) → weighed p i (xs ++ ys) ≡ weighed p i xs ++ weighed p i ys
weighed-append parity.P i xs ys = refl
weighed-append parity.Q i xs ys = map-append (product (power i)) xs ys

-- what a slice adds to a parity is as long as the slice
pub length-weighed : (p : Parity) (i : ℕ) (xs : List ℕ) → length (weighed p i xs) ≡ length xs
length-weighed parity.P i xs = refl
length-weighed parity.Q i xs = length-map xs (product (power i))

-- a sum with what a slice adds to a parity is as long as both
pub length-sum : (p : Parity) (i n : ℕ) (xs ys : List ℕ) → length xs ≡ n → length ys ≡ n → length (plus xs (weighed p i ys)) ≡ n
length-sum p i n xs ys ex ey = length-zip2 bit_xor xs (weighed p i ys) (ex ∙ sym ey ∙ sym (length-weighed p i ys)) ∙ ex

-- the sum of two longer first parts is that of the first parts and that of the pieces behind them
pub sum_on : (p : Parity) (i done end : ℕ) (xs ys : List ℕ) → done ≤ end → end ≤ length xs → end ≤ length ys
    → plus (take done xs) (weighed p i (take done ys)) ++ plus (slice_range xs done end) (weighed p i (slice_range ys done end))
    ≡ plus (take end xs) (weighed p i (take end ys))
sum_on p i done end xs ys le fits fits' =
    let same : length (take done xs) ≡ length (weighed p i (take done ys)) =
    length-first xs done (omega arith) ∙ sym (length-weighed p i (take done ys) ∙ length-first ys done (omega arith)) in
    sym (
    ap₂ (λ a b. plus a (weighed p i b)) (take_on xs done end le) (take_on ys done end le)
    ∙ ap (plus (take done xs ++ slice_range xs done end)) (weighed-append p i (take done ys) (slice_range ys done end))
    ∙ plus-append (take done xs) (weighed p i (take done ys)) (slice_range xs done end) (weighed p i (slice_range ys done end)) same)

-- the first bytes of slot j were added to what slot k has of a parity
abbrev pub AddedSoFar : Parity → ℕ → ℕ → ℕ → ℕ → Slots → Slots → Type 0
AddedSoFar p i k j done old now = WrittenSoFar (λ written. written ≡ plus (take done (bytes_at old k)) (weighed p i (take done (bytes_at old j)))) k
    done old now

module _ (p : Parity) (i k j done end : ℕ) (old now after : Slots) (live : IsLive old k) (apart : k ≢ j) (lt : done < end) (fits : end ≤ old.size)
    (h : AddedSoFar p i k j done old now) (long : length (bytes_at now k) ≡ now.size)
    (long' : length (slice_range (bytes_at now j) done end) ≡ end - done) where
  -- what was written is the sum of the two slots' first bytes, as many as are done
  abbrev MeetsNow : List ℕ → Type 0
  MeetsNow written = written ≡ plus (take done (bytes_at old k)) (weighed p i (take done (bytes_at old j)))

  -- what was written is the sum of the two slots' bytes up to the next piece's end
  abbrev MeetsNext : List ℕ → Type 0
  MeetsNext written = written ≡ plus (take end (bytes_at old k)) (weighed p i (take end (bytes_at old j)))

  -- the next piece of the sum
  abbrev piece : List ℕ
  piece = plus (slice_range (bytes_at now k) done end) (weighed p i (slice_range (bytes_at now j) done end))

  -- the slot of the slice that is added is as it was
  same_j : bytes_at now j ≡ bytes_at old j
  same_j = other_now MeetsNow k done old now live h j (λ e. apart (sym e))

  size_same : now.size ≡ old.size
  size_same = size_now MeetsNow k done old now live h

  -- the next piece goes from what is done to its end
  piece_long : done + length piece ≡ end
  piece_long =
      let first : length (slice_range (bytes_at now k) done end) ≡ end - done =
      length-slice_range (bytes_at now k) done end (omega (arith, fits, long, size_same)) in
      omega (arith, lt, length-sum p i (end - done) (slice_range (bytes_at now k) done end) (slice_range (bytes_at now j) done end) first long')

  -- the next piece is the sum of what the two slots had there
  piece_old : piece ≡ plus (slice_range (bytes_at old k) done end) (weighed p i (slice_range (bytes_at old j) done end))
  piece_old = ap₂ (λ a b. plus a (weighed p i (slice_range b done end))) (range_now MeetsNow k done old now live h end) same_j

  -- with the next piece, what was written is the sum up to its end
  meets_next : MeetsNext (h.written ++ piece)
  meets_next =
      let le : end ≤ length (bytes_at old k) = long_enough MeetsNow k done old now live h end lt (omega (arith, fits, long, size_same)) in
      let le' : end ≤ length (bytes_at old j) = subst (λ bytes. end ≤ length bytes) same_j (reaches (bytes_at now j) done end lt long') in
      ap₂ (λ a b. a ++ b) h.meets piece_old ∙ sum_on p i done end (bytes_at old k) (bytes_at old j) (omega arith) le le'

  -- the piece behind them too
  pub added_more : after ≡ with_bytes now k (pasted (bytes_at now k) done piece) → AddedSoFar p i k j end old after
  added_more e = written_more MeetsNow k done old now live h MeetsNext end piece after piece_long e meets_next

-- ---- a copy

-- the first bytes of slot j were put into slot k
abbrev pub CopiedSoFar : ℕ → ℕ → ℕ → Slots → Slots → Type 0
CopiedSoFar k j done old now = WrittenSoFar (λ written. written ≡ take done (bytes_at old j)) k done old now

-- the piece behind them too
pub copied_more : (k j done end : ℕ) (old now after : Slots) → IsLive old k → k ≢ j → done < end → CopiedSoFar k j done old now
    → length (slice_range (bytes_at now j) done end) ≡ end - done
    → after ≡ with_bytes now k (pasted (bytes_at now k) done (slice_range (bytes_at now j) done end)) → CopiedSoFar k j end old after
copied_more k j done end old now after live apart lt h long e =
    let Now : List ℕ → Type 0 = λ written. written ≡ take done (bytes_at old j) in
    let Next : List ℕ → Type 0 = λ written. written ≡ take end (bytes_at old j) in
    let piece = slice_range (bytes_at now j) done end in
    let same : bytes_at now j ≡ bytes_at old j = other_now Now k done old now live h j (λ e. apart (sym e)) in
    let meets : h.written ++ piece ≡ take end (bytes_at old j) =
    ap₂ (λ a b. a ++ slice_range b done end) h.meets same ∙ sym (take_on (bytes_at old j) done end (omega (arith, lt))) in
    written_more Now k done old now live h Next end piece after (omega (arith, lt, long)) e meets
