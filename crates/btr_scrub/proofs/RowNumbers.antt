-- Which rows a chunk with parity has, and in which one a block lies.
use Rattle.std.proofs.Common.{◌≡◌, ℕ, zero, suc, ◌+◌, ◌-◌, ◌*◌, ◌/◌, ◌%◌, ◌<◌, ◌≤◌, Bool, true, false, cond, ◌&&◌, eqb, List, [], ◌∷◌, ◌++◌, map, length}
use Rattle.std.proofs.Common.{slice_get, Some, None, is_none, Ok, refl, sym, ap, ◌∙◌, subst, inl, inr, arith}
use Rattle.btr_scrub.proofs.Common.{AreApart, Chunk, Elements, Failing, HaveOwnSlots, In, IsSought, IsTable, Layout, Row, Target, Want, addr_of, chunk_at}
use Rattle.btr_scrub.proofs.Common.{data_count, eqb-true, facts, first_missing, holds, in_below, is_in_chunk, is_in_row, is_striped, len_of, mirrors, position}
use Rattle.btr_scrub.proofs.Common.{range_with_len, row_of, rows_in, same_Some, sought, sought_of, stripe_length, without_copies}
use Rattle.std.proofs.lemmas.List.{map-append}
use Rattle.std.proofs.lemmas.Nat.{le-div}
use Rattle.std.proofs.Math.Nat.{div-mul-le_self}
use Rattle.btr_chunk.proofs.Rule.{data_count-some, element_inside}
use Rattle.btr_scrub.specs.Rowing.{row_in}
use Rattle.btr_scrub.proofs.Blockwise.{chunk_same, ok_of, with_one_start}
use Rattle.btr_scrub.proofs.Positions.{is_sought, bounds_of}
use Rattle.btr_chunk.proofs.Bytes.{striped-position}
use Rattle.btr_scrub.proofs.Placed.{chunk_there}
use Rattle.btr_scrub.proofs.Lists.{of_mapped}

-- ---- numbers from one on

-- numbers from one on are the first of them, and those behind
pub range_split : (a m n : ℕ) → range_with_len a (m + n) ≡ range_with_len a m ++ range_with_len (a + m) n
range_split a zero n =
    let e : 0 + n ≡ n = omega arith in
    let f : a ≡ a + 0 = omega arith in
    ap (range_with_len a) e ∙ ap (λ b. range_with_len b n) f
range_split a (suc m) n =
    let e : suc m + n ≡ suc (m + n) = omega arith in
    let f : a + 1 + m ≡ a + suc m = omega arith in
    ap (range_with_len a) e ∙ ap (λ xs. a ∷ xs) (range_split (a + 1) m n ∙ ap (λ b. range_with_len (a + 1) m ++ range_with_len b n) f)

-- each lies between the first and the last
pub in_range : (a n x : ℕ) → In x (range_with_len a n) → (a ≤ x) × (x < a + n)
in_range a zero x i = absurd i
in_range a (suc n) x (inl e) = (omega (arith, e), omega (arith, e))
in_range a (suc n) x (inr i) = let r = in_range (a + 1) n x i in (omega (arith, r.0), omega (arith, r.1))

-- blocks that are apart, behind some of them
pub tail_apart : (layout : Layout) (end : ℕ) (xs ys : List Want) → AreApart layout end (xs ++ ys) → (e : ℕ) × (end ≤ e) × AreApart layout e ys
    × ((x : Want) → In x xs → addr_of x ≤ e)
tail_apart layout end [] ys apart = (end, omega arith, apart, λ x i. absurd i)
tail_apart layout end (x ∷ xs) ys apart =
    let r = tail_apart layout (addr_of x + len_of layout.setting x) xs ys apart.2 in
    (r.0, omega (arith, apart.0, r.1), r.2, λ y i. by r.0 y i r.3 r.1)
  where
    by : (e : ℕ) (y : Want) → In y (x ∷ xs) → ((z : Want) → In z xs → addr_of z ≤ e) → addr_of x + len_of layout.setting x ≤ e → addr_of y ≤ e
    by e y (inl same) rest le = subst (λ w. addr_of w ≤ e) same (omega (arith, le))
    by e y (inr i) rest le = rest y i

-- each of some blocks that are apart has a position
pub sought_each : (layout : Layout) (end : ℕ) (ws : List Want) → AreApart layout end ws → (w : Want) → In w ws → (t : Target) × (sought layout w ≡ Ok t)
sought_each layout end [] apart w i = absurd i
sought_each layout end (v ∷ ws) apart w (inl e) = subst (λ x. (t : Target) × (sought layout x ≡ Ok t)) e (ok_of (sought layout v) apart.1)
sought_each layout end (v ∷ ws) apart w (inr i) = sought_each layout (addr_of v + len_of layout.setting v) ws apart.2 w i

-- ---- one chunk with parity

-- the row of an address
pub row_there : (chunk : Chunk) (addr r : ℕ) → row_in chunk addr ≡ Some r → (holds chunk addr ≡ true) × ((position chunk addr).row ≡ r)
row_there chunk addr r e = by (holds chunk addr) refl e
  where
    by : (b : Bool) → holds chunk addr ≡ b → cond b (Some (position chunk addr).row) None ≡ Some r → (holds chunk addr ≡ true) × ((position chunk addr).row ≡ r)
    by true q e = (q, same_Some (position chunk addr).row r e)
    by false q e = cc

-- an address of the chunk lies in the row of its position
pub held_row : (chunk : Chunk) (addr : ℕ) → holds chunk addr ≡ true → row_in chunk addr ≡ Some (position chunk addr).row
held_row chunk addr e = ap (λ b. cond b (Some (position chunk addr).row) None) e

-- a quotient rises with its number
div_mono : (a b k : ℕ) → 0 < k → a ≤ b → a / k ≤ b / k
div_mono a b k pos le = le-div (a / k) b k pos (omega (arith, div-mul-le_self a k, le))

-- the rows of a chunk below one
abbrev pub rows_to : Failing → List Target → Chunk → ℕ → List Row
rows_to kept ts chunk n = map (row_of kept ts chunk) (range_with_len 0 n)

-- they are those below an earlier one, and behind them those from it on
pub rows_split : (kept : Failing) (ts : List Target) (chunk : Chunk) (q n : ℕ) → q ≤ n
    → rows_to kept ts chunk n ≡ rows_to kept ts chunk q ++ map (row_of kept ts chunk) (range_with_len q (n - q))
rows_split kept ts chunk q n le =
    let whole : n ≡ q + (n - q) = omega (arith, le) in
    let from_q : 0 + q ≡ q = omega arith in
    ap (rows_to kept ts chunk) whole ∙ ap (map (row_of kept ts chunk)) (range_split 0 q (n - q))
    ∙ map-append (row_of kept ts chunk) (range_with_len 0 q) (range_with_len (0 + q) (n - q))
    ∙ ap (λ k. rows_to kept ts chunk q ++ map (row_of kept ts chunk) (range_with_len k (n - q))) from_q

-- what holds of each of them
pub each_row : (kept : Failing) (ts : List Target) (chunk : Chunk) (n : ℕ) (P : Row → Type 0) → ((k : ℕ) → k < n → P (row_of kept ts chunk k)) → (row : Row)
    → In row (rows_to kept ts chunk n) → P row
each_row kept ts chunk n P h row i = let k = of_mapped (row_of kept ts chunk) row (range_with_len 0 n) i in subst P k.2 (h k.0 (in_below n k.0 k.1))

-- a chunk with parity has the rows below the count of its elements
pub all_rows : (kept : Failing) (ts : List Target) (chunk : Chunk) → mirrors chunk ≡ None → rows_in kept ts chunk
    ≡ rows_to kept ts chunk (stripe_length chunk / 65536)
all_rows kept ts chunk parity = ap (λ o. cond (is_none o) (rows_to kept ts chunk (stripe_length chunk / 65536)) []) parity

-- a chunk with parity stands in a table, at a number
pub record IsParityChunk (layout : Layout) (number : ℕ) (chunk : Chunk) : Type 0 where
  pub table : IsTable layout.chunks
  pub there : slice_get layout.chunks number ≡ Some chunk
  pub parity : mirrors chunk ≡ None

-- and all its elements are on devices that are given, each of which has a slot of its own
pub record IsWholeChunk (layout : Layout) (number : ℕ) (chunk : Chunk) : Type 0 where
  pub of : IsParityChunk layout number chunk
  pub own : HaveOwnSlots layout.devices
  pub given : first_missing layout ≡ None

module _ {layout : Layout} {number : ℕ} {chunk : Chunk} (of : IsParityChunk layout number chunk) where
  -- the chunk has rows
  striped : is_striped chunk.profile ≡ true
  striped = elim (without_copies chunk.profile (length chunk.stripes) of.parity) [ inl five ↦ ap is_striped five | inr six ↦ ap is_striped six ]

  -- and slices
  some : 0 < data_count chunk.profile (length chunk.stripes)
  some = data_count-some chunk.profile (length chunk.stripes) (facts chunk (of.table.sound number chunk of.there).0).count

  -- an address lies in the row of its element's number
  row_at : (addr : ℕ) → (position chunk addr).row ≡ (addr - chunk.start) / 65536 / data_count chunk.profile (length chunk.stripes)
  row_at addr = ap (λ (e : Elements). e.row) (striped-position chunk addr striped)

  -- a later address lies in no earlier row
  pub rows_rise : (a b : ℕ) → a ≤ b → (position chunk a).row ≤ (position chunk b).row
  rows_rise a b le =
      let inner = div_mono (a - chunk.start) (b - chunk.start) 65536 (omega arith) (omega (arith, le)) in
      let outer = div_mono ((a - chunk.start) / 65536) ((b - chunk.start) / 65536) (data_count chunk.profile (length chunk.stripes)) some inner in
      omega (arith, row_at a, row_at b, outer)

  -- a row that holds an address lies in the chunk's stripes
  pub row_fits : (addr : ℕ) → holds chunk addr ≡ true → (position chunk addr).row * 65536 + 65536 ≤ stripe_length chunk
  row_fits addr held =
      let d = data_count chunk.profile (length chunk.stripes) in
      let b = bounds_of chunk addr held in
      let whole : chunk.length % (d * 65536) ≡ 0 =
      ap (λ b. chunk.length % cond b (d * 65536) 4096) (sym striped) ∙ (facts chunk (of.table.sound number chunk of.there).0).whole in
      let fits = element_inside (addr - chunk.start) d chunk.length some whole (omega (arith, b.0, b.1)) in
      omega (arith, row_at addr, fits)

  -- the chunk is the one that holds its start
  pub start_there : chunk_at layout.chunks chunk.start ≡ Some chunk
  start_there = chunk_there layout of.table number chunk of.there chunk.start (omega arith)
      (omega (arith, (facts chunk (of.table.sound number chunk of.there).0).some))

  -- ---- the row of a block

  -- a block in a row of the chunk
  pub at_row : (w : Want) (t : Target) (k : ℕ) → sought layout w ≡ Ok t → row_in chunk (addr_of w) ≡ Some k → (t.chunk ≡ chunk) × (t.at.row ≡ k)
  at_row w t k e in_row =
      let is = is_sought layout w t e in
      let addr : addr_of t.want ≡ addr_of w = ap addr_of (sought_of layout w t e).want_is in
      let r = row_there chunk (addr_of w) k in_row in
      let h = bounds_of chunk (addr_of w) r.0 in
      let same = chunk_same layout of.table number chunk of.there t is (omega (arith, addr, h.0)) (omega (arith, addr, h.1)) in
      let row : t.at.row ≡ (position chunk (addr_of w)).row =
      ap (λ (x : Elements). x.row) is.at ∙ ap (λ c. (position c (addr_of t.want)).row) same ∙ ap (λ a. (position chunk a).row) addr in
      (same, row ∙ r.1)

  -- a block of the chunk has the row of its address
  pub row_of_block : (w : Want) (t : Target) → sought layout w ≡ Ok t → t.chunk ≡ chunk → (holds chunk (addr_of w) ≡ true)
      × ((position chunk (addr_of w)).row ≡ t.at.row)
  row_of_block w t e mine =
      let is = is_sought layout w t e in
      let addr : addr_of t.want ≡ addr_of w = ap addr_of (sought_of layout w t e).want_is in
      let held : holds chunk (addr_of w) ≡ true = ap (holds chunk) (sym addr) ∙ ap (λ c. holds c (addr_of t.want)) (sym mine) ∙ is.held in
      (held, sym (ap (λ (x : Elements). x.row) is.at ∙ ap (λ c. (position c (addr_of t.want)).row) mine ∙ ap (λ a. (position chunk a).row) addr))

  -- a block that the chunk is said to have lies in it
  pub same_start : (t : Target) → IsSought layout t → is_in_chunk chunk t ≡ true → t.chunk ≡ chunk
  same_start t is e = (with_one_start layout of.table is.number number t.chunk chunk is.there of.there (eqb-true t.chunk.start chunk.start e)).1

  -- whether a block with a position lies in a row
  pub row_is_not : (k : ℕ) (t : Target) → IsSought layout t → (t.chunk ≡ chunk → t.at.row ≡ k → ⊥) → is_in_row chunk k t ≡ false
  row_is_not k t is h = by (is_in_chunk chunk t) (eqb t.at.row k) refl refl
    where
      by : (b c : Bool) → is_in_chunk chunk t ≡ b → eqb t.at.row k ≡ c → is_in_row chunk k t ≡ false
      by true true p q = absurd (h (same_start t is p) (eqb-true t.at.row k q))
      by true false p q = ap (λ x. is_in_chunk chunk t && x) q ∙ ap (λ x. x && false) p
      by false c p q = ap (λ x. x && eqb t.at.row k) p
