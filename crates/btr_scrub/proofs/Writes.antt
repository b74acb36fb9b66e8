-- The writes of a full stripe lie where it is wrong.
use Rattle.std.proofs.Common.{◌≡◌, ℕ, ◌+◌, ◌-◌, ◌*◌, ◌<◌, ◌≤◌, true, List, length, Some, IsNone, IsSomeAnd, ◌⊎◌, refl, sym, ap, ◌∙◌, subst, inl, inr, arith}
use Rattle.btr_scrub.proofs.Common.{Failing, HasPart, Images, In, IsSoundRow, IsTable, Layout, Part, Range, Row, Target, Write, covers, flat_map, list_any}
use Rattle.btr_scrub.proofs.Common.{mending_writes, parities, parity_writes, range_in, range_in_element, range_of, row_writes, same_Some, size_of, wrong_parts}
use Rattle.btr_chunk.specs.declared.place.Part.TheVariants as part
use Rattle.btr_scrub.specs.Columns.{Committed, IsInWrongColumn, IsWrongAt}
use Rattle.btr_scrub.specs.Staying.{IsInWrong, IsRowOf, RowWritesAreWrong}
use Rattle.btr_scrub.specs.Survival.{GetsRight, IsParity}
use Rattle.btr_scrub.proofs.Elements.{has_ranges, start_of}
use Rattle.btr_scrub.proofs.OwnPlaces.{wrong_own, own_slice, over_byte}
use Rattle.btr_scrub.proofs.Places.{covered, covering}
use Rattle.btr_scrub.proofs.Wrong.{differing_parity_is_wrong}
use Rattle.btr_scrub.proofs.Lists.{any_map, any_append, any_flat, any_is}
use Rattle.btr_scrub.proofs.RowWrites.{IsRowIn, begins, column_at, piece_is}
use Rattle.btr_scrub.proofs.RowAgreeing.{is_sector, parity_has}

-- P and Q are parities
pub is_parity : (q : Part) → (q ≡ part.P) ⊎ (q ≡ part.Q) → IsParity q
is_parity q (inl e) = subst IsParity (sym e) tt
is_parity q (inr e) = subst IsParity (sym e) tt

-- ---- one row

module _ (images : Images) (layout : Layout) (C : Committed) (fails : Failing) (blocks : List Target) (row : Row) (slot off : ℕ)
    (table : IsTable layout.chunks) (is_row : IsRowOf layout fails blocks row) (sound : IsSoundRow images layout C row) where
  -- it is one of the layout's full stripes
  here : IsRowIn layout row
  here = record { chunk_number = is_row.number; there = is_row.there; parity = is_row.parity; position = is_row.position; stand = sound.stand }

  -- a byte of an element, by its place there
  record IsByte (q : Part) (from to : ℕ) : Type 0 where
    covers : IsSomeAnd (range_in_element layout row q 0 65536) (λ range. covers slot off range ≡ true)
    place : ℕ
    at : IsSomeAnd (range_in_element layout row q 0 65536) (λ range. off ≡ range.off + place)
    low : from ≤ place
    high : place < to

  -- a byte of the slot between two places of an element's range is one of the element there
  byte_of : (q : Part) (from len base : ℕ) → range_in_element layout row q 0 65536 ≡ Some (range_in slot base 65536) → base + from ≤ off
      → off < base + from + len → from + len ≤ 65536 → IsByte q from (from + len)
  byte_of q from len base e low high inside = record {
    covers = subst (λ o. IsSomeAnd o (λ range. covers slot off range ≡ true)) (sym e)
        (covered slot base 65536 off (omega (arith, low)) (omega (arith, high, inside)));
    place = off - base;
    at = subst (λ o. IsSomeAnd o (λ range. off ≡ range.off + (off - base))) (sym e) (omega (arith, low));
    low = omega (arith, low);
    high = omega (arith, low, high);
  }

  -- a byte that is wrong by its place in an element is a wrong one
  wrong_at : (q : Part) (from to : ℕ) → HasPart row.chunk.profile (length row.chunk.stripes) q → (byte : IsByte q from to)
      → IsWrongAt images layout C row q byte.place → IsInWrong images layout C fails blocks slot off
  wrong_at q from to has byte wrong = record {
    row = row;
    is_row = is_row;
    part = q;
    of = record { number = is_row.number; there = is_row.there; parity = is_row.parity; position = is_row.position; has = has; covers = byte.covers };
    place = byte.place;
    at = byte.at;
    wrong = wrong;
  }

  -- a block's range in its own slice
  block_covers : (t : Target) (range : Range) → In t row.blocks → range_of t (part.Slice t.at.index) ≡ Some range → covers slot off range ≡ true
      → (HasPart row.chunk.profile (length row.chunk.stripes) (part.Slice t.at.index)) × IsByte (part.Slice t.at.index) t.at.rest (t.at.rest + size_of t)
  block_covers t range among e c =
      let block = sound.blocks t among in
      let mine : HasPart t.chunk.profile (length t.chunk.stripes) (part.Slice t.at.index) =
      (subst IsNone (sym block.in_row.parity) refl, block.in_row.position.index) in
      let has : HasPart row.chunk.profile (length row.chunk.stripes) (part.Slice t.at.index) =
      subst (λ c. HasPart c.profile (length c.stripes) (part.Slice t.at.index)) block.lies.chunk mine in
      let r = has_ranges images layout row t (part.Slice t.at.index) block.in_row block.lies mine (sound.stand (part.Slice t.at.index) has) in
      let same : range ≡ range_in r.slot (r.off + t.at.rest) (size_of t) =
      same_Some range (range_in r.slot (r.off + t.at.rest) (size_of t)) (sym e ∙ r.block) in
      let at = covering slot off (range_in r.slot (r.off + t.at.rest) (size_of t)) (ap (covers slot off) (sym same) ∙ c) in (
        has,
        byte_of (part.Slice t.at.index) t.at.rest (size_of t) r.off (r.element ∙ ap (λ s. Some (range_in s r.off 65536)) at.0) at.1 at.2 block.lies.inside,
      )

  -- a byte that a write for a block changes is a wrong one
  of_block : (t : Target) → In t row.blocks
      → list_any (λ (w : Write). covers slot off w.range) (mending_writes images row.failing t) ≡ true → IsInWrong images layout C fails blocks slot off
  of_block t among h =
      let o = over_byte images row.failing t slot off h in
      let q = own_slice t o.2.part (sound.blocks t among).in_row.parity (wrong_own images row.failing t o.2.part o.2.wrong) in
      let c = block_covers t o.0.range among (ap (range_of t) q ∙ o.2.range) o.1 in
      wrong_at (part.Slice t.at.index) t.at.rest (t.at.rest + size_of t) c.0 c.1
      (record { block = t; among = among; bad = subst (λ q. In q (wrong_parts images row.failing t)) (sym q) o.2.wrong; from = c.1.low; to = c.1.high })

  -- a sector of a parity in its element
  sector_covers : (q : Part) (column : ℕ) (range : Range) → HasPart row.chunk.profile (length row.chunk.stripes) q → column < 16
      → range_in_element layout row q (column * 4096) 4096 ≡ Some range → covers slot off range ≡ true → IsByte q (column * 4096) (column * 4096 + 4096)
  sector_covers q column range has few e c =
      let b = begins layout row table here q has in
      let start = (start_of row q).offset in
      let is = piece_is layout row table here q 0 (column * 4096) 4096 range has (column_at layout row table here column few) (omega (arith, few)) e in
      let at = covering slot off (range_in b.device.slot (start + column * 4096) 4096) (ap (covers slot off) (sym is) ∙ c) in
      byte_of q (column * 4096) 4096 start (b.whole ∙ ap (λ n. Some (range_in n start 65536)) at.0)
      (omega (arith, at.1)) (omega (arith, at.2)) (omega (arith, few))

  -- a byte in a column that isn't right is a wrong one of a parity
  parity_wrong : (q : Part) (x : ℕ) → IsParity q → IsInWrongColumn images layout C row q x → IsWrongAt images layout C row q x
  parity_wrong part.P x parity w = w
  parity_wrong part.Q x parity w = w
  parity_wrong q x parity w = absurd parity

  -- a byte that a write of a parity changes is a wrong one, where each block gets what is right
  of_parity : (q : Part) → IsParity q → HasPart row.chunk.profile (length row.chunk.stripes) q → ((t : Target) → In t row.blocks → GetsRight images C row t)
      → list_any (λ (w : Write). covers slot off w.range) (parity_writes images layout row q) ≡ true → IsInWrong images layout C fails blocks slot off
  of_parity q parity has right h =
      let w = any_is (λ (w : Write). covers slot off w.range) (parity_writes images layout row q) h in
      let s = is_sector images layout row q w.0 w.1 in
      let byte = sector_covers q s.column w.0.range has s.few s.range w.2 in
      wrong_at q (s.column * 4096) (s.column * 4096 + 4096) has byte (parity_wrong q byte.place parity (record {
        column = s.column;
        from = byte.low;
        to = byte.high;
        wrong = differing_parity_is_wrong images layout C row q s.column sound right parity s.few s.decided s.differs;
      }))

-- each byte that the writes of a row change is a wrong one of it
pub row_writes_are_wrong : RowWritesAreWrong
row_writes_are_wrong images layout C fails blocks row slot off table is_row sound right h =
    let W = λ (w : Write). covers slot off w.range in
    let any : list_any W (row_writes images layout row) ≡ true = sym (any_map (covers slot off) (λ (w : Write). w.range) (row_writes images layout row)) ∙ h in
    elim (any_append W (flat_map (mending_writes images row.failing) row.blocks)
    (flat_map (parity_writes images layout row) (parities row.chunk.profile)) any) [
      | inl bad ↦
          let f = any_flat W (mending_writes images row.failing) row.blocks bad in
          of_block images layout C fails blocks row slot off table is_row sound f.0 f.1 f.2
      | inr parity ↦
          let f = any_flat W (parity_writes images layout row) (parities row.chunk.profile) parity in
          let p = parity_has row.chunk.profile (length row.chunk.stripes) f.0 is_row.parity f.1 in
          of_parity images layout C fails blocks row slot off table is_row sound f.0 (is_parity f.0 p.1) p.0 right f.2
    ]
