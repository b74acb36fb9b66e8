-- What isn't wrong stays.
use Rattle.std.proofs.Common.{◌≡◌, ◌⊎◌, ℕ, ◌+◌, ◌-◌, ◌<◌, ◌≤◌, Bool, true, false, List, [], length, get_or, slice_get, Option, Some, None, IsSome, IsSomeAnd}
use Rattle.std.proofs.Common.{is_some, refl, sym, ap, ◌∙◌, subst, inl, inr, arith}
use Rattle.btr_scrub.proofs.Common.{Chunk, Failing, HaveOwnSlots, Images, IsOfElement, IsTable, Layout, Part, Range, Row, Target, bytes_of, covers}
use Rattle.btr_scrub.proofs.Common.{false_from_ne_true, false≢true, filter, image_of, is_in_row, length-slice_range, list_any, mirrors, option_map_or, range_in}
use Rattle.btr_scrub.proofs.Common.{range_in_element, same_Some, stripe_of}
use Rattle.btr_scrub.specs.Columns.{Committed, IsWrongAt}
use Rattle.btr_scrub_row.specs.Rows.{element}
use Rattle.btr_scrub.specs.Staying.{AvoidRight, IsInCopies, IsInWrong, IsRowOf, RightStays, RowOutlivesWrites}
use Rattle.btr_chunk.specs.Apart.{LiesIn}
use Rattle.btr_chunk.proofs.Apart.{stripes_apart}
use Rattle.btr_scrub.proofs.Places.{covered, elements_apart, is_at}
use Rattle.btr_scrub.proofs.Columns.{row_survives}
use Rattle.btr_scrub.proofs.Elements.{begins_at, start_of}
use Rattle.btr_scrub.proofs.Survival.{at_range}

-- one place of an element has a byte of a slot
same_place : (o : Option Range) (off x y : ℕ) → IsSomeAnd o (λ range. off ≡ range.off + x) → IsSomeAnd o (λ range. off ≡ range.off + y) → x ≡ y
same_place None off x y h g = absurd h
same_place (Some range) off x y h g = omega (arith, h, g)

-- a row made of these
abbrev made : Chunk → ℕ → List Target → Failing → Row
made chunk number blocks fails = record { chunk = chunk; number = number; blocks = blocks; failing = fails }

-- one that is made of the same is the same
same_row : (row other : Row) → row.chunk ≡ other.chunk → row.number ≡ other.number → row.blocks ≡ other.blocks → row.failing ≡ other.failing → row ≡ other
same_row row other chunk number blocks fails =
    ap (λ c. made c row.number row.blocks row.failing) chunk ∙ ap (λ n. made other.chunk n row.blocks row.failing) number
    ∙ ap (λ bs. made other.chunk other.number bs row.failing) blocks ∙ ap (made other.chunk other.number other.blocks) fails

module _ (images : Images) (layout : Layout) (C : Committed) (fails : Failing) (blocks : List Target) (table : IsTable layout.chunks)
    (own : HaveOwnSlots layout.devices) (row : Row) (is_row : IsRowOf layout fails blocks row) (q : Part) (place : ℕ)
    (fine : ¬ (IsWrongAt images layout C row q place)) (slot off : ℕ) (of : IsOfElement layout row q slot off)
    (at : IsSomeAnd (range_in_element layout row q 0 65536) (λ range. off ≡ range.off + place)) where
  -- a byte that isn't wrong in this row isn't in any
  not_wrong : IsInWrong images layout C fails blocks slot off → ⊥
  not_wrong w =
      let same = elements_apart layout row w.row q w.part slot off table own of w.of in
      let blocks_same : row.blocks ≡ w.row.blocks =
      is_row.made ∙ ap (λ c. filter (is_in_row c row.number) blocks) same.0 ∙ ap (λ n. filter (is_in_row w.row.chunk n) blocks) same.1
      ∙ sym w.is_row.made in
      let row_is : w.row ≡ row = sym (same_row row w.row same.0 same.1 blocks_same (is_row.beside ∙ sym w.is_row.beside)) in
      let here : w.place ≡ place = same_place (range_in_element layout row q 0 65536) off w.place place
      (subst (λ p. IsSomeAnd (range_in_element layout row p 0 65536) (λ range. off ≡ range.off + w.place)) (sym same.2)
      (subst (λ r. IsSomeAnd (range_in_element layout r w.part 0 65536) (λ range. off ≡ range.off + w.place)) row_is w.at)) at in
      fine (subst (IsWrongAt images layout C row q) here
      (subst (λ p. IsWrongAt images layout C row p w.place) (sym same.2) (subst (λ r. IsWrongAt images layout C r w.part w.place) row_is w.wrong)))

  -- nor in a chunk with copies
  not_copies : IsInCopies layout slot off → ⊥
  not_copies c =
      let a = is_at layout row q slot off table of in
      let devid : a.stripe.devid ≡ c.devid = own a.stripe.devid c.devid a.device c.device a.given c.given (a.same_slot ∙ sym c.same_slot) in
      let both = stripes_apart layout.chunks (record { devid = c.devid; offset = off }) of.number c.number
      (stripe_of row.chunk.profile (length row.chunk.stripes) q (record { row = row.number; index = 0; rest = 0 })) c.stripe table
      (subst (λ d. LiesIn layout.chunks (record { devid = d; offset = off }) of.number
      (stripe_of row.chunk.profile (length row.chunk.stripes) q (record { row = row.number; index = 0; rest = 0 }))) devid a.lies) c.lies in
      let chunk : row.chunk ≡ c.lies.chunk = same_Some row.chunk c.lies.chunk (sym of.there ∙ ap (slice_get layout.chunks) both.0 ∙ c.lies.there) in
      false≢true (sym (ap (λ k. is_some (mirrors k)) (sym chunk) ∙ ap is_some is_row.parity) ∙ c.copies)

  -- ranges all of whose bytes are wrong, or lie in chunks with copies, don't cover the byte
  not_in_ranges : (ranges : List Range) → AvoidRight images layout C fails blocks ranges → list_any (covers slot off) ranges ≡ false
  not_in_ranges ranges avoid = false_from_ne_true (list_any (covers slot off) ranges) (λ e.
      elim (avoid slot off e) [ inl w ↦ absurd (not_wrong w) | inr c ↦ absurd (not_copies c) ])

-- a range is there, or it isn't
none_or : (o : Option Range) → (IsSome o → (x : Range) × (o ≡ Some x)) × ((b : Bool) → is_some o ≡ b → (o ≡ None) ⊎ IsSome o)
none_or None = ((λ h. absurd (false≢true h)), λ b e. inl refl)
none_or (Some r) = ((λ h. (r, refl)), λ b e. inr refl)

-- all that isn't wrong in a row stays, whatever is written in ranges of wrong bytes and of chunks with copies
pub right_stays : RightStays
right_stays images left layout C fails blocks row ranges table own lengths is_row avoid keeps = record {
  lengths = λ q has. elim ((none_or (range q)).1 (is_some (range q)) refl) [
    | inl none ↦ ap length (bytes_there left q None none) ∙ sym (ap length (bytes_there images q None none))
    | inr some ↦
        let s = there q some in
        ap length (bytes_there left q (Some s.0) s.1)
        ∙ length-slice_range (image_of left s.0.slot) s.0.off (s.0.off + s.0.len) (omega (arith, s.2, keeps.lengths s.0.slot))
        ∙ sym (ap length (bytes_there images q (Some s.0) s.1) ∙ length-slice_range (image_of images s.0.slot) s.0.off (s.0.off + s.0.len) s.2)
  ];
  bytes = λ q x has lt fine. elim ((none_or (range q)).1 (is_some (range q)) refl) [
    | inl none ↦ ap (λ xs. get_or xs x 0) (bytes_there left q None none ∙ sym (bytes_there images q None none))
    | inr some ↦
        let s = there q some in
        let off = s.0.off + x in
        let inside : x < s.0.off + s.0.len - s.0.off = omega (arith, lt, s.3) in
        let of : IsOfElement layout row q s.0.slot off = record {
          number = is_row.number;
          there = is_row.there;
          parity = is_row.parity;
          position = is_row.position;
          has = has;
          covers = subst (λ o. IsSomeAnd o (λ range. covers s.0.slot off range ≡ true)) (sym s.1)
              (covered s.0.slot s.0.off s.0.len off (omega arith) (omega (arith, lt, s.3)));
        } in
        ap (λ xs. get_or xs x 0) (bytes_there left q (Some s.0) s.1) ∙ at_range (image_of left s.0.slot) s.0.off (s.0.off + s.0.len) x 0 inside
        ∙ keeps.bytes s.0.slot off (not_in_ranges images layout C fails blocks table own row is_row q x fine s.0.slot off of
        (subst (λ o. IsSomeAnd o (λ range. off ≡ range.off + x)) (sym s.1) refl) ranges avoid)
        ∙ sym (ap (λ xs. get_or xs x 0) (bytes_there images q (Some s.0) s.1) ∙ at_range (image_of images s.0.slot) s.0.off (s.0.off + s.0.len) x 0 inside)
  ];
}
  where
    -- where an element of the row lies
    range : Part → Option Range
    range q = range_in_element layout row q 0 65536

    -- the bytes of an element are those of its range
    bytes_there : (now : Images) (q : Part) (o : Option Range) → range q ≡ o → element now layout row q
        ≡ option_map_or (λ r. bytes_of now r.slot r.off r.len) o []
    bytes_there now q o e = ap (λ (o : Option Range). option_map_or (λ r. bytes_of now r.slot r.off r.len) o []) e

    -- where an element stands
    there : (q : Part) → IsSome (range q) → (r : Range) × (range q ≡ Some r) × (r.off + r.len ≤ length (image_of images r.slot)) × (r.len ≡ 65536)
    there q some =
        let b = begins_at layout row q some in
        (range_in b.device.slot (start_of row q).offset 65536, b.whole, omega (arith, b.within, lengths (start_of row q).devid b.device b.given), refl)

-- behind such writes a checked block, right at its own place or with few elements wrong there, can be had still
pub row_outlives_writes : RowOutlivesWrites
row_outlives_writes images left layout C fails blocks row ranges t table own lengths is_row avoid keeps sound pass spared among checked =
    row_survives images left layout C row t sound pass spared
    (right_stays images left layout C fails blocks row ranges table own lengths is_row avoid keeps) among checked
