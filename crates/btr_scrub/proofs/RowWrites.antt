-- The writes for a full stripe lie in its elements, and leave those of other rows.
use Rattle.std.proofs.Common.{◌≡◌, ℕ, ◌+◌, ◌-◌, ◌*◌, ◌<◌, ◌≤◌, true, false, List, [], length, drop, slice_get, All, Option, Some, None, IsNone, IsSome}
use Rattle.std.proofs.Common.{IsSomeAnd, refl, sym, ap, ◌∙◌, subst, inl, inr, arith, length-take}
use Rattle.std.proofs.lemmas.List.Elements.{All-append}
use Rattle.btr_scrub.proofs.Common.{Elements, HasPart, HaveLengths, Images, In, IsChunk, IsInRow, IsOfElement, IsPosition, IsSought, IsTable, KeepsOutside}
use Rattle.btr_scrub.proofs.Common.{Layout, LiesInRow, Part, Range, Row, Target, Write, addr_of, bytes_of, covers, device_in, element_with, flat_map, image_of}
use Rattle.btr_scrub.proofs.Common.{is_striped, list_any, mending_writes, mirrors, new_bytes, option_map_or, parities, parity_writes, place_at, range_in}
use Rattle.btr_scrub.proofs.Common.{range_in_element, range_of, range_on, range_stands, row_writes, same_Some, size_of, without_copies}
use Rattle.btr_chunk.specs.declared.place.Part.TheVariants as part
use Rattle.btr_scrub_row.specs.Rows as rows
use Rattle.btr_scrub.proofs.CopyWrites.{same_element}
use Rattle.btr_scrub.proofs.Elements.{Begins, begins_at, lies_behind, start_of}
use Rattle.btr_scrub.proofs.Places.{covered, covering}
use Rattle.btr_scrub.proofs.Positions.{striped_fits, position_is}
use Rattle.btr_chunk.proofs.Bytes.{striped-position}
use Rattle.btr_scrub.proofs.RowAgreeing.{RowAlike, parity_alike, parity_has, row_alike, sure_same, is_sector}
use Rattle.btr_scrub.proofs.Shorts.{site_short}
use Rattle.btr_scrub.proofs.OwnPlaces.{wrong_own, own_slice, over_byte}
use Rattle.btr_scrub.proofs.Survival.{range_same}
use Rattle.btr_scrub.proofs.Pasting.{Short, flat_short}
use Rattle.btr_scrub.proofs.Lists.{any_append, any_flat, any_is, all_from}
use Rattle.btr_scrub.proofs.Agreeing.{SiteAlike}

-- a full stripe of the table, all of whose elements stand
pub record IsRowIn (layout : Layout) (row : Row) : Type 0 where
  pub chunk_number : ℕ
  pub there : slice_get layout.chunks chunk_number ≡ Some row.chunk
  pub parity : mirrors row.chunk ≡ None
  pub position : IsPosition row.chunk (record { row = row.number; index = 0; rest = 65535 })
  pub stand : (q : Part) → HasPart row.chunk.profile (length row.chunk.stripes) q → IsSome (range_in_element layout row q 0 65536)

-- a block that lies in it
pub record IsBlockOf (layout : Layout) (row : Row) (t : Target) : Type 0 where
  pub is : IsSought layout t
  pub chunk : t.chunk ≡ row.chunk
  pub number : t.at.row ≡ row.number

-- a block of a chunk with parity lies in one element
pub in_one_element : (layout : Layout) (t : Target) → IsSought layout t → mirrors t.chunk ≡ None → t.at.rest + size_of t ≤ 65536
in_one_element layout t is none =
    let striped : is_striped t.chunk.profile ≡ true =
    elim (without_copies t.chunk.profile (length t.chunk.stripes) none) [ inl five ↦ ap is_striped five | inr six ↦ ap is_striped six ] in
    let rest = ap (λ (e : Elements). e.rest) (is.at ∙ striped-position t.chunk (addr_of t.want) striped) in
    let small = striped_fits t.chunk (addr_of t.want) (size_of t) striped is.uncrossed in
    omega (arith, rest, small)

module _ (layout : Layout) (row : Row) (table : IsTable layout.chunks) (is_row : IsRowIn layout row) where
  -- the row's chunk is sound, as each of its table is
  sound : IsChunk row.chunk
  sound = (table.sound is_row.chunk_number row.chunk is_row.there).0

  -- each element begins at a place on a device that is given
  pub begins : (q : Part) → HasPart row.chunk.profile (length row.chunk.stripes) q → Begins layout row q
  begins q has = begins_at layout row q (is_row.stand q has)

  -- a byte of an element
  of_element : (q : Part) (has : HasPart row.chunk.profile (length row.chunk.stripes) q) (b : Begins layout row q) (off : ℕ)
      → (start_of row q).offset ≤ off → off < (start_of row q).offset + 65536 → IsOfElement layout row q b.device.slot off
  of_element q has b off from to = record {
    number = is_row.chunk_number;
    there = is_row.there;
    parity = is_row.parity;
    position = is_row.position;
    has = has;
    covers = rw b.whole (covered b.device.slot (start_of row q).offset 65536 off from to);
  }

  -- where a range in an element lies on its device
  pub piece_is : (q : Part) (index rest len : ℕ) (range : Range) (has : HasPart row.chunk.profile (length row.chunk.stripes) q)
      → IsPosition row.chunk (record { row = row.number; index = index; rest = rest }) → rest + len ≤ 65536
      → range_on (place_at row.chunk q (record { row = row.number; index = index; rest = rest })).offset len
      (device_in layout.devices (place_at row.chunk q (record { row = row.number; index = index; rest = rest })).devid) ≡ Some range
      → range ≡ range_in (begins q has).device.slot ((start_of row q).offset + rest) len
  piece_is q index rest len range has position fits e =
      let b = begins q has in
      let l = lies_behind row.chunk q (record { row = row.number; index = index; rest = rest }) sound is_row.parity has position in
      let place = place_at row.chunk q (record { row = row.number; index = index; rest = rest }) in
      let given : device_in layout.devices place.devid ≡ Some b.device = ap (device_in layout.devices) l.0 ∙ b.given in
      let stands = range_stands place.offset len (device_in layout.devices place.devid) b.device given (omega (arith, b.within, l.1, fits)) in
      same_Some range (range_in b.device.slot place.offset len) (sym e ∙ stands) ∙ ap (λ o. range_in b.device.slot o len) l.1

  -- a byte of a range in an element is of the element
  in_element : (q : Part) (index rest len slot off : ℕ) (range : Range) → HasPart row.chunk.profile (length row.chunk.stripes) q
      → IsPosition row.chunk (record { row = row.number; index = index; rest = rest }) → rest + len ≤ 65536
      → range_on (place_at row.chunk q (record { row = row.number; index = index; rest = rest })).offset len
      (device_in layout.devices (place_at row.chunk q (record { row = row.number; index = index; rest = rest })).devid) ≡ Some range
      → covers slot off range ≡ true → IsOfElement layout row q slot off
  in_element q index rest len slot off range has position fits e c =
      let b = begins q has in
      let at = covering slot off (range_in b.device.slot ((start_of row q).offset + rest) len)
      (rw (piece_is q index rest len range has position fits e) at c) in
      subst (λ s. IsOfElement layout row q s off) at.0 (of_element q has b off (omega (arith, at.1)) (omega (arith, at.2, fits)))

  -- ---- blocks of the row

  -- a block of a full stripe has no copies
  pub no_copies : (t : Target) → IsBlockOf layout row t → mirrors t.chunk ≡ None
  no_copies t of = ap mirrors of.chunk ∙ is_row.parity

  -- it is in a row
  pub block_in_row : (t : Target) → IsBlockOf layout row t → IsInRow t
  block_in_row t of = record {
    keeps_rule = (table.sound of.is.number t.chunk of.is.there).0;
    position = position_is layout t table of.is;
    parity = no_copies t of;
  }

  -- it lies in this one
  pub block_lies : (t : Target) → IsBlockOf layout row t → LiesInRow layout row t
  block_lies t of =
      record { chunk = of.chunk; number = of.number; devices = of.is.devices; inside = in_one_element layout t of.is (no_copies t of) }

  -- its own slice is a part of the chunk
  pub has_own : (t : Target) → IsBlockOf layout row t → HasPart row.chunk.profile (length row.chunk.stripes) (part.Slice t.at.index)
  has_own t of = (subst IsNone (sym is_row.parity) refl, (subst (λ c. IsPosition c t.at) of.chunk (position_is layout t table of.is)).index)

  -- a byte of a part of a block is of the part's element
  pub block_byte : (t : Target) (q : Part) (slot off : ℕ) → IsBlockOf layout row t → HasPart row.chunk.profile (length row.chunk.stripes) q
      → IsSomeAnd (range_of t q) (λ range. covers slot off range ≡ true) → IsOfElement layout row q slot off
  block_byte t q slot off of has c = by (range_of t q) refl c
    where
      -- the block's position is one of the row
      position : IsPosition row.chunk (record { row = row.number; index = t.at.index; rest = t.at.rest })
      position =
          subst (λ n. IsPosition row.chunk (record { row = n; index = t.at.index; rest = t.at.rest })) of.number
          (subst (λ c. IsPosition c t.at) of.chunk (position_is layout t table of.is))

      -- it ends in its element
      fits : t.at.rest + size_of t ≤ 65536
      fits = (block_lies t of).inside

      by : (o : Option Range) → range_of t q ≡ o → IsSomeAnd o (λ range. covers slot off range ≡ true) → IsOfElement layout row q slot off
      by None e c = absurd c
      by (Some range) e c =
          let place = place_at t.chunk q t.at in
          let as_row : range_on (place_at row.chunk q (record { row = row.number; index = t.at.index; rest = t.at.rest })).offset (size_of t)
          (device_in layout.devices (place_at row.chunk q (record { row = row.number; index = t.at.index; rest = t.at.rest })).devid) ≡ Some range =
          ap (λ n. range_on (place_at row.chunk q (record { row = n; index = t.at.index; rest = t.at.rest })).offset (size_of t)
          (device_in layout.devices (place_at row.chunk q (record { row = n; index = t.at.index; rest = t.at.rest })).devid)) (sym of.number)
          ∙ ap (λ k. range_on (place_at k q t.at).offset (size_of t) (device_in layout.devices (place_at k q t.at).devid)) (sym of.chunk)
          ∙ ap (λ ds. range_on place.offset (size_of t) (device_in ds place.devid)) (sym of.is.devices) ∙ e in
          in_element q t.at.index t.at.rest (size_of t) slot off range has position fits as_row c

  -- ---- what is written

  -- a byte that is written for a block
  pub written_block : (images : Images) (t : Target) (slot off : ℕ) → IsBlockOf layout row t
      → list_any (λ (w : Write). covers slot off w.range) (mending_writes images row.failing t) ≡ true → IsOfElement layout row (part.Slice t.at.index) slot off
  written_block images t slot off of h =
      let o = over_byte images row.failing t slot off h in
      let q = own_slice t o.2.part (no_copies t of) (wrong_own images row.failing t o.2.part o.2.wrong) in
      block_byte t (part.Slice t.at.index) slot off of (has_own t of)
      (subst (λ o. IsSomeAnd o (λ range. covers slot off range ≡ true)) (sym (ap (range_of t) q ∙ o.2.range)) o.1)

  -- a column has a position
  pub column_at : (column : ℕ) → column < 16 → IsPosition row.chunk (record { row = row.number; index = 0; rest = column * 4096 })
  column_at column few = record { index = is_row.position.index; inside = omega (arith, is_row.position.inside, few) }

  -- each byte of the writes for a parity lies in its element
  pub written_parity : (images : Images) (q : Part) (slot off : ℕ) → HasPart row.chunk.profile (length row.chunk.stripes) q
      → list_any (λ (w : Write). covers slot off w.range) (parity_writes images layout row q) ≡ true → IsOfElement layout row q slot off
  written_parity images q slot off has h =
      let w = any_is (λ (w : Write). covers slot off w.range) (parity_writes images layout row q) h in
      let s = is_sector images layout row q w.0 w.1 in
      in_element q 0 (s.column * 4096) 4096 slot off w.0.range has (column_at s.column s.few) (omega (arith, s.few)) s.range w.2

  -- each byte that is written for the row is of one of its elements
  pub written_row : (images : Images) (slot off : ℕ) → ((t : Target) → In t row.blocks → IsBlockOf layout row t)
      → list_any (λ (w : Write). covers slot off w.range) (row_writes images layout row) ≡ true → (q : Part) × IsOfElement layout row q slot off
  written_row images slot off of h =
      let W = λ (w : Write). covers slot off w.range in
      elim (any_append W (flat_map (mending_writes images row.failing) row.blocks)
      (flat_map (parity_writes images layout row) (parities row.chunk.profile)) h) [
        | inl bad ↦ let f = any_flat W (mending_writes images row.failing) row.blocks bad in
            (part.Slice f.0.at.index, written_block images f.0 slot off (of f.0 f.1) f.2)
        | inr parity ↦
            let f = any_flat W (parity_writes images layout row) (parities row.chunk.profile) parity in
            let p = parity_has row.chunk.profile (length row.chunk.stripes) f.0 is_row.parity f.1 in
            (f.0, written_parity images f.0 slot off p.0 f.2)
      ]

  -- ---- the writes have at most as many bytes as their ranges

  module _ (images : Images) (lengths : HaveLengths images layout) where
    -- each write for a parity fits
    parity_short : (q : Part) → HasPart row.chunk.profile (length row.chunk.stripes) q → All (Short images) (parity_writes images layout row q)
    parity_short q has = all_from (Short images) (parity_writes images layout row q) (λ w i.
        let s = is_sector images layout row q w i in
        let b = begins q has in
        let same = piece_is q 0 (s.column * 4096) 4096 w.range has (column_at s.column s.few) (omega (arith, s.few)) s.range in
        let bytes = element_with images layout (new_bytes images row.failing) row q in
        let off : w.range.off ≡ (start_of row q).offset + s.column * 4096 = ap (λ (r : Range). r.off) same in
        let len : w.range.len ≡ 4096 = ap (λ (r : Range). r.len) same in
        let image : length (image_of images w.range.slot) ≡ b.device.len =
        ap (λ (r : Range). length (image_of images r.slot)) same ∙ lengths (start_of row q).devid b.device b.given in
        record {
          short = omega (arith, len, ap length s.bytes, length-take (s.column * 4096 + 4096 - s.column * 4096) (drop (s.column * 4096) bytes));
          within = omega (arith, off, len, image, b.within, s.few);
        })

    -- each write for a full stripe fits
    pub row_short : ((t : Target) → In t row.blocks → IsBlockOf layout row t) → All (Short images) (row_writes images layout row)
    row_short of =
        All-append (Short images) (flat_map (mending_writes images row.failing) row.blocks)
        (flat_map (parity_writes images layout row) (parities row.chunk.profile))
        (flat_short images (mending_writes images row.failing) row.blocks (λ t i. site_short images layout lengths t (of t i).is row.failing))
        (flat_short images (parity_writes images layout row) (parities row.chunk.profile)
        (λ q i. parity_short q (parity_has row.chunk.profile (length row.chunk.stripes) q is_row.parity i).0))

    -- ---- what is told of the row, where none of its bytes was written

    -- where nothing in its elements was written, it is as before
    pub row_stays : (images' : Images) (ranges : List Range) → ((t : Target) → In t row.blocks → IsBlockOf layout row t) → KeepsOutside ranges images images'
        → ((q : Part) (slot off : ℕ) → IsOfElement layout row q slot off → list_any (covers slot off) ranges ≡ false)
        → RowAlike images images' layout row row.failing
    row_stays images' ranges of keeps free = row_alike images images' layout row row.failing is_row.parity elements blocks
        (λ t i. sure_same images images' layout row t (blocks t i).bytes)
      where
        -- its elements have the same bytes
        elements : (q : Part) → HasPart row.chunk.profile (length row.chunk.stripes) q → rows.element images' layout row q ≡ rows.element images layout row q
        elements q has =
            let b = begins q has in
            let slot = b.device.slot in
            let off = (start_of row q).offset in
            let long = lengths (start_of row q).devid b.device b.given in
            ap (λ (o : Option Range). option_map_or (λ range. bytes_of images' range.slot range.off range.len) o []) b.whole
            ∙ range_same (image_of images' slot) (image_of images slot) off (off + 65536) (omega (arith, b.within, long, keeps.lengths slot))
            (sym (keeps.lengths slot)) (λ i from to. keeps.bytes slot i (free q slot i (of_element q has b i from to)))
            ∙ sym (ap (λ (o : Option Range). option_map_or (λ range. bytes_of images range.slot range.off range.len) o []) b.whole)

        -- what is told of its blocks is as before
        blocks : (t : Target) → In t row.blocks → SiteAlike row.failing row.failing images images' t
        blocks t i =
            let o = of t i in
            parity_alike images images' t (no_copies t o) (position_is layout t table o.is).index
            (λ q has. same_element images images' layout ranges t q lengths o.is keeps
            (λ slot off c. free q slot off (block_byte t q slot off o (subst (λ k. HasPart k.profile (length k.stripes) q) o.chunk has) c))) row.failing
