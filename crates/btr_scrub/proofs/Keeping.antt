-- Wherever the mending of a full stripe is cut short, its blocks can be had.
use Rattle.std.proofs.Common.{◌≡◌, ◌⊎◌, ℕ, ◌+◌, ◌-◌, ◌*◌, ◌<◌, ◌≤◌, Bool, true, false, not, cond, ◌&&◌, List, [], ◌∷◌, length, get_or, slice_range, slice_get}
use Rattle.std.proofs.Common.{All, Option, Some, None, IsSome, is_some, IsNone, IsSomeAnd, refl, sym, ap, ◌∙◌, subst, inl, inr, arith}
use Rattle.btr_scrub.proofs.Common.{Candidate, Chunk, Failing, HaveLengths, Images, In, IsInRow, IsOfElement, KeepsOutside, Layout, LiesInRow, P, Q, Range}
use Rattle.btr_scrub.proofs.Common.{Read, Row, Target, Want, Write, accepted, addr_of, bad_parts, block_writes, bytes_of, candidates, cons_option, copy_writes}
use Rattle.btr_scrub.proofs.Common.{covers, data_count, false_from_ne_true, false≢true, fold, fresh_writes, image_of, is_good, is_in_row, is_plain}
use Rattle.btr_scrub.proofs.Common.{length-pasted, list_any, mending_writes, option_map, option_map_or, parities, parity_writes, parts_read, passes}
use Rattle.btr_scrub.proofs.Common.{passing_filter, pasted, range_in, range_in_element, range_of, same_Some, size_of, slice_count, stands, stripe_length}
use Rattle.btr_scrub.proofs.Common.{targets, value_of, write_on}
use Rattle.std.specs.List.{Contains}
use Rattle.btr_chunk.specs.declared.place.Part.TheVariants.{Slice}
use Rattle.btr_read.specs.Candidates.{element}
use Rattle.btr_read.specs.Candidates as read
use Rattle.btr_read.specs.Fate.{passing}
use Rattle.btr_read.proofs.Trials.{fails_where_none}
use Rattle.btr_read.proofs.Values.{value_by_ranges}
use Rattle.btr_scrub_copies.specs.Writes.{AreAmong, IsStopped, ranges_of}
use Rattle.btr_scrub_row.specs.Rows.{parities_writes, rebuilt_writes}
use Rattle.btr_scrub_row.proofs.Settled.{bad_are, written_at}
use Rattle.btr_scrub.proofs.OwnPlaces.{wrong_own, own_slice, over_byte}
use Rattle.btr_scrub_row.proofs.Pasted.{at_range, pasted-within, range_pasted}
use Rattle.btr_scrub.specs.Keeping.{FillsPlace, FirstTurnKeepsBlocks, HasWayBeside, IsHad, IsRowAmong, SecondTurnKeepsBlocks, Withstands}
use Rattle.btr_scrub.specs.Repair.{byte_at}
use Rattle.btr_scrub.proofs.AcrossChunks.{OfRows, row_is}
use Rattle.btr_scrub.proofs.Columns.{own_candidate, same_index}
use Rattle.btr_scrub.proofs.CopyWrites.{element_is, is_there, long_element, same_element}
use Rattle.btr_scrub.proofs.Elements.{HasRanges, has_ranges}
use Rattle.btr_scrub.proofs.Outliving.{same_block}
use Rattle.btr_scrub.proofs.Outside.{left_short, right_short, stopped_keeps}
use Rattle.btr_scrub.proofs.Places.{covered, covering, elements_apart}
use Rattle.btr_scrub.proofs.RowAgreeing.{parity_has}
use Rattle.btr_scrub.proofs.RowWrites.{IsBlockOf, block_byte, has_own, row_short, written_parity, block_in_row, block_lies}
use Rattle.btr_scrub.proofs.SoundRows.{address_is}
use Rattle.btr_scrub.proofs.Survival.{of_filter, range_same}
use Rattle.btr_scrub.proofs.Pasting.{Short, shorts_keep, written_by, stays_brought}
use Rattle.btr_scrub.proofs.Lists.{in_of, of_filter_map, some_of, any_map, any_is, is_any, first_in, of_flat, in_flat, in_map}
use Rattle.btr_scrub.proofs.Doubting.{passes_plain}
use Rattle.btr_scrub.proofs.RowNumbers.{IsWholeChunk}

-- ---- images that differ in ranges

-- what no range covers fewer don't
none_fewer : (slot off : ℕ) (rs qs : List Range) → AreAmong rs qs → list_any (covers slot off) qs ≡ false → list_any (covers slot off) rs ≡ false
none_fewer slot off rs qs among none = false_from_ne_true (list_any (covers slot off) rs) (λ e.
    let a = any_is (covers slot off) rs e in absurd (false≢true (sym none ∙ is_any (covers slot off) a.0 qs (among a.0 a.1) a.2)))

-- images that differ in some ranges, and then again
keeps_then : (rs qs : List Range) (a b c : Images) → AreAmong qs rs → KeepsOutside rs a b → KeepsOutside qs b c → KeepsOutside rs a c
keeps_then rs qs a b c among one two = record {
  count = two.count ∙ one.count;
  lengths = λ slot. two.lengths slot ∙ one.lengths slot;
  bytes = λ slot off none. two.bytes slot off (none_fewer slot off qs rs among none) ∙ one.bytes slot off none;
}

-- writes that fit fit images of the same lengths
short_after : (images now : Images) (ws : List Write) → ((slot : ℕ) → length (image_of now slot) ≡ length (image_of images slot))
    → All (Short images) ws → All (Short now) ws
short_after images now ws same all i d lt = let s = all i d lt in record { short = s.short; within = omega (arith, s.within, same (get_or ws i d).range.slot) }

-- ---- a block that can be had

-- a candidate that passes
had_by : (images : Images) (t : Target) (c : Candidate) → In c (candidates t) → stands t c ≡ true → passes t.setting t.want (value_of images t c)
    ≡ true → IsHad images t
had_by images t c i stand pass = by (passing images t) refl
  where
    by : (xs : List (List ℕ)) → passing images t ≡ xs → IsSome (slice_get (passing images t) 0)
    by [] e = absurd (false≢true (sym (fails_where_none images t c e i stand) ∙ pass))
    by (x ∷ xs) e = ap (λ ys. is_some (slice_get ys 0)) e

-- bytes that are accepted for a block pass
accepted_passes : (images : Images) (t : Target) (bytes : List ℕ) → accepted images t ≡ Some bytes → passes t.setting t.want bytes ≡ true
accepted_passes images t bytes e = (passing_filter (passes t.setting t.want) bytes (read.readings images t) (first_in (passing images t) bytes e)).1

-- a byte at one place of an element has one address, from whichever block it is counted
same_address : (one other base base' rest rest' off from from' : ℕ) → one ≡ base + rest → other ≡ base' + rest' → base ≡ base' → from ≡ from' → from
    + rest ≤ off → from' + rest' ≤ off → one + (off - (from + rest)) ≡ other + (off - (from' + rest'))
same_address one other base base' rest rest' off from from' a b same begin le le' = omega (arith, a, b, same, begin, le, le')

-- ---- a full stripe

module _ (images : Images) (layout : Layout) (wants : List Want) (row : Row) (here : IsRowAmong images layout wants row) where
  -- the blocks and plain sectors of the wants that have a position
  abbrev ts : List Target
  ts = targets layout wants

  -- the full stripe lies within its chunk's stripes
  inside : row.number * 65536 + 65536 ≤ stripe_length row.chunk
  inside = omega (arith, here.is_row.position.inside)

  -- the images that fail, as the row has it
  abbrev kept : Failing
  kept = row.failing

  -- its chunk has parity, and no device is missing
  whole : IsWholeChunk layout here.is_row.number row.chunk
  whole = record { of = record { table = here.table; there = here.is_row.there; parity = here.is_row.parity }; own = here.own_slots; given = here.given }

  -- it is a full stripe of that chunk, and its blocks lie in it
  of : OfRows layout here.is_row.number row
  of = subst (λ bs. OfRows layout here.is_row.number (record { chunk = row.chunk; number = row.number; blocks = bs; failing = row.failing }))
      (sym here.is_row.made) (row_is whole kept wants row.number inside)

  -- a block of the row is one of the wants'
  among : (t : Target) → In t row.blocks → In t ts
  among t i = of_filter (is_in_row row.chunk row.number) t ts (subst (In t) here.is_row.made i)

  -- the writes for its blocks fit
  rebuilt_short : All (Short images) (rebuilt_writes images layout row)
  rebuilt_short = left_short images (rebuilt_writes images layout row) (parities_writes images layout row)
      (row_short layout row here.table of.is images here.lengths of.blocks)

  -- and so do those for its parities
  parities_short : All (Short images) (parities_writes images layout row)
  parities_short = right_short images (rebuilt_writes images layout row) (parities_writes images layout row)
      (row_short layout row here.table of.is images here.lengths of.blocks)

  -- the images when the row's blocks are written
  abbrev after : Images
  after = fold write_on images (rebuilt_writes images layout row)

  -- the writes for its blocks change nothing outside their ranges
  rebuilt_keeps : KeepsOutside (ranges_of (rebuilt_writes images layout row)) images after
  rebuilt_keeps = shorts_keep images (rebuilt_writes images layout row) rebuilt_short

  -- ---- one block, and where it lies

  module _ (t : Target) (i : In t row.blocks) where
    -- the block is one of the row
    block : IsBlockOf layout row t
    block = of.blocks t i

    -- its position is one of a full stripe
    in_row : IsInRow t
    in_row = block_in_row layout row here.table of.is t block

    -- it lies in this full stripe
    lies : LiesInRow layout row t
    lies = block_lies layout row here.table of.is t block

    -- the block's own slice stands in its element
    own : HasRanges images layout row t (Slice t.at.index)
    own = has_ranges images layout row t (Slice t.at.index) in_row lies (subst IsNone (sym in_row.parity) refl, in_row.position.index)
        (of.is.stand (Slice t.at.index) (has_own layout row here.table of.is t block))

    -- its own place
    abbrev place : Range
    place = range_in own.slot (own.off + t.at.rest) (size_of t)

    -- so it stands
    own_stands : IsSome (range_of t (Slice t.at.index))
    own_stands = ap is_some own.block

    -- its place lies in the image
    place_within : own.off + t.at.rest + size_of t ≤ length (image_of images own.slot)
    place_within =
        let there = is_there images layout t (Slice t.at.index) place here.lengths block.is own.block in
        let slot : own.slot ≡ there.device.slot = ap (λ (r : Range). r.slot) there.is in
        let off = ap (λ (r : Range). r.off) there.is in
        omega (arith, there.within, off, ap (λ s. length (image_of images s)) slot)

    -- a byte of it is of its element
    own_byte : (slot off : ℕ) → covers slot off place ≡ true → IsOfElement layout row (Slice t.at.index) slot off
    own_byte slot off c = block_byte layout row here.table of.is t (Slice t.at.index) slot off block (has_own layout row here.table of.is t block)
        (subst (λ o. IsSomeAnd o (λ range. covers slot off range ≡ true)) (sym own.block) c)

    -- what is written for it lies in its place
    written_there : (slot off : ℕ) → list_any (covers slot off) (ranges_of (mending_writes images row.failing t)) ≡ true → covers slot off place ≡ true
    written_there slot off h =
        let o = over_byte images row.failing t slot off (sym (any_map (covers slot off) (λ (w : Write). w.range) (mending_writes images row.failing t)) ∙ h) in
        let q = own_slice t o.2.part in_row.parity (wrong_own images row.failing t o.2.part o.2.wrong) in
        ap (covers slot off) (same_Some place o.0.range (sym own.block ∙ ap (range_of t) q ∙ o.2.range)) ∙ o.1

    -- what is written for a checked block
    module _ (checked : is_plain t.want ≡ false) where
      -- bytes for its own slice are written at its place
      one : (bytes : List ℕ) (b : Bool) → copy_writes t bytes (cond b (Slice t.at.index ∷ []) []) ≡ cond b (written_at place bytes ∷ []) []
      one bytes true = ap (λ o. cons_option (option_map (λ r. written_at r bytes) o) []) own.block
      one bytes false = refl

      -- it is written at its place where it doesn't pass there, and there are bytes for it
      writes_are : mending_writes images row.failing t ≡ option_map_or
          (λ bytes. cond (not (is_good images t (Slice t.at.index))) (written_at place bytes ∷ []) []) (accepted images t) []
      writes_are = ap (λ b. cond b (fresh_writes images row.failing t) (block_writes images t)) checked ∙ by (accepted images t)
        where
          by : (o : Option (List ℕ)) → option_map_or (λ bytes. copy_writes t bytes (bad_parts images t)) o []
              ≡ option_map_or (λ bytes. cond (not (is_good images t (Slice t.at.index))) (written_at place bytes ∷ []) []) o []
          by None = refl
          by (Some bytes) = ap (copy_writes t bytes) (bad_are images t in_row.parity) ∙ one bytes (not (is_good images t (Slice t.at.index)))

      -- where it passes nothing is
      good_unwritten : is_good images t (Slice t.at.index) ≡ true → mending_writes images row.failing t ≡ []
      good_unwritten good = writes_are ∙ ap (λ b. option_map_or (λ bytes. cond (not b) (written_at place bytes ∷ []) []) (accepted images t) []) good
          ∙ by (accepted images t)
        where
          by : (o : Option (List ℕ)) → option_map_or (λ bytes. cond (not true) (written_at place bytes ∷ []) []) o [] ≡ []
          by None = refl
          by (Some bytes) = refl

  -- the address at which an element of the row begins
  abbrev base : ℕ → ℕ
  base index = row.chunk.start + (data_count row.chunk.profile (length row.chunk.stripes) * row.number + index) * 65536

  -- where a block of the row has its address
  address : (t : Target) (i : In t row.blocks) → addr_of t.want ≡ base t.at.index + t.at.rest
  address t i =
      let b = of.blocks t i in
      address_is layout t b.is (in_row t i).parity
      ∙ ap (λ (c : Chunk). c.start + (data_count c.profile (length c.stripes) * t.at.row + t.at.index) * 65536 + t.at.rest) b.chunk
      ∙ ap (λ n. row.chunk.start + (data_count row.chunk.profile (length row.chunk.stripes) * n + t.at.index) * 65536 + t.at.rest) b.number

  -- blocks that have a byte in common are the same
  shared : (t u : Target) (i : In t row.blocks) (j : In u row.blocks) (slot off : ℕ) → covers slot off (place t i) ≡ true
      → covers slot off (place u j) ≡ true → t ≡ u
  shared t u i j slot off c d =
      let a = covering slot off (place t i) c in
      let b = covering slot off (place u j) d in
      let apart = elements_apart layout row row (Slice t.at.index) (Slice u.at.index) slot off here.table here.own_slots (own_byte t i slot off c)
      (own_byte u j slot off d) in
      let index = same_index apart.2 in
      let ranges : range_in (own t i).slot (own t i).off 65536 ≡ range_in (own u j).slot (own u j).off 65536 =
      same_Some (range_in (own t i).slot (own t i).off 65536) (range_in (own u j).slot (own u j).off 65536)
      (sym (own t i).element ∙ ap (λ k. range_in_element layout row (Slice k) 0 65536) index ∙ (own u j).element) in
      let begin : (own t i).off ≡ (own u j).off = ap (λ (r : Range). r.off) ranges in
      same_block layout wants 0 t u (off - ((own t i).off + t.at.rest)) (off - ((own u j).off + u.at.rest)) here.apart (among t i) (among u j)
      (omega (arith, a.1, a.2)) (omega (arith, b.1, b.2))
      (same_address (addr_of t.want) (addr_of u.want) (base t.at.index) (base u.at.index) t.at.rest u.at.rest off (own t i).off (own u j).off
      (address t i) (address u j) (ap base index) begin a.1 b.1)

  -- a byte of a block that is written is written for it alone
  written_for : (t : Target) (i : In t row.blocks) (slot off : ℕ) → covers slot off (place t i) ≡ true
      → list_any (covers slot off) (ranges_of (rebuilt_writes images layout row)) ≡ true
      → list_any (covers slot off) (ranges_of (mending_writes images row.failing t)) ≡ true
  written_for t i slot off c h =
      let f = written_by slot off (mending_writes images row.failing) row.blocks h in
      let mine : list_any (covers slot off) (ranges_of (mending_writes images row.failing f.0)) ≡ true =
      any_map (covers slot off) (λ (w : Write). w.range) (mending_writes images row.failing f.0) ∙ f.2 in
      let same = shared t f.0 i f.1 slot off c (written_there f.0 f.1 slot off mine) in
      subst (λ u. list_any (covers slot off) (ranges_of (mending_writes images row.failing u)) ≡ true) (sym same) mine

  -- ---- what stands at a block's own place when the blocks are written

  record Final (t : Target) (i : In t row.blocks) : Type 0 where
    bytes : List ℕ
    long : length bytes ≡ size_of t
    pass : passes t.setting t.want bytes ≡ true
    from : ((mending_writes images row.failing t ≡ []) × (bytes ≡ element images t (Slice t.at.index)))
        ⊎ (mending_writes images row.failing t ≡ written_at (place t i) bytes ∷ [])

  -- a checked block that can be had stands there so
  final : (t : Target) (i : In t row.blocks) → is_plain t.want ≡ false → IsHad images t → FillsPlace images t → Final t i
  final t i checked had fills = by (is_good images t (Slice t.at.index)) refl
    where
      -- some bytes are accepted for it
      some : (bytes : List ℕ) × (accepted images t ≡ Some bytes)
      some = some_of (accepted images t) had

      by : (b : Bool) → is_good images t (Slice t.at.index) ≡ b → Final t i
      by true good = record {
        bytes = element images t (Slice t.at.index);
        long = long_element images layout t (Slice t.at.index) here.lengths (block t i).is (own_stands t i);
        pass = good;
        from = inl (good_unwritten t i checked good, refl);
      }
      by false bad = record {
        bytes = some.0;
        long = fills some.0 some.1;
        pass = accepted_passes images t some.0 some.1;
        from = inr (writes_are t i checked
            ∙ ap (λ b. option_map_or (λ bytes. cond (not b) (written_at (place t i) bytes ∷ []) []) (accepted images t) []) bad
            ∙ ap (λ o. option_map_or (λ bytes. written_at (place t i) bytes ∷ []) o []) some.1);
      }

  module _ (t : Target) (i : In t row.blocks) (f : Final t i) where
    -- so they stand there behind all
    holds : (k : ℕ) → k < size_of t → byte_at after (own t i).slot ((own t i).off + t.at.rest + k) ≡ get_or f.bytes k 0
    holds k lt = by f.from
      where
        -- the image that it lies on
        slot : ℕ
        slot = (own t i).slot

        -- where it begins there
        off : ℕ
        off = (own t i).off + t.at.rest

        -- the byte lies in its place
        there : covers slot (off + k) (place t i) ≡ true
        there = covered slot off (size_of t) (off + k) (omega arith) (omega (arith, lt))

        -- its own write alone covers the byte
        only : mending_writes images row.failing t ≡ written_at (place t i) f.bytes ∷ [] → (v : Write) → In v (rebuilt_writes images layout row)
            → covers slot (off + k) v.range ≡ true → v ≡ written_at (place t i) f.bytes
        only one v j c =
            let u = of_flat (mending_writes images row.failing) v row.blocks j in
            let on = is_any (covers slot (off + k)) v.range (ranges_of (mending_writes images row.failing u.0))
            (in_map (λ (w : Write). w.range) v (mending_writes images row.failing u.0) u.2) c in
            let same = shared t u.0 i u.1 slot (off + k) there (written_there u.0 u.1 slot (off + k) on) in
            elim (subst (In v) one (subst (λ u. In v (mending_writes images row.failing u)) (sym same) u.2)) [ inl e ↦ sym e | inr none ↦ absurd none ]

        by : ((mending_writes images row.failing t ≡ []) × (f.bytes ≡ element images t (Slice t.at.index)))
            ⊎ (mending_writes images row.failing t ≡ written_at (place t i) f.bytes ∷ []) → byte_at after slot (off + k) ≡ get_or f.bytes k 0
        by (inl none) =
            rebuilt_keeps.bytes slot (off + k) (false_from_ne_true (list_any (covers slot (off + k)) (ranges_of (rebuilt_writes images layout row))) (λ e.
            false≢true (subst (λ ws. list_any (covers slot (off + k)) (ranges_of ws) ≡ true) none.0 (written_for t i slot (off + k) there e))))
            ∙ sym (ap (λ xs. get_or xs k 0) (none.1 ∙ element_is images t (Slice t.at.index) (place t i) (own t i).block)
            ∙ at_range (image_of images slot) off (size_of t) k 0 lt)
        by (inr one) =
            let w = written_at (place t i) f.bytes in
            let mine = in_flat (mending_writes images row.failing) t w row.blocks i (subst (In w) (sym one) (inl refl)) in
            stays_brought slot (off + k) w f.long there images (rebuilt_writes images layout row) rebuilt_short (only one) (inr mine)
            ∙ ap (λ j. get_or f.bytes j 0) (omega arith)

    -- so they are its element behind all
    element_after : element after t (Slice t.at.index) ≡ f.bytes
    element_after =
        let slot = (own t i).slot in
        let off = (own t i).off + t.at.rest in
        let image = image_of after slot in
        let fits : off + length f.bytes ≤ length image = omega (arith, place_within t i, rebuilt_keeps.lengths slot, f.long) in
        element_is after t (Slice t.at.index) (place t i) (own t i).block
        ∙ ap (λ n. slice_range image off (off + n)) (sym f.long)
        ∙ range_same image (pasted image off f.bytes) off (off + length f.bytes) fits (length-pasted image off f.bytes fits)
        (λ k from to. ap (λ j. get_or image j 0) (omega (arith, from)) ∙ holds (k - off) (omega (arith, from, to, f.long))
        ∙ sym (pasted-within image off f.bytes fits k 0 from to))
        ∙ range_pasted image off f.bytes fits

  -- where no range covers its place, its element stays
  stays_there : (a b : Images) (ranges : List Range) (t : Target) (i : In t row.blocks) → HaveLengths a layout → KeepsOutside ranges a b
      → ((slot off : ℕ) → covers slot off (place t i) ≡ true → list_any (covers slot off) ranges ≡ true → ⊥)
      → element b t (Slice t.at.index) ≡ element a t (Slice t.at.index)
  stays_there a b ranges t i lengths keeps none =
      same_element a b layout ranges t (Slice t.at.index) lengths (block t i).is keeps
      (λ slot off c. false_from_ne_true (list_any (covers slot off) ranges) (λ e. absurd (none slot off (rw (own t i).block at c) e)))

  -- ---- the first turn

  -- what stands at the place of a checked block that passes there stays
  good_stays : (stored : Images) (t : Target) (i : In t row.blocks) → is_plain t.want ≡ false
      → KeepsOutside (ranges_of (rebuilt_writes images layout row)) images stored
      → is_good images t (Slice t.at.index) ≡ true → is_good stored t (Slice t.at.index) ≡ true
  good_stays stored t i checked keeps good =
      ap (passes t.setting t.want) (stays_there images stored (ranges_of (rebuilt_writes images layout row)) t i here.lengths keeps
      (λ slot off c h. false≢true (subst (λ ws. list_any (covers slot off) (ranges_of ws) ≡ true) (good_unwritten t i checked good)
      (written_for t i slot off c h)))) ∙ good

  -- a way beside the writes gives the same
  way_stays : (stored : Images) (t : Target) (i : In t row.blocks) (h : HasWayBeside images layout row t)
      → KeepsOutside (ranges_of (rebuilt_writes images layout row)) images stored → value_of stored t h.way ≡ value_of images t h.way
  way_stays stored t i h keeps = value_by_ranges stored images t h.way bytes
    where
      -- each range that the way reads has the bytes that it had
      bytes : (range : Range) → Contains (read.ranges_of t h.way) range → bytes_of stored range.slot range.off range.len
          ≡ bytes_of images range.slot range.off range.len
      bytes range c =
          let from = of_filter_map (range_of t) range (parts_read (slice_count t) t.at.index h.way) (in_of range (read.ranges_of t h.way) c) in
          sym (element_is stored t from.0 range from.2)
          ∙ same_element images stored layout (ranges_of (rebuilt_writes images layout row)) t from.0 here.lengths (block t i).is keeps
          (λ slot off d. h.beside range slot off c (subst (λ o. IsSomeAnd o (λ range. covers slot off range ≡ true)) from.2 d))
          ∙ element_is images t from.0 range from.2

  -- wherever the first turn is stopped, each block that withstands it can be had
  first_keeps : (left stored : Images) (waits : List Range) (t : Target) → IsStopped (rebuilt_writes images layout row) images left
      → AreAmong waits (ranges_of (rebuilt_writes images layout row)) → KeepsOutside waits left stored
      → In t row.blocks → Withstands images layout row t → IsHad stored t
  first_keeps left stored waits t stopped among keeps i w =
      let all = keeps_then (ranges_of (rebuilt_writes images layout row)) waits images left stored among
      (stopped_keeps images left (rebuilt_writes images layout row) rebuilt_short stopped) keeps in
      by all w
    where
      by : KeepsOutside (ranges_of (rebuilt_writes images layout row)) images stored → Withstands images layout row t → IsHad stored t
      by all (inl good) = had_by stored t (Read (Slice t.at.index)) (own_candidate t (in_row t i).parity) (ap (λ b. b && true) (own_stands t i))
          (still (is_plain t.want) refl)
        where
          -- it passes at its own place, be it plain or checked
          still : (b : Bool) → is_plain t.want ≡ b → is_good stored t (Slice t.at.index) ≡ true
          still true plain = passes_plain t.setting t.want (element stored t (Slice t.at.index)) plain
          still false checked = good_stays stored t i checked all good
      by all (inr h) = had_by stored t h.way h.there h.stand (ap (passes t.setting t.want) (way_stays stored t i h all) ∙ h.pass)

  -- ---- the second turn

  -- no parity is written over a block
  apart_from_parities : (t : Target) (i : In t row.blocks) (slot off : ℕ) → covers slot off (place t i) ≡ true
      → list_any (covers slot off) (ranges_of (parities_writes images layout row)) ≡ true → ⊥
  apart_from_parities t i slot off c h =
      let f = written_by slot off (parity_writes images layout row) (parities row.chunk.profile) h in
      let q = parity_has row.chunk.profile (length row.chunk.stripes) f.0 here.is_row.parity f.1 in
      let e = elements_apart layout row row (Slice t.at.index) f.0 slot off here.table here.own_slots (own_byte t i slot off c)
      (written_parity layout row here.table of.is images f.0 slot off q.0 f.2) in
      elim q.1 [
        | inl p ↦ let no : Slice t.at.index ≡ P = e.2 ∙ p in cc
        | inr p ↦ let no : Slice t.at.index ≡ Q = e.2 ∙ p in cc
      ]

  -- wherever the second turn is stopped, a checked block passes at its place
  checked_keeps : (left stored : Images) (waits : List Range) (t : Target) → IsStopped (parities_writes images layout row) after left
      → AreAmong waits (ranges_of (parities_writes images layout row)) → KeepsOutside waits left stored
      → (i : In t row.blocks) → is_plain t.want ≡ false → IsHad images t → FillsPlace images t → is_good stored t (Slice t.at.index) ≡ true
  checked_keeps left stored waits t stopped among keeps i checked had fills =
      let f = final t i checked had fills in
      let short = short_after images after (parities_writes images layout row) rebuilt_keeps.lengths parities_short in
      let all = keeps_then (ranges_of (parities_writes images layout row)) waits after left stored among
      (stopped_keeps after left (parities_writes images layout row) short stopped) keeps in
      ap (passes t.setting t.want) (stays_there after stored (ranges_of (parities_writes images layout row)) t i
      (λ devid device e. rebuilt_keeps.lengths device.slot ∙ here.lengths devid device e) all (apart_from_parities t i) ∙ element_after t i f) ∙ f.pass

  -- so each block can be had that could be
  second_keeps : (left stored : Images) (waits : List Range) (t : Target) → IsStopped (parities_writes images layout row) after left
      → AreAmong waits (ranges_of (parities_writes images layout row)) → KeepsOutside waits left stored
      → In t row.blocks → IsHad images t → FillsPlace images t → is_good stored t (Slice t.at.index) ≡ true
  second_keeps left stored waits t stopped among keeps i had fills = by (is_plain t.want) refl
    where
      by : (b : Bool) → is_plain t.want ≡ b → is_good stored t (Slice t.at.index) ≡ true
      by true plain = passes_plain t.setting t.want (element stored t (Slice t.at.index)) plain
      by false checked = checked_keeps left stored waits t stopped among keeps i checked had fills

-- while the blocks of a row are written, each that withstands it can be had, whatever stands in the ranges that wait for a sync
pub first_turn_keeps_blocks : FirstTurnKeepsBlocks
first_turn_keeps_blocks images left stored layout wants row waits t here stopped among keeps i w = first_keeps images layout wants row here left
    stored waits t stopped among keeps i w

-- while its parities are written behind them, each that could be had and fills its place passes there, whatever waits for a sync
pub second_turn_keeps_blocks : SecondTurnKeepsBlocks
second_turn_keeps_blocks images left stored layout wants row waits t here stopped among keeps i had fills = second_keeps images layout wants row here
    left stored waits t stopped among keeps i had fills
