-- Whatever stands in the ranges of the writes, each checked block can be had.
use Rattle.std.proofs.Common.{◌≡◌, ◌⊎◌, ℕ, ◌+◌, ◌*◌, ◌<◌, ◌≤◌, Bool, true, false, not, cond, ◌&&◌, ◌||◌, eqb, List, [], ◌∷◌, map, slice_get, Option, Some, None}
use Rattle.std.proofs.Common.{is_some, IsSome, IsSomeAnd, refl, sym, ap, ◌∙◌, subst, inl, inr, arith, Result, Ok, Err}
use Rattle.btr_scrub.proofs.Common.{AreApart, Candidate, Elements, Failing, Fault, HaveLengths, HaveOwnSlots, Images, In, IsSought, IsTable, KeepsOutside}
use Rattle.btr_scrub.proofs.Common.{Layout, Mirror, Part, Range, Read, Target, Want, Write, accepted, addr_of, all_writes_for, and_from, bad_parts, candidates}
use Rattle.btr_scrub.proofs.Common.{cons_option, eq-eqb, false_from_ne_true, false≢true, first_missing, fresh, has_mirror, in_below, is_in_row, is_plain}
use Rattle.btr_scrub.proofs.Common.{is_sound, len_of, list_any, mending_writes, mirrors, new_bytes, not-true, ok_or_none, option_map, or_parts, own_parts}
use Rattle.btr_scrub.proofs.Common.{passing_filter, place_at, range_of, range_with_len, renewed, row_of, row_writes, same_Some, size_of, sought, sought_of}
use Rattle.btr_scrub.proofs.Common.{stale_parts, stands, stripe_length, targets, value_of, wrong_parts}
use Rattle.std.proofs.lemmas.Bool.{both_ways}
use Rattle.btr_chunk.specs.Apart.{IsOfCopy}
use Rattle.btr_chunk.proofs.Apart.{copies_apart}
use Rattle.btr_read.specs.Candidates.{element}
use Rattle.btr_read.proofs.Order.{in_candidates, in_ways, with_copies}
use Rattle.btr_scrub_copies.specs.Fresh.{first_trusted, is_on_doubtful, reads_doubtful}
use Rattle.btr_scrub.specs.Repair.{covers}
use Rattle.btr_scrub.specs.Right.{Committed, HasFewWrongAt, HasRightPlace, StandsFor}
use Rattle.btr_scrub.specs.Staying.{AvoidRight, IsInCopies, IsInWrong}
use Rattle.btr_scrub.proofs.AcrossChunks.{copy_in_chunk, element_in_chunk, one_chunk, row_is, ForCopies, ForRow, for_one}
use Rattle.btr_scrub.proofs.Agreeing.{IsTrusted, stale_at, trusted_from}
use Rattle.btr_scrub.proofs.Blockwise.{all_behind, of_targets, part_is_given, target_sought}
use Rattle.btr_scrub.proofs.CopyWrites.{same_element, written_byte}
use Rattle.btr_scrub.proofs.OwnPlaces.{own_copies, over_byte, wrong_own}
use Rattle.btr_scrub.proofs.Lists.{any_in, in_any, in_map, of_mapped, in_filter, some_of, any_map, any_is, is_any}
use Rattle.btr_scrub.proofs.Positions.{IsCopyByte, copy_of_range, is_of_copy, of_range, shares}
use Rattle.btr_scrub.proofs.RowWrites.{written_row}
use Rattle.btr_scrub.proofs.RowNumbers.{IsWholeChunk, row_fits}
use Rattle.btr_scrub.proofs.SoundRows.{CanBeHad, is_row, right_is_sound, right_passes, right_there, sound_row}
use Rattle.btr_scrub.proofs.Staying.{row_outlives_writes}
use Rattle.btr_scrub.proofs.Writes.{row_writes_are_wrong}
use Rattle.btr_scrub.proofs.Inert.{sure_device}

-- blocks that are apart and have an address in common are the same
pub same_block : (layout : Layout) (wants : List Want) (end : ℕ) (t u : Target) (one other : ℕ) → AreApart layout end wants
    → In t (targets layout wants) → In u (targets layout wants) → one < size_of t → other < size_of u → addr_of t.want + one ≡ addr_of u.want + other → t ≡ u
same_block layout [] end t u one other apart i j lt below same = absurd i
same_block layout (w ∷ ws) end t u one other apart i j lt below same = by (sought layout w) refl i j
    (λ k l. same_block layout ws (addr_of w + len_of layout.setting w) t u one other apart.2 k l lt below same)
  where
    -- the first ends before the others
    before : (v x : Target) → sought layout w ≡ Ok v → In x (targets layout ws) → addr_of v.want + size_of v ≤ addr_of x.want
    before v x s k =
        let o = of_targets layout x ws k in
        let first = sought_of layout w v s in
        let begin : addr_of v.want ≡ addr_of w = ap addr_of first.want_is in
        let size : size_of v ≡ len_of layout.setting w = ap (λ g. len_of g v.want) first.setting_is ∙ ap (len_of layout.setting) first.want_is in
        omega (arith, begin, size, all_behind layout (addr_of w + len_of layout.setting w) ws apart.2 o.0 o.1, ap addr_of (sought_of layout o.0 x o.2).want_is)

    by : (r : Result Target Fault) → sought layout w ≡ r → In t (cons_option (ok_or_none r) (targets layout ws))
        → In u (cons_option (ok_or_none r) (targets layout ws)) → (In t (targets layout ws) → In u (targets layout ws) → t ≡ u) → t ≡ u
    by (Err f) s i j rest = rest i j
    by (Ok v) s (inl e) (inl f) rest = sym e ∙ f
    by (Ok v) s (inl e) (inr j) rest = absurd (omega (arith, same, lt, subst (λ (x : Target). addr_of x.want + size_of x ≤ addr_of u.want) e (before v u s j)))
    by (Ok v) s (inr i) (inl f) rest = absurd (omega (
      arith,
      same,
      below,
      subst (λ (x : Target). addr_of x.want + size_of x ≤ addr_of t.want) f (before v t s i),
    ))
    by (Ok v) s (inr i) (inr j) rest = rest i j

-- a byte of a block is of one copy
same_copy : (layout : Layout) (t : Target) (slot off : ℕ) → IsTable layout.chunks → HaveOwnSlots layout.devices → (is : IsSought layout t)
    → (b c : IsCopyByte layout t slot off) → b.copy ≡ c.copy
same_copy layout t slot off table own is b c =
    let p = place_at t.chunk (Mirror b.copy) t.at in
    let q = place_at t.chunk (Mirror c.copy) t.at in
    let devid : p.devid ≡ q.devid = own p.devid q.devid b.device c.device b.given c.given (b.same_slot ∙ sym c.same_slot) in
    (copies_apart layout.chunks (record { devid = p.devid; offset = off }) is.number is.number b.copy c.copy (addr_of t.want + b.behind)
    (addr_of t.want + c.behind) table (is_of_copy layout t slot off table is b)
    (subst (λ d. IsOfCopy layout.chunks (record { devid = d; offset = off }) is.number c.copy (addr_of t.want + c.behind)) (sym devid)
    (is_of_copy layout t slot off table is c))).1

module _ (kept : Failing) (images : Images) (layout : Layout) (wants : List Want) (table : IsTable layout.chunks)
    (own : HaveOwnSlots layout.devices) (none : first_missing layout ≡ None) (lengths : HaveLengths images layout) (apart : AreApart layout 0 wants) where
  -- the blocks and plain sectors of the wants that have a position
  abbrev ts : List Target
  ts = targets layout wants

  -- all that is written for the wants
  abbrev ws : List Write
  ws = all_writes_for kept layout layout.chunks wants images

  -- the ranges of what is written
  abbrev ranges : List Range
  ranges = map (λ (w : Write). w.range) ws

  -- a write covers a byte
  abbrev covered_at : ℕ → ℕ → Write → Bool
  covered_at slot off w = covers slot off w.range

  -- ---- what a byte is written for

  -- a byte of what is written is so for a block with copies, or for a full stripe
  for_what : (slot off : ℕ) → list_any (covers slot off) ranges ≡ true → (w : Write) × (covers slot off w.range ≡ true)
      × (ForCopies kept images layout wants w ⊎ ForRow kept images layout wants w)
  for_what slot off h =
      let f = any_is (covered_at slot off) ws (sym (any_map (covers slot off) (λ (w : Write). w.range) ws) ∙ h) in
      (f.0, f.2, for_one kept layout table own none wants images f.0 f.1)

  -- ---- writes for copies leave all else

  -- what is written for a block with copies lies in its copies
  in_copies : (slot off : ℕ) (w : Write) → covers slot off w.range ≡ true → ForCopies kept images layout wants w → IsInCopies layout slot off
  in_copies slot off w on c =
      let b = copy_in_chunk layout c.block slot off table c.is
      (written_byte kept images layout lengths c.block c.is c.copies c.has slot off
      (is_any (covered_at slot off) w (mending_writes images kept c.block) c.written on)) in
      let same : c.block.chunk ≡ b.lies.chunk = same_Some c.block.chunk b.lies.chunk (sym c.is.there ∙ b.lies.there) in
      record {
        devid = b.devid;
        device = b.device;
        given = b.given;
        same_slot = b.same_slot;
        number = c.is.number;
        stripe = b.stripe;
        lies = b.lies;
        copies = ap (λ k. is_some (mirrors k)) (sym same) ∙ ap is_some c.has;
      }

  -- ---- blocks and plain sectors with copies

  module _ (t : Target) (among : In t ts) (is : IsSought layout t) (n : ℕ) (has : mirrors t.chunk ≡ Some n) where
    -- nothing is wrong at a copy, where the block gets bytes
    abbrev IsUnwritten : ℕ → Type 0
    IsUnwritten k = (bytes : List ℕ) → new_bytes images kept t ≡ Some bytes → In (Mirror k) (wrong_parts images kept t) → ⊥

    -- a byte in the range of such a copy
    module _ (k : ℕ) (lt : k < n) (never : IsUnwritten k) (range : Range) (whole : range_of t (Mirror k) ≡ Some range)
        (slot off : ℕ) (c : covers slot off range ≡ true) where
      -- it is a byte of the block's copies
      abbrev byte : IsCopyByte layout t slot off
      byte = of_range layout t k slot off range is (has_mirror t n k has lt) whole c

      -- a part of the block's own that has this byte is this copy
      this_copy : (part : Part) → In part (own_parts t) → (other : Range) → range_of t part ≡ Some other → covers slot off other ≡ true → part ≡ Mirror k
      this_copy part mine other at there =
          let j = of_mapped Mirror part (range_with_len 0 n) (subst (In part) (own_copies t n has) mine) in
          let mirror = has_mirror t n j.0 has (in_below n j.0 j.1) in
          let at_j : range_of t (Mirror j.0) ≡ Some other = ap (range_of t) j.2 ∙ at in
          let same : j.0 ≡ k = sym (copy_of_range layout t j.0 slot off other is mirror at_j there)
          ∙ same_copy layout t slot off table own is (of_range layout t j.0 slot off other is mirror at_j there) byte
          ∙ copy_of_range layout t k slot off range is (has_mirror t n k has lt) whole c in
          sym j.2 ∙ ap Mirror same

      -- so it isn't written for the block itself
      not_own : list_any (covered_at slot off) (mending_writes images kept t) ≡ true → ⊥
      not_own h =
          let o = over_byte images kept t slot off h in
          let same = this_copy o.2.part (wrong_own images kept t o.2.part o.2.wrong) o.0.range o.2.range o.1 in
          never o.0.bytes o.2.gets (subst (λ part. In part (wrong_parts images kept t)) same o.2.wrong)

      -- nor for any other
      not_written : (w : Write) → covers slot off w.range ≡ true → ForCopies kept images layout wants w ⊎ ForRow kept images layout wants w → ⊥
      not_written w on (inl f) =
          let written = is_any (covered_at slot off) w (mending_writes images kept f.block) f.written on in
          let s = shares layout t f.block slot off table own is f.is byte
          (written_byte kept images layout lengths f.block f.is f.copies f.has slot off written) in
          let same : t ≡ f.block = same_block layout wants 0 t f.block s.one s.other apart among f.among s.below s.under s.same in
          not_own (subst (λ u. list_any (covered_at slot off) (mending_writes images kept u) ≡ true) (sym same) written)
      not_written w on (inr f) =
          let row = row_of kept ts f.chunk f.row in
          let of = row_is f.whole kept wants f.row f.inside in
          let w = written_row layout row table of.is images slot off of.blocks (is_any (covered_at slot off) w (row_writes images layout row) f.written on) in
          let number : is.number ≡ w.1.number =
          one_chunk layout is.number w.1.number slot off table own (copy_in_chunk layout t slot off table is byte)
          (element_in_chunk layout row w.0 slot off table w.1) in
          let chunk : t.chunk ≡ f.chunk = same_Some t.chunk f.chunk (sym is.there ∙ ap (slice_get layout.chunks) number ∙ w.1.there) in
          false≢true (sym (ap is_some f.whole.of.parity) ∙ ap (λ k. is_some (mirrors k)) (sym chunk) ∙ ap is_some has)

      -- so nothing is written there
      free : list_any (covers slot off) ranges ≡ false
      free = false_from_ne_true (list_any (covers slot off) ranges) (λ e. let f = for_what slot off e in absurd (not_written f.0 f.1 f.2))

    -- so the copy stays
    stays : (k : ℕ) → k < n → IsUnwritten k → (left : Images) → KeepsOutside ranges images left → element left t (Mirror k) ≡ element images t (Mirror k)
    stays k lt never left keeps = same_element images left layout ranges t (Mirror k) lengths is keeps (λ slot off. by slot off (range_of t (Mirror k)) refl)
      where
        by : (slot off : ℕ) (o : Option Range) → range_of t (Mirror k) ≡ o → IsSomeAnd o (λ range. covers slot off range ≡ true)
            → list_any (covers slot off) ranges ≡ false
        by slot off None whole c = absurd c
        by slot off (Some range) whole c = free k lt never range whole slot off c

    module _ (sector : is_plain t.want ≡ true) where
      -- a copy of a plain sector on an image that isn't in doubt isn't either
      not_freshened : (k : ℕ) → is_on_doubtful kept t (Mirror k) ≡ false → IsUnwritten k
      not_freshened k sure bytes gets i = false≢true (sym (sure_device kept t.devices (place_at t.chunk (Mirror k) t.at).devid sure)
          ∙ (stale_at kept images t (Mirror k) (subst (λ b. In (Mirror k) (cond b (stale_parts images kept t) (bad_parts images t))) sector i)).behind)

      -- so its fresh bytes stay
      fresh_stays : (left : Images) → KeepsOutside ranges images left → fresh left kept t ≡ fresh images kept t
      fresh_stays left keeps = by (first_trusted kept t) refl
        where
          -- a candidate that is trusted gives the same in what is left
          same : (c : Candidate) → IsTrusted kept t c → value_of left t c ≡ value_of images t c
          same c trusted =
              let j = of_mapped (λ copy. Read (Mirror copy)) c (range_with_len 0 n) (subst (In c) (with_copies t n has) (in_ways t c trusted.there)) in
              let sure : (is_on_doubtful kept t (Mirror j.0) || false) ≡ false = ap (reads_doubtful kept t) j.2 ∙ trusted.sure in
              subst (λ d. value_of left t d ≡ value_of images t d) j.2 (stays j.0 (in_below n j.0 j.1)
              (not_freshened j.0 (or_parts (is_on_doubtful kept t (Mirror j.0)) false sure).0) left keeps)

          by : (o : Option Candidate) → first_trusted kept t ≡ o → option_map (value_of left t) o ≡ option_map (value_of images t) o
          by None e = refl
          by (Some c) e = ap Some (same c (trusted_from kept t c e))

  -- ---- all plain sectors with copies

  -- the fresh bytes of a sector without a checksum that has copies stay
  pub fresh_outlives : (left : Images) (t : Target) → In t ts → is_plain t.want ≡ true → IsSome (mirrors t.chunk) → KeepsOutside ranges images left
      → fresh left kept t ≡ fresh images kept t
  fresh_outlives left t among sector copies keeps =
      let n = some_of (mirrors t.chunk) copies in
      fresh_stays t among (target_sought layout wants t among) n.0 n.1 sector left keeps

  -- ---- blocks that can be had

  module _ (C : Committed) (had : CanBeHad kept images layout C wants) where
    -- what is written for a full stripe lies where it is wrong
    in_wrong : (slot off : ℕ) (w : Write) → covers slot off w.range ≡ true → ForRow kept images layout wants w → IsInWrong images layout C kept ts slot off
    in_wrong slot off w on f =
        let row = row_of kept ts f.chunk f.row in
        row_writes_are_wrong images layout C kept ts row slot off table (is_row had lengths apart f.whole f.row f.inside)
        (sound_row had lengths apart f.whole f.row f.inside) (right_there had lengths apart f.whole f.row f.inside)
        (any_map (covers slot off) (λ (w : Write). w.range) (row_writes images layout row)
        ∙ is_any (covered_at slot off) w (row_writes images layout row) f.written on)

    -- all that is written avoids what is right
    avoid : AvoidRight images layout C kept ts ranges
    avoid slot off h = let f = for_what slot off h in elim f.2 [ inl c ↦ inr (in_copies slot off f.0 f.1 c) | inr r ↦ inl (in_wrong slot off f.0 f.1 r) ]

    module _ (t : Target) (among : In t ts) (is : IsSought layout t) (checked : is_plain t.want ≡ false) where
      -- ---- blocks of full stripes

      -- where it can be spared it can be had
      row_outlives : mirrors t.chunk ≡ None → HasRightPlace images C t ⊎ HasFewWrongAt images layout C (row_of kept ts t.chunk t.at.row) t → (left : Images)
          → KeepsOutside ranges images left → StandsFor left C t
      row_outlives parity spared left keeps =
          let whole : IsWholeChunk layout is.number t.chunk =
          record { of = record { table = table; there = is.there; parity = parity }; own = own; given = none } in
          let fits : t.at.row * 65536 + 65536 ≤ stripe_length t.chunk =
          omega (arith, row_fits whole.of (addr_of t.want) is.held, ap (λ (e : Elements). e.row) is.at) in
          let mine = in_filter (is_in_row t.chunk t.at.row) t ts among
          (and_from (eqb t.chunk.start t.chunk.start) (eqb t.at.row t.at.row) (eq-eqb t.chunk.start t.chunk.start refl) (eq-eqb t.at.row t.at.row refl)) in
          row_outlives_writes images left layout C kept ts (row_of kept ts t.chunk t.at.row) ranges t table own lengths
          (is_row had lengths apart whole t.at.row fits) avoid keeps (sound_row had lengths apart whole t.at.row fits)
          (right_passes had t is) spared mine checked

      -- ---- blocks with copies

      module _ (n : ℕ) (has : mirrors t.chunk ≡ Some n) where
        -- a right copy isn't written
        not_mended : (k : ℕ) → C t.want ≡ Some (element images t (Mirror k)) → IsUnwritten t among is n has k
        not_mended k right bytes gets i =
            let bad : In (Mirror k) (bad_parts images t) = subst (λ b. In (Mirror k) (cond b (stale_parts images kept t) (bad_parts images t))) checked i in
            let accepts : accepted images t ≡ Some bytes = sym (ap (λ b. cond b (renewed images kept t) (accepted images t)) checked) ∙ gets in
            both_ways (is_sound images t (Mirror k)) (not-true (is_sound images t (Mirror k))
            (passing_filter (λ part. not (is_sound images t part)) (Mirror k) (own_parts t) bad).1)
            (right_is_sound had t among checked is (Mirror k) bytes accepts right)

        -- so it can be had, where a place of its own is right
        copies_outlive : HasRightPlace images C t → (left : Images) → KeepsOutside ranges images left → StandsFor left C t
        copies_outlive right_copy left keeps =
            let a = in_any (λ part. C t.want ≡ Some (element images t part)) (own_parts t) right_copy in
            let j = of_mapped Mirror a.0 (range_with_len 0 n) (subst (In a.0) (own_copies t n has) a.1) in
            let lt = in_below n j.0 j.1 in
            let right : C t.want ≡ Some (element images t (Mirror j.0)) = a.2 ∙ ap (λ part. Some (element images t part)) (sym j.2) in
            let given = part_is_given layout t (Mirror j.0) table is (has_mirror t n j.0 has lt) none in
            any_in (λ c. (stands t c ≡ true) × (C t.want ≡ Some (value_of left t c))) (candidates t) (Read (Mirror j.0))
            (in_candidates t (Read (Mirror j.0)) (subst (In (Read (Mirror j.0))) (sym (with_copies t n has))
            (in_map (λ copy. Read (Mirror copy)) j.0 (range_with_len 0 n) j.1)))
            (ap (λ b. b && true) given, right ∙ ap Some (sym (stays t among is n has j.0 lt (not_mended j.0 right) left keeps)))

    -- ---- all blocks

    -- a checked block that can be spared can be had
    pub block_outlives : (left : Images) (t : Target) → In t ts → is_plain t.want ≡ false
        → HasRightPlace images C t ⊎ ((mirrors t.chunk ≡ None) × HasFewWrongAt images layout C (row_of kept ts t.chunk t.at.row) t)
        → KeepsOutside ranges images left → StandsFor left C t
    block_outlives left t among checked spared keeps = by (mirrors t.chunk) refl spared
      where
        -- its position is that of its address
        is : IsSought layout t
        is = target_sought layout wants t among

        by : (o : Option ℕ) → mirrors t.chunk ≡ o
            → HasRightPlace images C t ⊎ ((mirrors t.chunk ≡ None) × HasFewWrongAt images layout C (row_of kept ts t.chunk t.at.row) t) → StandsFor left C t
        by None parity (inl right) = row_outlives t among is checked parity (inl right) left keeps
        by None parity (inr few) = row_outlives t among is checked parity (inr few.1) left keeps
        by (Some n) has (inl right) = copies_outlive t among is checked n has right left keeps
        by (Some n) has (inr few) = absurd (false≢true (sym (ap is_some few.0) ∙ ap is_some has))
