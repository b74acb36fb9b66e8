-- The full stripes of a filesystem of which it is known what was committed: their blocks are apart, and what these get is right.
use Rattle.std.proofs.Common.{◌≡◌, ℕ, ◌+◌, ◌-◌, ◌*◌, ◌/◌, ◌%◌, ◌≤◌, nat_lt, Bool, true, false, cond, eqb, List, [], ◌∷◌, length, All, Option, Some, None}
use Rattle.std.proofs.Common.{IsSome, IfSome, Result, Ok, Err, IsOk, refl, sym, ap, ◌∙◌, subst, inl, inr, arith}
use Rattle.btr_scrub.proofs.Common.{AreApart, Chunk, Elements, Failing, Fault, HasPart, HaveLengths, Images, In, IsInRow, IsSlice, IsSought, IsSoundRow, Layout}
use Rattle.btr_scrub.proofs.Common.{LiesInRow, Part, Row, Target, Want, accepted, addr_of, all_at, blocks_at, cons_option, data_count, eqb-true, false≢true}
use Rattle.btr_scrub.proofs.Common.{filter, fresh, is_good, is_in_row, is_plain, is_sound, is_striped, len_of, mirrors, ok_or_none, passes, renewed, right_for}
use Rattle.btr_scrub.proofs.Common.{row_of, same_Some, size_of, sought, sought_of, stale_parts, stripe_length, targets, without_copies}
use Rattle.std.proofs.Math.Nat.{div-add-mod}
use Rattle.btr_read.specs.Candidates.{element}
use Rattle.btr_read.specs.Fate.{passing, passing_for}
use Rattle.btr_scrub_copies.proofs.Firsts.{sound_place}
use Rattle.btr_scrub_row.specs.Rows as rows
use Rattle.btr_scrub.specs.Right.{AllPass, AreBytes, Committed, IsHonest}
use Rattle.btr_scrub.specs.Staying.{IsRowOf}
use Rattle.btr_scrub.specs.Survival.{AcceptsRight, AreBehind, GetsRight, RightPasses}
use Rattle.btr_scrub.proofs.AcrossChunks.{OfRows, row_is}
use Rattle.btr_scrub.proofs.Blockwise.{of_targets}
use Rattle.btr_scrub.proofs.Lists.{in_filter, some_of, first_in, in_more}
use Rattle.btr_scrub.proofs.Positions.{bounds_of}
use Rattle.btr_chunk.proofs.Bytes.{striped-position}
use Rattle.btr_scrub.proofs.RowWrites.{IsBlockOf, block_in_row, block_lies, no_copies}
use Rattle.btr_scrub.proofs.Survival.{elements_are_slices, of_filter}
use Rattle.btr_scrub.proofs.CopyWrites.{fresh_from}
use Rattle.btr_scrub.proofs.Elements.{block_of_element}
use Rattle.btr_scrub.proofs.RowValues.{value_whole}
use Rattle.btr_scrub.proofs.Stripes.{slice_of_slice}
use Rattle.btr_scrub.proofs.RowNumbers.{IsWholeChunk}

-- what is known of what was committed of the checked blocks of some wants
pub record CanBeHad (kept : Failing) (images : Images) (layout : Layout) (C : Committed) (wants : List Want) : Type 0 where
  pub bytes : AreBytes images
  pub pass : AllPass layout C
  pub honest : IsHonest images layout C
  pub committed : (t : Target) → In t (targets layout wants) → is_plain t.want ≡ false → IsSome (C t.want)
  pub slices : (t : Target) → In t (targets layout wants) → is_plain t.want ≡ false → IfSome (C t.want) (IsSlice (size_of t))

-- ---- the blocks of a slice

-- where a chunk with parity has a block: behind the slices before its own
pub address_is : (layout : Layout) (t : Target) → IsSought layout t → mirrors t.chunk ≡ None
    → addr_of t.want ≡ t.chunk.start + (data_count t.chunk.profile (length t.chunk.stripes) * t.at.row + t.at.index) * 65536 + t.at.rest
address_is layout t is parity =
    let k = data_count t.chunk.profile (length t.chunk.stripes) in
    let o = addr_of t.want - t.chunk.start in
    let striped : is_striped t.chunk.profile ≡ true =
    elim (without_copies t.chunk.profile (length t.chunk.stripes) parity) [ inl five ↦ ap is_striped five | inr six ↦ ap is_striped six ] in
    let at = is.at ∙ striped-position t.chunk (addr_of t.want) striped in
    let from = (bounds_of t.chunk (addr_of t.want) is.held).0 in
    let whole : k * t.at.row + t.at.index ≡ o / 65536 = ap (λ (e : Elements). k * e.row + e.index) at ∙ div-add-mod (o / 65536) k in
    let rest : t.at.rest ≡ o % 65536 = ap (λ (e : Elements). e.rest) at in
    omega (arith, whole, rest, from)

-- those of blocks that are apart which pass two tests, and lie in one slice, are apart there
module _ (layout : Layout) (p q : Target → Bool) (base : ℕ) where
  -- a block that passes both tests has its address at its place in the slice, from a base on
  abbrev AreAt : List Target → Type 0
  AreAt ts = (t : Target) → In t ts → p t ≡ true → q t ≡ true → addr_of t.want ≡ base + t.at.rest

  -- one more, before others
  module _ (w : Want) (ws : List Want) (end e : ℕ) (apart : AreApart layout end (w ∷ ws)) (from : e ≤ end - base)
      (at : AreAt (targets layout (w ∷ ws)))
      (rest : (f : ℕ) → f ≤ addr_of w + len_of layout.setting w - base → AreBehind f (filter q (filter p (targets layout ws)))) where
    module _ (t : Target) (s : sought layout w ≡ Ok t) where
      -- where it passes the first test, it is apart with those behind it, whether it passes the second or not
      and : (c : Bool) → p t ≡ true → q t ≡ c → AreBehind e (cond c (t ∷ filter q (filter p (targets layout ws))) (filter q (filter p (targets layout ws))))
      and true pe qe =
          let o = sought_of layout w t s in
          let size : size_of t ≡ len_of layout.setting w = ap (λ g. len_of g t.want) o.setting_is ∙ ap (len_of layout.setting) o.want_is in
          let a = at t (subst (λ r. In t (cons_option (ok_or_none r) (targets layout ws))) (sym s) (inl refl)) pe qe in
          (omega (arith, from, apart.0, a, ap addr_of o.want_is), rest (t.at.rest + size_of t) (omega (arith, a, size, ap addr_of o.want_is)))
      and false pe qe = rest e (omega (arith, from, apart.0))

      -- so it is whether it passes the first test or not
      or : (b : Bool) → p t ≡ b → AreBehind e (filter q (cond b (t ∷ filter p (targets layout ws)) (filter p (targets layout ws))))
      or true pe = and (q t) pe refl
      or false pe = rest e (omega (arith, from, apart.0))

    -- so it is with the want, which has a position
    of_sought : (r : Result Target Fault) → sought layout w ≡ r → AreBehind e (filter q (filter p (cons_option (ok_or_none r) (targets layout ws))))
    of_sought (Err f) s = absurd (false≢true (subst IsOk s apart.1))
    of_sought (Ok t) s = or t s (p t) refl

  -- so are all of a list
  pub apart_behind : (wants : List Want) (end e : ℕ) → AreApart layout end wants → e ≤ end - base → AreAt (targets layout wants)
      → AreBehind e (filter q (filter p (targets layout wants)))
  apart_behind [] end e apart from at = tt
  apart_behind (w ∷ ws) end e apart from at =
      of_sought w ws end e apart from at (λ f g. apart_behind ws (addr_of w + len_of layout.setting w) f apart.2 g
      (λ u i pe qe. at u (in_more (ok_or_none (sought layout w)) u (targets layout ws) i) pe qe)) (sought layout w) refl

-- ---- the row of a number

module _ {kept : Failing} {images : Images} {layout : Layout} {C : Committed} {wants : List Want} (had : CanBeHad kept images layout C wants) where
  -- committed bytes of a block pass
  pub right_passes : (t : Target) → IsSought layout t → RightPasses C t
  right_passes t is = subst (λ s. IfSome (C t.want) (λ bytes. passes s t.want bytes ≡ true)) (sym is.setting) (had.pass t.want)

  -- what is accepted for a block is committed
  pub accepts_right : (t : Target) → In t (targets layout wants) → is_plain t.want ≡ false → AcceptsRight images C t
  accepts_right t among checked = by (accepted images t) refl
    where
      by : (o : Option (List ℕ)) → accepted images t ≡ o → IfSome o (λ bytes. C t.want ≡ Some bytes)
      by None e = tt
      by (Some x) e =
          let b = some_of (C t.want) (had.committed t among checked) in
          let w = of_targets layout t wants among in
          let of = sought_of layout w.0 t w.2 in
          let same : C w.0 ≡ Some b.0 = ap C (sym of.want_is) ∙ b.1 in
          let all : All (λ other. other ≡ b.0) (passing_for images (sought layout w.0)) =
          subst (λ o. IfSome o (λ bytes. All (λ other. other ≡ bytes) (passing_for images (sought layout w.0)))) same (had.honest w.0) in
          let mine : All (λ other. other ≡ b.0) (passing images t) = subst (λ r. All (λ other. other ≡ b.0) (passing_for images r)) w.2 all in
          b.1 ∙ ap Some (sym (all_at (λ other. other ≡ b.0) (passing images t) x mine (first_in (passing images t) x e)))

  -- a place of a block that has the committed bytes is sound, where anything is accepted
  pub right_is_sound : (t : Target) → In t (targets layout wants) → is_plain t.want ≡ false → IsSought layout t → (q : Part) (bytes : List ℕ)
      → accepted images t ≡ Some bytes → C t.want ≡ Some (element images t q) → is_sound images t q ≡ true
  right_is_sound t among checked is q bytes e right =
      let committed : C t.want ≡ Some bytes = subst (λ o. IfSome o (λ bytes. C t.want ≡ Some bytes)) e (accepts_right t among checked) in
      let good : is_good images t q ≡ true = subst (λ o. IfSome o (λ bytes. passes t.setting t.want bytes ≡ true)) right (right_passes t is) in
      sound_place images t q bytes e good (same_Some (element images t q) bytes (sym right ∙ committed))

  module _ (lengths : HaveLengths images layout) (apart : AreApart layout 0 wants) {number : ℕ} {chunk : Chunk} (s : IsWholeChunk layout number chunk)
      (r : ℕ) (inside : r * 65536 + 65536 ≤ stripe_length chunk) where
    -- the full stripe with this number
    abbrev row : Row
    row = row_of kept (targets layout wants) chunk r

    -- it is one of the chunk's, and its blocks lie in it
    of : OfRows layout number row
    of = row_is s kept wants r inside

    -- it is a row of the layout
    pub is_row : IsRowOf layout kept (targets layout wants) row
    is_row = record { number = of.is.chunk_number; there = of.is.there; parity = of.is.parity; position = of.is.position; made = refl; beside = refl }

    -- the blocks of a slice are apart
    spaced : (i : ℕ) → AreBehind 0 (blocks_at row i)
    spaced i =
        let k = data_count chunk.profile (length chunk.stripes) in
        apart_behind layout (is_in_row chunk r) (λ t. eqb t.at.index i) (chunk.start + (k * r + i) * 65536) wants 0 0 apart (omega arith) (λ t among mine at.
        let b = of.blocks t (in_it t among mine) in
        address_is layout t b.is (no_copies layout row s.of.table of.is t b)
        ∙ rw (b.chunk, b.number, eqb-true t.at.index i at))
      where
        -- a block of the wants that lies in this full stripe is one of its blocks
        in_it : (t : Target) → In t (targets layout wants) → is_in_row chunk r t ≡ true → In t row.blocks
        in_it t among mine = in_filter (is_in_row chunk r) t (targets layout wants) among mine

    -- ---- one block of it

    module _ (t : Target) (i : In t row.blocks) where
      -- the block lies in the row
      b : IsBlockOf layout row t
      b = of.blocks t i

      -- it is one of the wants' blocks
      among : In t (targets layout wants)
      among = of_filter (is_in_row chunk r) t (targets layout wants) i

      -- its chunk has parity, and its place is one of a full stripe
      in_row : IsInRow t
      in_row = block_in_row layout row s.of.table of.is t b

      -- it lies in an element of the row
      lies : LiesInRow layout row t
      lies = block_lies layout row s.of.table of.is t b

      -- what is in its place in an element is a slice
      piece : (q : Part) → HasPart t.chunk.profile (length t.chunk.stripes) q → IsSlice (size_of t) (element images t q)
      piece q has =
          let there = subst (λ c. HasPart c.profile (length c.stripes) q) b.chunk has in
          let stands = of.is.stand q there in
          subst (IsSlice (size_of t)) (sym (block_of_element images layout row t q in_row lies has stands))
          (slice_of_slice (rows.element images layout row q) t.at.rest (size_of t) lies.inside
          (elements_are_slices images layout row q had.bytes lengths stands))

      -- so what a plain sector gets is, and what was committed of a block
      right_whole : IfSome (right_for images C row t) (IsSlice (size_of t))
      right_whole = at (is_plain t.want) refl
        where
          -- fresh bytes are as many as the block has
          fresh_whole : (o : Option (List ℕ)) → fresh images kept t ≡ o → IfSome o (IsSlice (size_of t))
          fresh_whole None e = tt
          fresh_whole (Some bytes) e =
              let f = fresh_from kept images t bytes e in
              subst (IsSlice (size_of t)) f.value
              (value_whole images t (no_copies layout row s.of.table of.is t b) in_row.position.index in_row.keeps_rule.few piece f.way f.trusted.there)

          -- so are those that it gets
          renewed_whole : (c : Bool) → IfSome (cond c (fresh images kept t) None) (IsSlice (size_of t))
          renewed_whole true = fresh_whole (fresh images kept t) refl
          renewed_whole false = tt

          -- so it is with a plain sector and with a checked block
          at : (c : Bool) → is_plain t.want ≡ c → IfSome (right_for images C row t) (IsSlice (size_of t))
          at true plain = rw plain (renewed_whole (nat_lt 0 (length (stale_parts images kept t))))
          at false checked = rw checked (had.slices t among checked)

      -- what it gets is right
      gets_right : GetsRight images C row t
      gets_right = at (is_plain t.want) refl
        where
          same : (o : Option (List ℕ)) → IfSome o (λ bytes. o ≡ Some bytes)
          same None = tt
          same (Some bytes) = refl

          at : (c : Bool) → is_plain t.want ≡ c → GetsRight images C row t
          at true plain = rw plain (same (renewed images kept t))
          at false checked = rw checked (accepts_right t among checked)

    -- it is sound
    pub sound_row : IsSoundRow images layout C row
    sound_row = record {
      parity = s.of.parity;
      blocks = λ t i. record { in_row = in_row t i; lies = lies t i; committed = λ checked. had.committed t (among t i) checked; bytes = right_whole t i };
      spaced = spaced;
      stand = of.is.stand;
      bytes = λ q has. elements_are_slices images layout row q had.bytes lengths (of.is.stand q has);
    }

    -- what its blocks get is right
    pub right_there : (t : Target) → In t row.blocks → GetsRight images C row t
    right_there t i = gets_right t i
