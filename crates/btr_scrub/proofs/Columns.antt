-- A block is left where few elements are wrong, or where it is right itself.
use Rattle.std.proofs.Common.{◌≡◌, ◌⊎◌, ℕ, ◌+◌, ◌-◌, ◌*◌, ◌/◌, ◌<◌, ◌≤◌, true, false, not, cond, ◌&&◌, eqb, ltb, List, [], ◌∷◌, length, get_or, slice_range}
use Rattle.std.proofs.Common.{All, Some, None, IfSome, IsNone, refl, sym, ap, ◌∙◌, subst, inl, inr, arith}
use Rattle.btr_scrub.proofs.Common.{HasPart, Images, In, IsSoundRow, Layout, Mirror, P, Part, Profile, Q, Raid5, Raid6, Read, Row, Target, and_from, bad_parts}
use Rattle.btr_scrub.proofs.Common.{blocks_at, candidates, data_count, eq-eqb, false≢true, is_good, is_plain, is_sound, lt-ltb, mirrors, own_parts, parts_read}
use Rattle.btr_scrub.proofs.Common.{passes, passing_filter, right_for, size_of, slice_count, slices_with, stale_parts, stands, value_of, without_copies}
use Rattle.btr_scrub.proofs.Common.{wrong_parts}
use Rattle.std.specs.List.{Contains}
use Rattle.btr_chunk.specs.declared.place.Part.TheVariants.{Slice}
use Rattle.btr_read.specs.Candidates.{rebuilt}
use Rattle.btr_read.specs.Candidates as read
use Rattle.btr_read.proofs.Order.{in_candidates}
use Rattle.btr_scrub_row.specs.Rows as rows
use Rattle.btr_scrub_row.specs.Rows.{column_of, element, meets}
use Rattle.btr_scrub.specs.Columns.{Committed, HasFewWrongAt, HasRightPlace, IsSoundIn, IsWrongAt, right_element}
use Rattle.btr_scrub.specs.BlocksInRows.{IsNearly}
use Rattle.btr_scrub.specs.Right.{StandsFor}
use Rattle.btr_scrub.specs.Survival.{AreBehind, FewAreFewAt, IsSoundBlock, KeepsRight, RightPasses, RowSurvives}
use Rattle.btr_scrub.proofs.Elements.{block_of_element, part_stands}
use Rattle.btr_scrub.proofs.Lists.{any_in, in_any, in_filter, some_of}
use Rattle.btr_scrub.proofs.Stripes.{any_of, row_gives_blocks}
use Rattle.btr_scrub.proofs.OwnPlaces.{wrong_own, own_slice}
use Rattle.btr_scrub.proofs.Survival.{at_range, block_there, range_same, right, right_checked, right_is, right_long, right_part, slice_there}
use Rattle.btr_scrub.proofs.Wrong.{bad_block_is_wrong}

-- without copies a block's own place is a candidate
own_way : (p : Profile) (n k : ℕ) → (p ≡ Raid5) ⊎ (p ≡ Raid6) → In (Read (Slice k)) (rebuilt p n k)
own_way p n k (inl five) = subst (λ p. In (Read (Slice k)) (rebuilt p n k)) (sym five) (inl refl)
own_way p n k (inr six) = subst (λ p. In (Read (Slice k)) (rebuilt p n k)) (sym six) (inl refl)

-- a block's own place is one of its candidates, where there is parity
pub own_candidate : (t : Target) → mirrors t.chunk ≡ None → In (Read (Slice t.at.index)) (candidates t)
own_candidate t none = in_candidates t (Read (Slice t.at.index)) (rw none (own_way t.chunk.profile (slice_count t) t.at.index
    (without_copies t.chunk.profile (length t.chunk.stripes) none)))

-- blocks that are apart begin behind the first place
past : (ts : List Target) (end : ℕ) (t : Target) → AreBehind end ts → In t ts → end ≤ t.at.rest
past [] end t behind i = absurd i
past (u ∷ ts) end t behind (inl e) = subst (λ v. end ≤ v.at.rest) e behind.0
past (u ∷ ts) end t behind (inr i) = omega (arith, behind.0, past ts (u.at.rest + size_of u) t behind.1 i)

-- those that have a byte in common are the same
behind_same : (ts : List Target) (end x : ℕ) (t u : Target) → AreBehind end ts → In t ts → In u ts → t.at.rest ≤ x → x < t.at.rest + size_of t
    → u.at.rest ≤ x → x < u.at.rest + size_of u → t ≡ u
behind_same [] end x t u behind i j a b c d = absurd i
behind_same (v ∷ ts) end x t u behind (inl e) (inl f) a b c d = sym e ∙ f
behind_same (v ∷ ts) end x t u behind (inl e) (inr j) a b c d =
    absurd (omega (arith, subst (λ w. x < w.at.rest + size_of w) (sym e) b, past ts (v.at.rest + size_of v) u behind.1 j, c))
behind_same (v ∷ ts) end x t u behind (inr i) (inl f) a b c d =
    absurd (omega (arith, subst (λ w. x < w.at.rest + size_of w) (sym f) d, past ts (v.at.rest + size_of v) t behind.1 i, a))
behind_same (v ∷ ts) end x t u behind (inr i) (inr j) a b c d = behind_same ts (v.at.rest + size_of v) x t u behind.1 i j a b c d

-- slices of one element have its number
pub same_index : {i j : ℕ} → Slice i ≡ Slice j → i ≡ j
same_index e = cc e

-- a block meets the column of each of its bytes
pub meets_at : (t : Target) (c x : ℕ) → t.at.rest ≤ x → x < t.at.rest + size_of t → c * 4096 ≤ x → x < c * 4096 + 4096 → meets c t ≡ true
meets_at t c x from to low high =
    and_from (ltb t.at.rest (c * 4096 + 4096)) (ltb (c * 4096) (t.at.rest + size_of t)) (lt-ltb t.at.rest (c * 4096 + 4096) (omega (arith, from, high)))
    (lt-ltb (c * 4096) (t.at.rest + size_of t) (omega (arith, to, low)))

-- a byte of a column that is the same
pub column_byte : (xs ys : List ℕ) (c x : ℕ) → c * 4096 ≤ x → x < c * 4096 + 4096 → column_of c xs ≡ column_of c ys → get_or xs x 0 ≡ get_or ys x 0
column_byte xs ys c x low high same =
    let i = x - c * 4096 in
    let lt : i < c * 4096 + 4096 - c * 4096 = omega (arith, low, high) in
    let at : c * 4096 + i ≡ x = omega (arith, low) in
    ap (λ j. get_or xs j 0) (sym at) ∙ sym (at_range xs (c * 4096) (c * 4096 + 4096) i 0 lt) ∙ ap (λ l. get_or l i 0) same
    ∙ at_range ys (c * 4096) (c * 4096 + 4096) i 0 lt ∙ ap (λ j. get_or ys j 0) at

-- a byte of an element that is sound in its column isn't wrong
pub sound_byte : (images : Images) (layout : Layout) (C : Committed) (row : Row) (c x : ℕ) (q : Part) → IsSoundIn images layout C row c q → c * 4096 ≤ x
    → x < c * 4096 + 4096 → ¬ (IsWrongAt images layout C row q x)
sound_byte images layout C row c x (Mirror i) is low high wrong = wrong
sound_byte images layout C row c x (Slice i) is low high wrong =
    is.good wrong.block wrong.among (meets_at wrong.block c x wrong.from wrong.to low high) wrong.bad
sound_byte images layout C row c x P is low high wrong =
    let same : c ≡ wrong.column = omega (arith, low, high, wrong.from, wrong.to) in
    wrong.wrong (subst (λ k. IsSoundIn images layout C row k P) same is).right
sound_byte images layout C row c x Q is low high wrong =
    let same : c ≡ wrong.column = omega (arith, low, high, wrong.from, wrong.to) in
    wrong.wrong (subst (λ k. IsSoundIn images layout C row k Q) same is).right

module _ (images left : Images) (layout : Layout) (C : Committed) (row : Row) (t : Target) (sound : IsSoundRow images layout C row)
    (pass : RightPasses C t) (keeps : KeepsRight images left layout C row) (among : In t row.blocks) (checked : is_plain t.want ≡ false) where
  -- the block is a sound one of the row
  block : IsSoundBlock images layout C row t
  block = sound.blocks t among

  -- where the block begins in its element
  abbrev from : ℕ
  from = t.at.rest

  -- where it ends there
  abbrev to : ℕ
  to = t.at.rest + size_of t

  -- what isn't wrong of an element where the block lies stays
  stays : (q : Part) → HasPart row.chunk.profile (length row.chunk.stripes) q → ((x : ℕ) → from ≤ x → x < to → ¬ (IsWrongAt images layout C row q x))
      → slice_range (element left layout row q) from to ≡ slice_range (element images layout row q) from to
  stays q has fine =
      range_same (element left layout row q) (element images layout row q) from to
      (omega (arith, keeps.lengths q has, (sound.bytes q has).long, block.lies.inside)) (sym (keeps.lengths q has))
      (λ x low high. keeps.bytes q x has (omega (arith, high, block.lies.inside)) (fine x low high))

  -- the block's chunk has as many slices as the row
  count : slice_count t ≡ rows.slice_count row
  count = ap (λ c. data_count c.profile (length c.stripes)) block.lies.chunk

  -- the block's slice is one of the row
  below : t.at.index < rows.slice_count row
  below = omega (arith, count, block.in_row.position.index)

  -- ---- few elements are wrong

  module _ (few : HasFewWrongAt images layout C row t) where
    -- where the block lies, what is left is the right stripe but for few elements
    near : IsNearly left layout row (right images layout C row sound) few.wrong t
    near = record {
      few = few.few;
      stand = sound.stand;
      others = λ q has fine.
          let is = λ (x : ℕ) (low : from ≤ x) (high : x < to).
          few.others q (x / 4096) has fine (meets_at t (x / 4096) x low high (omega arith) (omega arith)) in
          stays q has (λ x low high. sound_byte images layout C row (x / 4096) x q (is x low high) (omega arith) (omega arith))
          ∙ range_same (element images layout row q) (right_element images layout C row q) from to
          (omega (arith, (sound.bytes q has).long, block.lies.inside)) (right_long images layout C row sound q has ∙ sym (sound.bytes q has).long)
          (λ x low high. column_byte (element images layout row q) (right_element images layout C row q) (x / 4096) x (omega arith) (omega arith)
          (is x low high).right)
          ∙ ap (λ xs. slice_range xs from to) (right_part images layout C row sound q has);
    }

    -- so in what is left a candidate gives its committed bytes
    by_few : StandsFor left C t
    by_few =
        let b = some_of (C t.want) (block.committed checked) in
        let there = block_there images layout C row sound t b.0 among below (right_checked images C row t checked ∙ b.1) in
        let bytes = slice_range (get_or (slices_with images layout (right_for images C row) row) t.at.index []) from to in
        any_of (λ c. (stands t c ≡ true) × All (λ q. ¬ (Contains (parts_read (slice_count t) t.at.index c) q)) few.wrong × (value_of left t c ≡ bytes))
        (λ c. (stands t c ≡ true) × (C t.want ≡ Some (value_of left t c))) (candidates t) (λ c h. (h.0, b.1 ∙ ap Some (sym (h.2 ∙ there))))
        (row_gives_blocks left layout row (right images layout C row sound) few.wrong t block.in_row block.lies (right_is images layout C row sound) near)

  -- ---- the block is right at its own place

  module _ (right_place : HasRightPlace images C t) where
    -- the block's own slice
    abbrev own : Part
    own = Slice t.at.index

    -- its committed bytes stand there
    committed : C t.want ≡ Some (read.element images t own)
    committed =
        let a = in_any (λ q. C t.want ≡ Some (read.element images t q)) (own_parts t) right_place in
        a.2 ∙ ap (λ q. Some (read.element images t q)) (sym (own_slice t a.0 block.in_row.parity a.1))

    -- so it passes there
    good : is_good images t own ≡ true
    good = subst (λ o. IfSome o (λ bytes. passes t.setting t.want bytes ≡ true)) committed pass

    -- the row has that slice
    has : HasPart row.chunk.profile (length row.chunk.stripes) own
    has = slice_there images layout C row sound t.at.index below

    -- so has the block's chunk
    mine : HasPart t.chunk.profile (length t.chunk.stripes) own
    mine = (subst IsNone (sym block.in_row.parity) refl, block.in_row.position.index)

    -- nothing is wrong with it there
    not_wrong : ¬ (In own (wrong_parts images row.failing t))
    not_wrong i =
        let bad : In own (bad_parts images t) = subst (λ b. In own (cond b (stale_parts images row.failing t) (bad_parts images t))) checked i in
        false≢true (ap not (sym good) ∙ (passing_filter (λ q. not (is_sound images t q)) own (own_parts t) bad).1)

    -- no other block has a byte of it
    untouched : (x : ℕ) → from ≤ x → x < to → ¬ (IsWrongAt images layout C row own x)
    untouched x low high wrong =
        let in_slice = λ (u : Target) (i : In u row.blocks) (e : u.at.index ≡ t.at.index).
        in_filter (λ v. eqb v.at.index t.at.index) u row.blocks i (eq-eqb u.at.index t.at.index e) in
        let index : wrong.block.at.index ≡ t.at.index = same_index (own_slice wrong.block own (sound.blocks wrong.block wrong.among).in_row.parity
        (wrong_own images row.failing wrong.block own wrong.bad)) in
        let same = behind_same (blocks_at row t.at.index) 0 x t wrong.block (sound.spaced t.at.index) (in_slice t among refl)
        (in_slice wrong.block wrong.among index) low high wrong.from wrong.to in
        not_wrong (subst (λ u. In own (wrong_parts images row.failing u)) (sym same) wrong.bad)

    -- what stands at its own place stays
    own_stays : read.element left t own ≡ read.element images t own
    own_stays =
        block_of_element left layout row t own block.in_row block.lies mine (sound.stand own has) ∙ stays own has untouched
        ∙ sym (block_of_element images layout row t own block.in_row block.lies mine (sound.stand own has))

    -- so in what is left its own place gives them
    by_own : StandsFor left C t
    by_own =
        any_in (λ c. (stands t c ≡ true) × (C t.want ≡ Some (value_of left t c))) (candidates t) (Read own) (own_candidate t block.in_row.parity)
        (ap (λ b. b && true) (part_stands layout row t own block.in_row block.lies mine (sound.stand own has)), committed ∙ ap Some (sym own_stays))

-- a block that is right at its own place, or where few elements are wrong, is left, whatever stands in the wrong bytes
pub row_survives : RowSurvives
row_survives images left layout C row t sound pass (inl own) keeps among checked = by_own images left layout C row t sound pass keeps among checked own
row_survives images left layout C row t sound pass (inr few) keeps among checked = by_few images left layout C row t sound pass keeps among checked few

-- where few elements of a row are wrong at all, few are where a block lies
pub few_are_few_at : FewAreFewAt
few_are_few_at images layout C row t sound pass few = record {
  wrong = few.wrong;
  few = few.few;
  others = λ q c has fine met. let is = few.others q has fine in record {
    right = ap (column_of c) is;
    good = λ u i met bad.
        let e = own_slice u q (sound.blocks u i).in_row.parity (wrong_own images row.failing u q bad) in
        bad_block_is_wrong images layout C row u sound i (pass u i) (subst (λ p. In p (wrong_parts images row.failing u)) (sym e) bad)
        (subst (λ p. element images layout row p ≡ right_element images layout C row p) (sym e) is);
  };
}
