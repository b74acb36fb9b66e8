-- What is to be written lies in wrong elements.
use Rattle.std.proofs.Common.{◌≡◌, ◌⊎◌, ℕ, ◌+◌, ◌-◌, ◌*◌, ◌<◌, ◌≤◌, Bool, true, false, not, cond, ◌&&◌, ◌||◌, eqb, ltb, List, [], ◌∷◌, length, get_or}
use Rattle.std.proofs.Common.{slice_range, Option, Some, None, IfSome, is_some, refl, sym, ap, ◌∙◌, subst, inl, inr, arith}
use Rattle.btr_scrub.proofs.Common.{HasPart, Images, In, IsSlice, IsSoundRow, Layout, Part, Row, Target, all_at, and_parts, bad_parts, blocks_at, bytes_eq}
use Rattle.btr_scrub.proofs.Common.{cases_lt, data_count, element_with, false≢true, in_below, is_good, is_plain, is_sound, list_any, lt-ltb, new_bytes}
use Rattle.btr_scrub.proofs.Common.{not-true, option_map_or, own_parts, parity_p, parity_q, passes, passing_filter, pasted, range_with_len, right_for, size_of}
use Rattle.btr_scrub.proofs.Common.{slice_count, slices_with, stale_parts}
use Rattle.std.proofs.lemmas.Slice.Eq.{bytes_eq-Decides}
use Rattle.std.specs.List.{fold, list_all}
use Rattle.btr_chunk.specs.declared.place.Part.TheVariants as part
use Rattle.btr_read.specs.Candidates as read
use Rattle.btr_parity.specs.Laws.{ranges_of}
use Rattle.btr_scrub.specs.Columns.{Committed, IsRight}
use Rattle.btr_scrub_row.specs.Rows as rows
use Rattle.btr_scrub_row.specs.Rows.{column_of, element, is_sure, is_surer, meets, slice_with, with_block}
use Rattle.btr_scrub.specs.Survival.{BadBlockIsWrong, DifferingParityIsWrong, IsParity}
use Rattle.btr_scrub.proofs.Elements.{block_of_element}
use Rattle.btr_parity.proofs.Ranges.{parity_of_ranges}
use Rattle.btr_scrub_row.proofs.Pasted.{pasted-within}
use Rattle.btr_scrub.proofs.RowAgreeing.{map_mapped}
use Rattle.btr_scrub.proofs.Survival.{Fits, block_there, one_slice, outside, at_slice, right_checked, right_plain, slice_there, of_filter, range_same}
use Rattle.btr_scrub.proofs.Agreeing.{stale_at, some_long}
use Rattle.btr_scrub.proofs.Lists.{some_of}
use Rattle.std.proofs.lemmas.List.Sums.{AllPass-from_list_all}
use Rattle.std.proofs.Math.Bool.{or-false}

-- a slice of a row that is right has the right bytes of each block in its place
right_value : (images : Images) (layout : Layout) (C : Committed) (row : Row) (t : Target) → IsSoundRow images layout C row → In t row.blocks
    → (bytes : List ℕ) → right_for images C row t ≡ Some bytes → IsRight images layout C row (part.Slice t.at.index)
    → read.element images t (part.Slice t.at.index) ≡ bytes
right_value images layout C row t sound among bytes is right =
    let block = sound.blocks t among in
    let n : slice_count t ≡ rows.slice_count row = ap (λ c. data_count c.profile (length c.stripes)) block.lies.chunk in
    let lt : t.at.index < rows.slice_count row = omega (arith, n, block.in_row.position.index) in
    let has : HasPart row.chunk.profile (length row.chunk.stripes) (part.Slice t.at.index) = slice_there images layout C row sound t.at.index lt in
    let mine : HasPart t.chunk.profile (length t.chunk.stripes) (part.Slice t.at.index) =
    subst (λ c. HasPart c.profile (length c.stripes) (part.Slice t.at.index)) (sym block.lies.chunk) has in
    block_of_element images layout row t (part.Slice t.at.index) block.in_row block.lies mine (sound.stand (part.Slice t.at.index) has)
    ∙ ap (λ xs. slice_range xs t.at.rest (t.at.rest + size_of t)) (right ∙ sym (at_slice images layout C row sound t.at.index [] lt))
    ∙ block_there images layout C row sound t bytes among lt is

-- a place at which something is wrong lies in a slice that isn't right: committed bytes pass, and fresh bytes differ
pub bad_block_is_wrong : BadBlockIsWrong
bad_block_is_wrong images layout C row t sound among pass bad right = by (is_plain t.want) refl bad
  where
    -- the block's own slice
    q : Part
    q = part.Slice t.at.index

    -- so it is with a plain sector and with a checked block
    by : (b : Bool) → is_plain t.want ≡ b → In q (cond b (stale_parts images row.failing t) (bad_parts images t)) → ⊥
    by true plain i =
        let s = stale_at row.failing images t q i in
        let gets = right_plain images C row t plain ∙ rw (plain, some_long (stale_parts images row.failing t) q i) s.gets in
        let value = right_value images layout C row t sound among s.bytes gets right in
        let d = bytes_eq-Decides (read.element images t q) s.bytes in
        false≢true (sym s.differs ∙ d.1 value)
    by false checked i =
        let b = some_of (C t.want) ((sound.blocks t among).committed checked) in
        let value = right_value images layout C row t sound among b.0 (right_checked images C row t checked ∙ b.1) right in
        let passing : passes t.setting t.want b.0 ≡ true = subst (λ o. IfSome o (λ bytes. passes t.setting t.want bytes ≡ true)) b.1 pass in
        let unsound = not-true (is_good images t q) (passing_filter (λ part. not (is_sound images t part)) q (own_parts t) i).1 in
        false≢true (sym unsound ∙ ap (passes t.setting t.want) value ∙ passing)

-- ---- decided columns

module _ (images : Images) (layout : Layout) (g h : Target → Option (List ℕ)) (c : ℕ) where
  -- two lists of what is given for blocks fit, and agree where a block meets the column
  record Agrees (t : Target) : Type 0 where
    one : Fits images layout g t
    other : Fits images layout h t
    same : meets c t ≡ true → g t ≡ h t

  -- two slices have the same bytes in the column
  record AreSame (xs ys : List ℕ) : Type 0 where
    one : IsSlice 65536 xs
    other : IsSlice 65536 ys
    same : (i d : ℕ) → c * 4096 ≤ i → i < c * 4096 + 4096 → get_or xs i d ≡ get_or ys i d

  -- they have them still with one block put into both
  step : (t : Target) (xs ys : List ℕ) → Agrees t → AreSame xs ys → AreSame (with_block images layout g xs t) (with_block images layout h ys t)
  step t xs ys a s = record {
    one = one_slice images layout g t xs a.one s.one;
    other = one_slice images layout h t ys a.other s.other;
    same = λ i d from to. elim (cases_lt i t.at.rest) [
      | inl below ↦ out i d from to (inl below)
      | inr above ↦ elim (cases_lt i (t.at.rest + size_of t)) [
        | inl within ↦
            let met : meets c t ≡ true = ap (λ b. b && ltb (c * 4096) (t.at.rest + size_of t)) (lt-ltb t.at.rest (c * 4096 + 4096) (omega (arith, above, to)))
            ∙ lt-ltb (c * 4096) (t.at.rest + size_of t) (omega (arith, from, within)) in
            inside i d (s.same i d from to) above within (g t) a.one.bytes ∙ ap (λ o. get_or (option_map_or (pasted ys t.at.rest) o ys) i d) (a.same met)
        | inr past ↦ out i d from to (inr past)
      ]
    ];
  }
    where
      -- outside of the block's place they are as before
      out : (i d : ℕ) → c * 4096 ≤ i → i < c * 4096 + 4096 → (i < t.at.rest) ⊎ (t.at.rest + size_of t ≤ i)
          → get_or (with_block images layout g xs t) i d ≡ get_or (with_block images layout h ys t) i d
      out i d from to o = outside images layout g t xs i d a.one s.one o ∙ s.same i d from to ∙ sym (outside images layout h t ys i d a.other s.other o)

      -- in the block's place they are the block's, or as before
      inside : (i d : ℕ) → get_or xs i d ≡ get_or ys i d → t.at.rest ≤ i → i < t.at.rest + size_of t → (o : Option (List ℕ))
          → IfSome o (IsSlice (size_of t)) → get_or (option_map_or (pasted xs t.at.rest) o xs) i d ≡ get_or (option_map_or (pasted ys t.at.rest) o ys) i d
      inside i d same le lt None is = same
      inside i d same le lt (Some b) is =
          pasted-within xs t.at.rest b (omega (arith, a.one.inside, is.long, s.one.long)) i d le (omega (arith, lt, is.long))
          ∙ sym (pasted-within ys t.at.rest b (omega (arith, a.one.inside, is.long, s.other.long)) i d le (omega (arith, lt, is.long)))

  -- so it is with all blocks
  folds : (ts : List Target) (xs ys : List ℕ) → ((t : Target) → In t ts → Agrees t) → AreSame xs ys
      → AreSame (fold (with_block images layout g) xs ts) (fold (with_block images layout h) ys ts)
  folds [] xs ys agrees s = s
  folds (t ∷ ts) xs ys agrees s =
      folds ts (with_block images layout g xs t) (with_block images layout h ys t) (λ u i. agrees u (inr i)) (step t xs ys (agrees t (inl refl)) s)

  -- so the columns of a slice are the same
  columns : (row : Row) (i : ℕ) → c < 16 → ((t : Target) → In t (blocks_at row i) → Agrees t) → IsSlice 65536 (element images layout row (part.Slice i))
      → column_of c (slice_with images layout g row i) ≡ column_of c (slice_with images layout h row i)
  columns row i few agrees is =
      let e = element images layout row (part.Slice i) in
      let s = folds (blocks_at row i) e e agrees (record { one = is; other = is; same = λ j d from to. refl }) in
      range_same (slice_with images layout g row i) (slice_with images layout h row i) (c * 4096) (c * 4096 + 4096) (omega (arith, few, s.one.long))
      (s.other.long ∙ sym s.one.long) (λ j from to. s.same j 0 from to)

  -- so are those of all slices
  all_columns : (row : Row) → c < 16 → ((i : ℕ) (t : Target) → In t (blocks_at row i) → Agrees t)
      → ((i : ℕ) → i < rows.slice_count row → IsSlice 65536 (element images layout row (part.Slice i)))
      → ranges_of (c * 4096) (c * 4096 + 4096) (slices_with images layout g row) ≡ ranges_of (c * 4096) (c * 4096 + 4096) (slices_with images layout h row)
  all_columns row few agrees are = map_mapped (column_of c) (slice_with images layout g row) (slice_with images layout h row)
      (range_with_len 0 (rows.slice_count row)) (λ i j. columns row i few (agrees i) (are i (in_below (rows.slice_count row) i j)))

-- what is given is a slice, or nothing, where the other is
accepted_slice : (size : ℕ) (o p : Option (List ℕ)) → IfSome o (λ bytes. p ≡ Some bytes) → IfSome p (IsSlice size) → IfSome o (IsSlice size)
accepted_slice size None p h is = tt
accepted_slice size (Some b) p h is = subst (λ q. IfSome q (IsSlice size)) h is

-- a parity that differs from that of the new data in a decided column isn't right there
pub differing_parity_is_wrong : DifferingParityIsWrong
differing_parity_is_wrong images layout C row q c sound right parity few decided differ is =
    let new = new_bytes images row.failing in
    let target = right_for images C row in
    let sure = list_all (λ t. not (meets c t) || is_sure images layout row t) row.blocks in
    let all = (and_parts (list_any (meets c) row.blocks) sure decided).1 in
    let agrees = λ (i : ℕ) (t : Target) (among : In t (blocks_at row i)). by i t among all in
    let same = all_columns images layout new target c row few agrees (λ i lt. sound.bytes (part.Slice i) (slice_there images layout C row sound i lt)) in
    let equal : column_of c (element images layout row q) ≡ column_of c (element_with images layout new row q) = is ∙ sym (parts q parity same) in
    let yes : bytes_eq (column_of c (element images layout row q)) (column_of c (element_with images layout new row q)) ≡ true =
    (let d = bytes_eq-Decides (column_of c (element images layout row q)) (column_of c (element_with images layout new row q)) in d.1 equal) in
    false≢true (sym (ap not yes) ∙ differ)
  where
    -- what a block gets is right where it is sure
    gets : (t : Target) → In t row.blocks → is_sure images layout row t ≡ true → new_bytes images row.failing t ≡ right_for images C row t
    gets t there sure = at (is_plain t.want) refl
      where
        at : (b : Bool) → is_plain t.want ≡ b → new_bytes images row.failing t ≡ right_for images C row t
        at true plain = sym (right_plain images C row t plain)
        at false checked =
            let some = sym (or-false (is_some (new_bytes images row.failing t)))
            ∙ (ap (λ b. is_some (new_bytes images row.failing t) || b && is_surer images layout row t) (sym checked) ∙ sure) in
            let b = some_of (new_bytes images row.failing t) some in
            b.1 ∙ sym (subst (λ o. IfSome o (λ bytes. right_for images C row t ≡ Some bytes)) b.1 (right t there))

    -- what a block gets and what it should have fit it, and are the same where it meets the decided column
    by : (i : ℕ) (t : Target) → In t (blocks_at row i) → list_all (λ t. not (meets c t) || is_sure images layout row t) row.blocks ≡ true
        → Agrees images layout (new_bytes images row.failing) (right_for images C row) c t
    by i t among all =
        let there : In t row.blocks = of_filter (λ u. eqb u.at.index i) t row.blocks among in
        let block = sound.blocks t there in
        record {
          one = record {
            inside = block.lies.inside;
            bytes = accepted_slice (size_of t) (new_bytes images row.failing t) (right_for images C row t) (right t there) block.bytes;
          };
          other = record { inside = block.lies.inside; bytes = block.bytes };
          same = λ met. gets t there (subst (λ b. (not b || is_sure images layout row t) ≡ true) met
              (all_at (λ u. (not (meets c u) || is_sure images layout row u) ≡ true) row.blocks t
              (AllPass-from_list_all (λ u. not (meets c u) || is_sure images layout row u) row.blocks all) there));
        }

    -- a column of a parity hangs on that column of the slices alone
    parts : (q : Part) → IsParity q → ranges_of (c * 4096) (c * 4096 + 4096) (slices_with images layout (new_bytes images row.failing) row)
        ≡ ranges_of (c * 4096) (c * 4096 + 4096) (slices_with images layout (right_for images C row) row)
        → column_of c (element_with images layout (new_bytes images row.failing) row q)
        ≡ column_of c (element_with images layout (right_for images C row) row q)
    parts (part.Mirror i) h same = absurd h
    parts (part.Slice i) h same = absurd h
    parts part.P h same =
        let of = λ (xs : List (List ℕ)). parity_of_ranges.of_p 65536 (c * 4096) (c * 4096 + 4096) xs (omega arith) (omega (arith, few)) in
        sym (of (slices_with images layout (new_bytes images row.failing) row)) ∙ ap (parity_p (c * 4096 + 4096 - c * 4096)) same
        ∙ of (slices_with images layout (right_for images C row) row)
    parts part.Q h same =
        let of = λ (xs : List (List ℕ)). parity_of_ranges.of_q 65536 (c * 4096) (c * 4096 + 4096) xs (omega arith) (omega (arith, few)) in
        sym (of (slices_with images layout (new_bytes images row.failing) row)) ∙ ap (parity_q (c * 4096 + 4096 - c * 4096)) same
        ∙ of (slices_with images layout (right_for images C row) row)
