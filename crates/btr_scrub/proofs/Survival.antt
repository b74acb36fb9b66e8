-- The blocks of a full stripe as they should be.
use Rattle.std.proofs.Common.{◌≡◌, ◌⊎◌, ℕ, ◌+◌, ◌-◌, ◌<◌, ◌≤◌, Bool, true, false, cond, eqb, List, [], ◌∷◌, ◌++◌, length, get_or, take, drop, slice_range}
use Rattle.std.proofs.Common.{Option, Some, None, IfSome, IsNone, All, refl, sym, ap, ◌∙◌, subst, inl, inr, arith}
use Rattle.btr_scrub.proofs.Common.{HasPart, Images, In, IsSlice, IsSoundRow, Layout, Part, Range, Row, Target, blocks_at, cases_lt, device_in, element_with}
use Rattle.btr_scrub.proofs.Common.{eq-eqb, filter, image_of, is_plain, length-pasted, length-slice_range, mirror_count, new_bytes, option_map_or, parity_p}
use Rattle.btr_scrub.proofs.Common.{parity_q, passing_filter, pasted, place_at, range_stands, right_for, size_of, slices_with, stands_on}
use Rattle.std.proofs.lemmas.List.{ext_get_or, get_or-take, get_or-drop, get_or_past}
use Rattle.std.proofs.lemmas.List.Elements.{All-append, All-nil, All-take, All-drop}
use Rattle.std.proofs.lemmas.List.FromFn.{length-map-range_with_len, get_or-map-range_with_len}
use Rattle.std.specs.List.{fold}
use Rattle.btr_chunk.specs.declared.place.Part.TheVariants as part
use Rattle.btr_parity.specs.Ways.{Stripe, IsConsistent}
use Rattle.btr_parity.proofs.Lost.{parity_p_slice, weighted_slice}
use Rattle.btr_rack.specs.Rack.{bytes_of}
use Rattle.btr_scrub.specs.BlocksInRows.{right_bytes}
use Rattle.btr_scrub.specs.Columns.{Committed}
use Rattle.btr_scrub_row.specs.Rows as rows
use Rattle.btr_scrub_row.specs.Rows.{element, slice_with, with_block}
use Rattle.btr_scrub.specs.Survival.{AreBehind, ElementsAreSlices}
use Rattle.btr_scrub_row.proofs.Pasted.{pasted-above, pasted-below, range_pasted}
use Rattle.btr_scrub.proofs.Stripes.{no_mirror}
use Rattle.btr_scrub.proofs.Lists.{in_filter}

-- ---- ranges by their bytes

-- a byte of a range of a list is one of the list
pub at_range : (xs : List ℕ) (a b i d : ℕ) → i < b - a → get_or (slice_range xs a b) i d ≡ get_or xs (a + i) d
at_range xs a b i d lt = get_or-take (b - a) (drop a xs) i d lt ∙ get_or-drop a xs i d

-- ranges of two lists that have the same bytes there
pub range_same : (xs ys : List ℕ) (a b : ℕ) → b ≤ length xs → length ys ≡ length xs → ((i : ℕ) → a ≤ i → i < b → get_or xs i 0 ≡ get_or ys i 0)
    → slice_range xs a b ≡ slice_range ys a b
range_same xs ys a b le long same =
    let lx = length-slice_range xs a b le in
    ext_get_or 0 (slice_range xs a b) (slice_range ys a b) (lx ∙ sym (length-slice_range ys a b (omega (arith, le, long))))
    (λ i below. let lt : i < b - a = omega (arith, below, lx) in
    at_range xs a b i 0 lt ∙ same (a + i) (omega arith) (omega (arith, lt)) ∙ sym (at_range ys a b i 0 lt))

-- a slice with bytes put into it is a slice
slice_pasted : (n : ℕ) (xs : List ℕ) (off : ℕ) (bytes : List ℕ) → off + length bytes ≤ n → IsSlice n xs → All (λ b. b < 256) bytes
    → IsSlice n (pasted xs off bytes)
slice_pasted n xs off bytes fits is small = record {
  long = length-pasted xs off bytes (omega (arith, fits, is.long)) ∙ is.long;
  bytes = All-append (λ b. b < 256) (take off xs ++ bytes) (drop (off + length bytes) xs)
      (All-append (λ b. b < 256) (take off xs) bytes (All-take (λ b. b < 256) off xs is.bytes) small)
      (All-drop (λ b. b < 256) (off + length bytes) xs is.bytes);
}

-- ---- a slice with its blocks' bytes

module _ (images : Images) (layout : Layout) (given : Target → Option (List ℕ)) where
  -- what is given for a block fits it
  pub record Fits (t : Target) : Type 0 where
    pub inside : t.at.rest + size_of t ≤ 65536
    pub bytes : IfSome (given t) (IsSlice (size_of t))

  -- a slice with one block put into it is a slice
  pub one_slice : (t : Target) (xs : List ℕ) → Fits t → IsSlice 65536 xs → IsSlice 65536 (with_block images layout given xs t)
  one_slice t xs f is = by (given t) f.bytes
    where
      by : (o : Option (List ℕ)) → IfSome o (IsSlice (size_of t)) → IsSlice 65536 (option_map_or (pasted xs t.at.rest) o xs)
      by None fits = is
      by (Some b) fits = slice_pasted 65536 xs t.at.rest b (omega (arith, f.inside, fits.long)) is fits.bytes

  -- a byte outside of the block's place is as before
  pub outside : (t : Target) (xs : List ℕ) (i d : ℕ) → Fits t → IsSlice 65536 xs → (i < t.at.rest) ⊎ (t.at.rest + size_of t ≤ i)
      → get_or (with_block images layout given xs t) i d ≡ get_or xs i d
  outside t xs i d f is out = by (given t) f.bytes out
    where
      by : (o : Option (List ℕ)) → IfSome o (IsSlice (size_of t)) → (i < t.at.rest) ⊎ (t.at.rest + size_of t ≤ i)
          → get_or (option_map_or (pasted xs t.at.rest) o xs) i d ≡ get_or xs i d
      by None fits out = refl
      by (Some b) fits (inl lt) = pasted-below xs t.at.rest b (omega (arith, f.inside, fits.long, is.long)) i d lt
      by (Some b) fits (inr le) = pasted-above xs t.at.rest b (omega (arith, f.inside, fits.long, is.long)) i d (omega (arith, le, fits.long))

  -- a slice with blocks put into it is a slice
  pub fold_slice : (ts : List Target) (xs : List ℕ) → ((t : Target) → In t ts → Fits t) → IsSlice 65536 xs
      → IsSlice 65536 (fold (with_block images layout given) xs ts)
  fold_slice [] xs fit is = is
  fold_slice (t ∷ ts) xs fit is =
      fold_slice ts (with_block images layout given xs t) (λ u i. fit u (inr i)) (one_slice t xs (fit t (inl refl)) is)

  -- blocks that are put in behind a place leave what is before it
  fold_keeps : (ts : List Target) (xs : List ℕ) (a b end : ℕ) → b ≤ end → AreBehind end ts → ((t : Target) → In t ts → Fits t) → IsSlice 65536 xs
      → slice_range (fold (with_block images layout given) xs ts) a b ≡ slice_range xs a b
  fold_keeps [] xs a b end le behind fit is = refl
  fold_keeps (t ∷ ts) xs a b end le behind fit is =
      let f = fit t (inl refl) in
      let one = one_slice t xs f is in
      fold_keeps ts (with_block images layout given xs t) a b (t.at.rest + size_of t) (omega (arith, le, behind.0)) behind.1 (λ u i. fit u (inr i)) one
      ∙ range_same (with_block images layout given xs t) xs a b (omega (arith, le, behind.0, f.inside, one.long)) (is.long ∙ sym one.long)
      (λ i from to. outside t xs i 0 f is (inl (omega (arith, to, le, behind.0))))

  -- the place of a block that is put in has what is given for it
  put_in : (t : Target) (xs b : List ℕ) → Fits t → IsSlice 65536 xs → given t ≡ Some b
      → slice_range (with_block images layout given xs t) t.at.rest (t.at.rest + size_of t) ≡ b
  put_in t xs b f is e =
      let slice : IsSlice (size_of t) b = subst (λ o. IfSome o (IsSlice (size_of t))) e f.bytes in
      rw (e, ← slice.long) (range_pasted xs t.at.rest b (omega (arith, f.inside, slice.long, is.long)))

  -- so it has with others put in behind it
  pub fold_block : (ts : List Target) (xs : List ℕ) (end : ℕ) (t : Target) (b : List ℕ) → AreBehind end ts → ((t : Target) → In t ts → Fits t)
      → IsSlice 65536 xs → In t ts → given t ≡ Some b → slice_range (fold (with_block images layout given) xs ts) t.at.rest (t.at.rest + size_of t) ≡ b
  fold_block [] xs end t b behind fit is i e = absurd i
  fold_block (u ∷ ts) xs end t b behind fit is (inl same) e =
      subst (λ v. given v ≡ Some b → slice_range (fold (with_block images layout given) xs (u ∷ ts)) v.at.rest (v.at.rest + size_of v) ≡ b) same (λ here.
      let f = fit u (inl refl) in
      fold_keeps ts (with_block images layout given xs u) u.at.rest (u.at.rest + size_of u) (u.at.rest + size_of u) (omega arith) behind.1
      (λ v j. fit v (inr j)) (one_slice u xs f is) ∙ put_in u xs b f is here) e
  fold_block (u ∷ ts) xs end t b behind fit is (inr i) e =
      fold_block ts (with_block images layout given xs u) (u.at.rest + size_of u) t b behind.1 (λ v j. fit v (inr j))
      (one_slice u xs (fit u (inl refl)) is) i e

-- ---- elements

-- an image has bytes, where all images do
bytes_in : (images : Images) (slot : ℕ) → All (λ (image : List ℕ). All (λ b. b < 256) image) images → All (λ b. b < 256) (image_of images slot)
bytes_in images slot all = elim (cases_lt slot (length images)) [
  | inl lt ↦ all slot [] lt
  | inr le ↦ subst (All (λ b. b < 256)) (sym (get_or_past images slot [] le)) (All-nil (λ b. b < 256))
]

-- an element that stands has 65536 bytes
pub elements_are_slices : ElementsAreSlices
elements_are_slices images layout row q all lengths h =
    let place = place_at row.chunk q (record { row = row.number; index = 0; rest = 0 }) in
    let s = stands_on place.offset 65536 (device_in layout.devices place.devid) h in
    let e = range_stands place.offset 65536 (device_in layout.devices place.devid) s.device s.there s.within in
    let image = image_of images s.device.slot in
    let long = length-slice_range image place.offset (place.offset + 65536) (omega (arith, s.within, lengths place.devid s.device s.there)) in
    let cut : IsSlice 65536 (slice_range image place.offset (place.offset + 65536)) = record {
      long = long ∙ omega arith;
      bytes = All-take (λ b. b < 256) (place.offset + 65536 - place.offset) (drop place.offset image)
          (All-drop (λ b. b < 256) place.offset image (bytes_in images s.device.slot all));
    } in
    subst (λ (o : Option Range). IsSlice 65536 (option_map_or (λ range. bytes_of images range.slot range.off range.len) o [])) (sym e) cut

-- ---- the row

-- what passes a test was in the list
pub of_filter : {X : Type 0} (p : X → Bool) (x : X) (xs : List X) → In x (filter p xs) → In x xs
of_filter p x xs i = (passing_filter p x xs i).0

-- the right bytes of a checked block are the committed ones, and those of a plain sector what it gets
pub right_checked : (images : Images) (C : Committed) (row : Row) (t : Target) → is_plain t.want ≡ false → right_for images C row t ≡ C t.want
right_checked images C row t e = ap (λ b. cond b (new_bytes images row.failing t) (C t.want)) e

-- a sector without a checksum should have the bytes that it gets
pub right_plain : (images : Images) (C : Committed) (row : Row) (t : Target) → is_plain t.want ≡ true
    → right_for images C row t ≡ new_bytes images row.failing t
right_plain images C row t e = ap (λ b. cond b (new_bytes images row.failing t) (C t.want)) e

module _ (images : Images) (layout : Layout) (C : Committed) (row : Row) (sound : IsSoundRow images layout C row) where
  -- what each block should have
  abbrev given : Target → Option (List ℕ)
  given = right_for images C row

  -- the full stripe as it should be: its slices with what their blocks should have, and the parities of these
  abbrev pub right : Stripe
  right = record {
    slices = slices_with images layout given row;
    p = parity_p 65536 (slices_with images layout given row);
    q = parity_q 65536 (slices_with images layout given row);
  }

  -- the slices are those with the blocks in them
  pub at_slice : (i : ℕ) (d : List ℕ) → i < rows.slice_count row → get_or right.slices i d ≡ slice_with images layout given row i
  at_slice i d lt = get_or-map-range_with_len (slice_with images layout given row) 0 (rows.slice_count row) i i d lt (omega arith)

  -- what a block should have fits it
  fits : (i : ℕ) (t : Target) → In t (blocks_at row i) → Fits images layout given t
  fits i t among = let b = sound.blocks t (of_filter (λ u. eqb u.at.index i) t row.blocks among) in record { inside = b.lies.inside; bytes = b.bytes }

  -- each slice is a part of the chunk
  pub slice_there : (i : ℕ) → i < rows.slice_count row → HasPart row.chunk.profile (length row.chunk.stripes) (part.Slice i)
  slice_there i lt = (subst IsNone (sym sound.parity) refl, lt)

  -- each slice has 65536 bytes
  right_slice : (i : ℕ) → i < rows.slice_count row → IsSlice 65536 (slice_with images layout given row i)
  right_slice i lt = fold_slice images layout given (blocks_at row i) (element images layout row (part.Slice i)) (fits i)
      (sound.bytes (part.Slice i) (slice_there i lt))

  -- the slices and their parities agree
  pub right_is : IsConsistent 65536 (rows.slice_count row) right
  right_is =
      let long = length-map-range_with_len (slice_with images layout given row) 0 (rows.slice_count row) in
      record {
        count = long;
        sizes = λ i d below. let lt : i < rows.slice_count row = omega (arith, below, long) in subst (IsSlice 65536) (sym (at_slice i d lt)) (right_slice i lt);
        p = refl;
        q = refl;
      }

  -- each element is that of the right stripe
  pub right_part : (q : Part) → HasPart row.chunk.profile (length row.chunk.stripes) q → element_with images layout given row q
      ≡ right_bytes (rows.slice_count row) right q
  right_part (part.Mirror i) has = absurd (no_mirror (mirror_count row.chunk.profile (length row.chunk.stripes)) i sound.parity has)
  right_part (part.Slice i) has = sym (at_slice i [] has.1)
  right_part part.P has = refl
  right_part part.Q has = refl

  -- and is as long
  pub right_long : (q : Part) → HasPart row.chunk.profile (length row.chunk.stripes) q → length (element_with images layout given row q) ≡ 65536
  right_long (part.Mirror i) has = absurd (no_mirror (mirror_count row.chunk.profile (length row.chunk.stripes)) i sound.parity has)
  right_long (part.Slice i) has = (right_slice i has.1).long
  right_long part.P has = (parity_p_slice 65536 right.slices right_is.sizes).long
  right_long part.Q has = (weighted_slice 65536 0 right.slices right_is.sizes).long

  -- the right slice has a block's right bytes in the block's place
  pub block_there : (t : Target) (b : List ℕ) → In t row.blocks → t.at.index < rows.slice_count row → right_for images C row t ≡ Some b
      → slice_range (get_or right.slices t.at.index []) t.at.rest (t.at.rest + size_of t) ≡ b
  block_there t b among lt e =
      ap (λ xs. slice_range xs t.at.rest (t.at.rest + size_of t)) (at_slice t.at.index [] lt)
      ∙ fold_block images layout given (blocks_at row t.at.index) (element images layout row (part.Slice t.at.index)) 0 t b (sound.spaced t.at.index)
      (fits t.at.index) (sound.bytes (part.Slice t.at.index) (slice_there t.at.index lt))
      (in_filter (λ u. eqb u.at.index t.at.index) t row.blocks among (eq-eqb t.at.index t.at.index refl)) e
