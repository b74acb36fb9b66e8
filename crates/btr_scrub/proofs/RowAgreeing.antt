-- What is written for a full stripe hangs on the bytes of its elements alone.
use Rattle.std.proofs.Common.{◌≡◌, ◌⊎◌, ℕ, ◌*◌, ◌<◌, Bool, false, not, ◌&&◌, ◌||◌, eqb, List, [], ◌∷◌, ◌++◌, map, length, true, Some, None, IsNone, is_some}
use Rattle.std.proofs.Common.{refl, sym, ap, ◌∙◌, subst, inl, inr}
use Rattle.btr_scrub.proofs.Common.{Candidate, Failing, HasPart, Images, In, Layout, Part, Profile, Raid5, Raid6, Range, Read, Row, Target, Write, and_parts}
use Rattle.btr_scrub.proofs.Common.{blocks_at, candidates, element_with, filter_map, flat_map, in_below, is_plain, list_any, mending_writes, mirror_count}
use Rattle.btr_scrub.proofs.Common.{mirrors, new_bytes, option_map_or, own_parts, parities, parity_writes, passing_filter, pasted, range_in_element}
use Rattle.btr_scrub.proofs.Common.{range_with_len, row_writes, size_of, slice_count, slices_with, value_of, without_copies}
use Rattle.std.proofs.Math.Path.{fun_ext}
use Rattle.std.specs.List.{fold, list_all}
use Rattle.btr_chunk.specs.declared.place.Part.TheVariants as part
use Rattle.btr_read.specs.Candidates.{element, slices}
use Rattle.btr_read.specs.Solution.{byte_lists, the_one}
use Rattle.btr_read.specs.declared.candidate.Candidate.TheVariants.{ByP, ByQ, ByBoth}
use Rattle.btr_scrub_row.specs.Rows as rows
use Rattle.btr_scrub_row.specs.Rows.{column_of, differing, differs, is_decided, is_sure, is_surer, meets, sector_write, slice_with, with_block}
use Rattle.btr_scrub.proofs.Agreeing.{filter_map_same, filter_same, SiteAlike, site_alike}
use Rattle.btr_scrub.proofs.Survival.{of_filter}
use Rattle.btr_scrub.proofs.Lists.{mapped, of_filter_map}
use Rattle.btr_scrub.proofs.OwnPlaces.{own_slice}
use Rattle.btr_scrub.proofs.RowValues.{each_candidate}

-- ---- lists

-- what is mapped is the same where each member gives the same
pub map_same : {X Y : Type 0} (f g : X → Y) (xs : List X) → ((x : X) → In x xs → f x ≡ g x) → map f xs ≡ map g xs
map_same f g [] h = refl
map_same f g (x ∷ xs) h = ap (λ y. y ∷ map f xs) (h x (inl refl)) ∙ ap (λ ys. g x ∷ ys) (map_same f g xs (λ y i. h y (inr i)))

-- so it is of those that are made of a list
pub map_mapped : {X Y Z : Type 0} (f : Y → Z) (g h : X → Y) (xs : List X) → ((x : X) → In x xs → f (g x) ≡ f (h x)) → map f (map g xs) ≡ map f (map h xs)
map_mapped f g h [] e = refl
map_mapped f g h (x ∷ xs) e = rw (e x (inl refl), map_mapped f g h xs (λ y i. e y (inr i)))

-- so is what comes of all
pub flat_same : {X Y : Type 0} (f g : X → List Y) (xs : List X) → ((x : X) → In x xs → f x ≡ g x) → flat_map f xs ≡ flat_map g xs
flat_same f g [] h = refl
flat_same f g (x ∷ xs) h = ap (λ ys. ys ++ flat_map f xs) (h x (inl refl)) ∙ ap (λ ys. g x ++ ys) (flat_same f g xs (λ y i. h y (inr i)))

-- so is a fold by the same steps
pub fold_same : {X Y : Type 0} (f g : Y → X → Y) (xs : List X) (y : Y) → ((x : X) → In x xs → (z : Y) → f z x ≡ g z x) → fold f y xs ≡ fold g y xs
fold_same f g [] y h = refl
fold_same f g (x ∷ xs) y h = ap (λ z. fold f z xs) (h x (inl refl) y) ∙ fold_same f g xs (g y x) (λ z i. h z (inr i))

-- the same of those that are made of a list
pub flat_mapped : {X Y Z : Type 0} (f f' : Y → List Z) (g h : X → Y) (xs : List X) → ((x : X) → In x xs → f (g x) ≡ f' (h x))
    → flat_map f (map g xs) ≡ flat_map f' (map h xs)
flat_mapped f f' g h [] e = refl
flat_mapped f f' g h (x ∷ xs) e = rw (e x (inl refl), flat_mapped f f' g h xs (λ y i. e y (inr i)))

-- so is one over what is mapped in two ways
pub fold_mapped : {X Y Z : Type 0} (f f' : Z → Y → Z) (g h : X → Y) (xs : List X) (z : Z) → ((x : X) → In x xs → (z : Z) → f z (g x) ≡ f' z (h x))
    → fold f z (map g xs) ≡ fold f' z (map h xs)
fold_mapped f f' g h [] z e = refl
fold_mapped f f' g h (x ∷ xs) z e = ap (λ y. fold f y (map g xs)) (e x (inl refl) z) ∙ fold_mapped f f' g h xs (f' z (h x)) (λ y i. e y (inr i))

-- tests of all agree where each one does
all_same : {X : Type 0} (f g : X → Bool) (xs : List X) → ((x : X) → In x xs → f x ≡ g x) → list_all f xs ≡ list_all g xs
all_same f g [] h = refl
all_same f g (x ∷ xs) h = ap (λ b. b && list_all f xs) (h x (inl refl)) ∙ ap (λ b. g x && b) (all_same f g xs (λ y i. h y (inr i)))

-- ---- one block

module _ (images images' : Images) (t : Target) (none : mirrors t.chunk ≡ None) (index : t.at.index < slice_count t)
    (same : (part : Part) → HasPart t.chunk.profile (length t.chunk.stripes) part → element images' t part ≡ element images t part) where
  -- each slice is a part of the block's chunk
  slice_has : (k : ℕ) → k < slice_count t → HasPart t.chunk.profile (length t.chunk.stripes) (part.Slice k)
  slice_has k lt = (subst IsNone (sym none) refl, lt)

  -- so its slices are the same
  same_slices : slices images' t ≡ slices images t
  same_slices = map_same (λ k. element images' t (part.Slice k)) (λ k. element images t (part.Slice k)) (range_with_len 0 (slice_count t))
      (λ k i. same (part.Slice k) (slice_has k (in_below (slice_count t) k i)))

  -- its P is the same
  same_p : element images' t part.P ≡ element images t part.P
  same_p = same part.P (subst IsNone (sym none) refl)

  -- its own slice gives the same
  own_value : value_of images' t (Read (part.Slice t.at.index)) ≡ value_of images t (Read (part.Slice t.at.index))
  own_value = same (part.Slice t.at.index) (slice_has t.at.index index)

  -- what P gives for it is the same
  p_value : value_of images' t ByP ≡ value_of images t ByP
  p_value = ap (the_one (size_of t)) (fun_ext (λ X. rw (same_slices, same_p)))

  module _ (six : t.chunk.profile ≡ Raid6) where
    -- its Q is the same
    same_q : element images' t part.Q ≡ element images t part.Q
    same_q = same part.Q six

    -- what Q gives for it is the same
    q_value : value_of images' t ByQ ≡ value_of images t ByQ
    q_value = ap (the_one (size_of t)) (fun_ext (λ X. rw (same_slices, same_q)))

    -- what both give for it, without another slice, is the same
    both_value : (j : ℕ) → value_of images' t (ByBoth j) ≡ value_of images t (ByBoth j)
    both_value j = ap (the_one (size_of t)) (fun_ext (λ X. ap (λ f. list_any f (byte_lists (size_of t))) (fun_ext (λ Y. rw (same_slices, same_p, same_q)))))

  -- each candidate gives the same
  pub values : (c : Candidate) → In c (candidates t) → value_of images' t c ≡ value_of images t c
  values = each_candidate t none index (λ c. value_of images' t c ≡ value_of images t c) own_value p_value q_value (λ six j lt ne. both_value six j)

  -- the same bytes stand at its own place
  owns : (q : Part) → In q (own_parts t) → element images' t q ≡ element images t q
  owns q i = subst (λ q. element images' t q ≡ element images t q) (own_slice t q none i) (same (part.Slice t.at.index) (slice_has t.at.index index))

  -- a block whose slices and parities are the same
  pub parity_alike : (fails : Failing) → SiteAlike fails fails images images' t
  parity_alike = site_alike images images' t values owns

-- ---- a row

-- the parities of a profile are parts of it
pub parity_has : (p : Profile) (n : ℕ) (q : Part) → mirror_count p n ≡ None → In q (parities p) → HasPart p n q × ((q ≡ part.P) ⊎ (q ≡ part.Q))
parity_has p n q none i = elim (without_copies p n none) [
  | inl five ↦ subst (λ p. HasPart p n q × ((q ≡ part.P) ⊎ (q ≡ part.Q))) (sym five) (with_one (subst (λ p. In q (parities p)) five i))
  | inr six ↦ subst (λ p. HasPart p n q × ((q ≡ part.P) ⊎ (q ≡ part.Q))) (sym six) (with_two (subst (λ p. In q (parities p)) six i))
]
  where
    -- where there is one parity, it is P
    with_one : In q (part.P ∷ []) → HasPart Raid5 n q × ((q ≡ part.P) ⊎ (q ≡ part.Q))
    with_one (inl e) = subst (λ q. HasPart Raid5 n q × ((q ≡ part.P) ⊎ (q ≡ part.Q))) e (refl, inl refl)
    with_one (inr h) = absurd h

    -- where there are two, they are P and Q
    with_two : In q (part.P ∷ part.Q ∷ []) → HasPart Raid6 n q × ((q ≡ part.P) ⊎ (q ≡ part.Q))
    with_two (inl e) = subst (λ q. HasPart Raid6 n q × ((q ≡ part.P) ⊎ (q ≡ part.Q))) e (refl, inl refl)
    with_two (inr (inl e)) = subst (λ q. HasPart Raid6 n q × ((q ≡ part.P) ⊎ (q ≡ part.Q))) e (refl, inr refl)
    with_two (inr (inr h)) = absurd h

-- a write for a parity is that of a column that is decided and differs, with the bytes that it should have
pub record IsSector (images : Images) (layout : Layout) (row : Row) (q : Part) (w : Write) : Type 0 where
  pub column : ℕ
  pub few : column < 16
  pub decided : is_decided images layout row column ≡ true
  pub differs : differs images layout row q column ≡ true
  pub range : range_in_element layout row q (column * 4096) 4096 ≡ Some w.range
  pub bytes : column_of column (element_with images layout (new_bytes images row.failing) row q) ≡ w.bytes

-- what is written of a parity is a sector of it in a column that is decided and differs
pub is_sector : (images : Images) (layout : Layout) (row : Row) (q : Part) (w : Write) → In w (parity_writes images layout row q)
    → IsSector images layout row q w
is_sector images layout row q w i =
    let f = of_filter_map (sector_write images layout row q) w (differing images layout row q) i in
    let d = passing_filter (λ column. is_decided images layout row column && differs images layout row q column) f.0 (range_with_len 0 16) f.1 in
    let both = and_parts (is_decided images layout row f.0) (differs images layout row q f.0) d.1 in
    let m = mapped (λ (range : Range). record { range = range; bytes = column_of f.0 (element_with images layout (new_bytes images row.failing) row q) })
    (range_in_element layout row q (f.0 * 4096) 4096) w f.2 in
    record {
      column = f.0;
      few = in_below 16 f.0 d.0;
      decided = both.0;
      differs = both.1;
      range = m.1 ∙ ap Some (ap (λ (v : Write). v.range) m.2);
      bytes = ap (λ (v : Write). v.bytes) m.2;
    }

-- a row, beside other images that fail
abbrev pub beside : Failing → Row → Row
beside also row = record { chunk = row.chunk; number = row.number; blocks = row.blocks; failing = also }

-- what is told of a row
pub record RowAlike (images images' : Images) (layout : Layout) (row : Row) (also : Failing) : Type 0 where
  pub blocks : (t : Target) → In t row.blocks → SiteAlike row.failing also images images' t
  pub parities : (q : Part) → In q (parities row.chunk.profile) → parity_writes images' layout (beside also row) q ≡ parity_writes images layout row q

-- then the same is written for the full stripe
pub row_writes_alike : (images images' : Images) (layout : Layout) (row : Row) (also : Failing) → RowAlike images images' layout row also
    → row_writes images' layout (beside also row) ≡ row_writes images layout row
row_writes_alike images images' layout row also a = rw (
  flat_same (mending_writes images' also) (mending_writes images row.failing) row.blocks (λ t i. (a.blocks t i).writes),
  flat_same (parity_writes images' layout (beside also row)) (parity_writes images layout row) (parities row.chunk.profile) a.parities,
)

module _ (images images' : Images) (layout : Layout) (row : Row) (also : Failing) (none : mirrors row.chunk ≡ None)
    (same : (q : Part) → HasPart row.chunk.profile (length row.chunk.stripes) q
    → rows.element images' layout (beside also row) q ≡ rows.element images layout row q)
    (blocks : (t : Target) → In t row.blocks → SiteAlike row.failing also images images' t)
    (sures : (t : Target) → In t row.blocks → is_sure images' layout (beside also row) t ≡ is_sure images layout row t) where
  -- the bytes that a block gets change a slice in the same way
  given_same : (t : Target) → In t row.blocks → (bytes : List ℕ) → with_block images' layout (new_bytes images' also) bytes t
      ≡ with_block images layout (new_bytes images row.failing) bytes t
  given_same t i bytes = ap (λ o. option_map_or (pasted bytes t.at.rest) o bytes) (blocks t i).bytes

  -- each slice with its blocks' bytes is the same
  slice_same : (k : ℕ) → k < rows.slice_count row → slice_with images' layout (new_bytes images' also) row k
      ≡ slice_with images layout (new_bytes images row.failing) row k
  slice_same k lt = rw (same (part.Slice k) (subst IsNone (sym none) refl, lt))
      (fold_same (with_block images' layout (new_bytes images' also)) (with_block images layout (new_bytes images row.failing)) (blocks_at row k)
      (rows.element images layout row (part.Slice k)) (λ t i bytes. given_same t (of_filter (λ u. eqb u.at.index k) t row.blocks i) bytes))

  -- so are all the slices
  slices_same : slices_with images' layout (new_bytes images' also) row ≡ slices_with images layout (new_bytes images row.failing) row
  slices_same = map_same (slice_with images' layout (new_bytes images' also) row) (slice_with images layout (new_bytes images row.failing) row)
      (range_with_len 0 (rows.slice_count row)) (λ k i. slice_same k (in_below (rows.slice_count row) k i))

  -- so are its parities
  with_same : (q : Part) → (q ≡ part.P) ⊎ (q ≡ part.Q) → element_with images' layout (new_bytes images' also) row q
      ≡ element_with images layout (new_bytes images row.failing) row q
  with_same q (inl e) = rw (e, slices_same)
  with_same q (inr e) = rw (e, slices_same)

  -- a column is decided in both, or in neither
  decided_same : (column : ℕ) → is_decided images' layout (beside also row) column ≡ is_decided images layout row column
  decided_same column =
      rw (all_same (λ t. not (meets column t) || is_sure images' layout (beside also row) t) (λ t. not (meets column t) || is_sure images layout row t)
      row.blocks (λ t i. rw (sures t i)))

  -- so the same is written for a parity
  parity_same : (q : Part) → In q (parities row.chunk.profile) → parity_writes images' layout (beside also row) q ≡ parity_writes images layout row q
  parity_same q i =
      let has = parity_has row.chunk.profile (length row.chunk.stripes) q none i in
      let wanted = with_same q has.1 in
      let old = same q has.0 in
      ap (filter_map (sector_write images' layout (beside also row) q))
      (filter_same (λ column. is_decided images' layout (beside also row) column && differs images' layout (beside also row) q column)
      (λ column. is_decided images layout row column && differs images layout row q column) (range_with_len 0 16)
      (λ column _. rw (decided_same column, old, wanted)))
      ∙ filter_map_same (sector_write images' layout (beside also row) q) (sector_write images layout row q) (differing images layout row q)
      (λ column _. rw wanted)

  -- a row whose elements and blocks are the same
  pub row_alike : RowAlike images images' layout row also
  row_alike = record { blocks = blocks; parities = parity_same }

-- what stands in a block's place is sure as before, where it gets the same
pub sure_same : (images images' : Images) (layout : Layout) (row : Row) (t : Target) → new_bytes images' row.failing t ≡ new_bytes images row.failing t
    → is_sure images' layout row t ≡ is_sure images layout row t
sure_same images images' layout row t e = ap (λ o. is_some o || is_plain t.want && is_surer images layout row t) e

-- ---- beside other images that fail

-- what comes of a checked block doesn't hang on them
pub checked_alike : (fails also : Failing) (images : Images) (t : Target) → is_plain t.want ≡ false → SiteAlike fails also images images t
checked_alike fails also images t e = record { writes = rw e; wrong = rw e; bytes = rw e; lost = refl; counts = λ write tally. rw e }

-- so what comes of a row without plain sectors doesn't either
pub checked_row : (images : Images) (layout : Layout) (row : Row) (also : Failing) → mirrors row.chunk ≡ None
    → ((t : Target) → In t row.blocks → is_plain t.want ≡ false) → RowAlike images images layout row also
checked_row images layout row also none checked =
    row_alike images images layout row also none (λ q has. refl) (λ t i. checked_alike row.failing also images t (checked t i))
    (λ t i. rw ((checked_alike row.failing also images t (checked t i)).bytes, checked t i))
