-- Writes that have at most as many bytes as their ranges change nothing but those.
use Rattle.std.proofs.Common.{◌≡◌, ◌⊎◌, ℕ, suc, ◌+◌, ◌<◌, ◌≤◌, Bool, true, false, ◌&&◌, leb, ltb, List, [], ◌∷◌, map, length, get_or, set, refl, sym, ap, ◌-◌}
use Rattle.std.proofs.Common.{subst, ◌∙◌, inl, inr, arith, All}
use Rattle.btr_scrub.proofs.Common.{Images, In, KeepsOutside, Range, Write, cases_lt, covers, eq-eqb, false_from_ne_true, false≢true, flat_map, fold, image_of}
use Rattle.btr_scrub.proofs.Common.{le-leb, length-pasted, list_any, lt-ltb, or_parts, pasted, write_on, writes_if}
use Rattle.std.proofs.lemmas.Bool.{cases_eq, or_from}
use Rattle.std.proofs.lemmas.List.{length-set, get_or-set_same, get_or-set_other, set_past, get_or_past}
use Rattle.btr_rack.specs.Rack.{written}
use Rattle.btr_scrub.specs.WrittenRanges.{WritesKeepTheRest}
use Rattle.btr_scrub_row.proofs.Pasted.{pasted-outside, pasted-within}
use Rattle.btr_scrub.proofs.Lists.{any_flat, any_map}
use Rattle.std.proofs.lemmas.List.Elements.{All-nil, All-append}
use Rattle.btr_scrub.proofs.Places.{covering}

-- a byte that a range doesn't cover lies outside
pub not_covered : (slot off : ℕ) (range : Range) → covers slot off range ≡ false → range.slot ≡ slot → (off < range.off) ⊎ (range.off + range.len ≤ off)
not_covered slot off range e same = elim (cases_lt off range.off) [
  | inl lt ↦ inl lt
  | inr le ↦ elim (cases_lt off (range.off + range.len)) [
    | inl below ↦
        let yes : covers slot off range ≡ true = ap (λ b. (b && leb range.off off) && ltb off (range.off + range.len)) (eq-eqb range.slot slot same)
        ∙ ap (λ b. b && ltb off (range.off + range.len)) (le-leb range.off off le)
        ∙ lt-ltb off (range.off + range.len) below in
        absurd (false≢true (sym e ∙ yes))
    | inr past ↦ inr past
  ]
]

-- the image in a slot, after one in a slot was replaced
pub image_set : (images : Images) (slot s : ℕ) (new : List ℕ) → (length new ≡ length (image_of images slot))
    → length (image_of (set images slot new) s) ≡ length (image_of images s)
image_set images slot s new long = elim (cases_eq s slot) [
  | inl e ↦ elim (cases_lt slot (length images)) [
    | inl lt ↦ ap (λ k. length (get_or (set images slot new) k [])) e ∙ ap length (get_or-set_same images slot new [] lt) ∙ long
        ∙ ap (λ k. length (get_or images k [])) (sym e)
    | inr le ↦ ap (λ xs. length (get_or xs s [])) (set_past images slot new le)
  ]
  | inr ne ↦ ap length (get_or-set_other images slot s new [] ne)
]

-- images differ from themselves in no range
pub keeps_none : (images : Images) → KeepsOutside [] images images
keeps_none images = record { count = refl; lengths = λ slot. refl; bytes = λ slot off e. refl }

-- one range and then others
pub keeps_more : (range : Range) (ranges : List Range) (a b c : Images) → KeepsOutside (range ∷ []) a b → KeepsOutside ranges b c
    → KeepsOutside (range ∷ ranges) a c
keeps_more range ranges a b c one more = record {
  count = more.count ∙ one.count;
  lengths = λ slot. more.lengths slot ∙ one.lengths slot;
  bytes = λ slot off e.
      let apart = or_parts (covers slot off range) (list_any (covers slot off) ranges) e in
      more.bytes slot off apart.1 ∙ one.bytes slot off (or_from (covers slot off range) false apart.0 refl);
}

-- a write lies in its image, and has at most as many bytes as its range
pub record Short (images : Images) (write : Write) : Type 0 where
  pub short : length write.bytes ≤ write.range.len
  pub within : write.range.off + write.range.len ≤ length (image_of images write.range.slot)

-- a write that fits changes its range at most
pub one_short : (images : Images) (range : Range) (bytes : List ℕ) → length bytes ≤ range.len → range.off
    + range.len ≤ length (image_of images range.slot) → KeepsOutside (range ∷ []) images (written images range.slot range.off bytes)
one_short images range bytes short within =
    let image = image_of images range.slot in
    let new = pasted image range.off bytes in
    let fits : range.off + length bytes ≤ length image = omega (arith, short, within) in
    record {
      count = length-set images range.slot new;
      lengths = λ slot. image_set images range.slot slot new (length-pasted image range.off bytes fits);
      bytes = λ slot off e. elim (cases_eq slot range.slot) [
        | inl same ↦ elim (cases_lt range.slot (length images)) [
          | inl lt ↦
              ap (λ k. get_or (get_or (set images range.slot new) k []) off 0) same
              ∙ ap (λ xs. get_or xs off 0) (get_or-set_same images range.slot new [] lt)
              ∙ pasted-outside image range.off bytes fits off 0 (outside off
              (not_covered slot off range (or_parts (covers slot off range) false e).0 (sym same)))
              ∙ ap (λ k. get_or (get_or images k []) off 0) (sym same)
          | inr le ↦ ap (λ xs. get_or (get_or xs slot []) off 0) (set_past images range.slot new le)
        ]
        | inr ne ↦ ap (λ xs. get_or xs off 0) (get_or-set_other images range.slot slot new [] ne)
      ];
    }
  where
    -- what lies outside the range lies outside the bytes
    outside : (off : ℕ) → (off < range.off) ⊎ (range.off + range.len ≤ off) → (off < range.off) ⊎ (range.off + length bytes ≤ off)
    outside off (inl lt) = inl lt
    outside off (inr le) = inr (omega (arith, le, short))

-- so do writes that fit
pub shorts_keep : (images : Images) (writes : List Write) → All (Short images) writes
    → KeepsOutside (map (λ (write : Write). write.range) writes) images (fold write_on images writes)
shorts_keep images [] fit = keeps_none images
shorts_keep images (write ∷ writes) fit =
    let f = fit 0 write (omega arith) in
    let one = one_short images write.range write.bytes f.short f.within in
    keeps_more write.range (map (λ (w : Write). w.range) writes) images (write_on images write) (fold write_on (write_on images write) writes) one
    (shorts_keep (write_on images write) writes (λ i d below.
    let g = fit (suc i) d (omega (arith, below)) in
    record { short = g.short; within = omega (arith, g.within, one.lengths (get_or writes i d).range.slot) }))

-- whether they are done or not
pub shorts_keep_if : (write : Bool) (images : Images) (ws : List Write) → All (Short images) ws
    → KeepsOutside (map (λ (w : Write). w.range) ws) images (fold write_on images (writes_if write ws))
shorts_keep_if true images ws fit = shorts_keep images ws fit
shorts_keep_if false images ws fit = record { count = refl; lengths = λ slot. refl; bytes = λ slot off e. refl }

-- writes that fit change nothing but their ranges
pub writes_keep_the_rest : WritesKeepTheRest
writes_keep_the_rest images writes fit =
    shorts_keep images writes (λ i d below. let f = fit i d below in record { short = omega (arith, f.long); within = f.within })

-- ---- writes for some items

-- a byte that is written for some items is written for one of them
pub written_by : {X : Type 0} (slot off : ℕ) (f : X → List Write) (xs : List X)
    → list_any (covers slot off) (map (λ (w : Write). w.range) (flat_map f xs)) ≡ true
    → (x : X) × In x xs × (list_any (λ (w : Write). covers slot off w.range) (f x) ≡ true)
written_by slot off f xs h =
    any_flat (λ (w : Write). covers slot off w.range) f xs (sym (any_map (covers slot off) (λ (w : Write). w.range) (flat_map f xs)) ∙ h)

-- so one that is written for none of them isn't written
pub unwritten : {X : Type 0} (slot off : ℕ) (f : X → List Write) (xs : List X)
    → ((x : X) → In x xs → list_any (λ (w : Write). covers slot off w.range) (f x) ≡ true → ⊥)
    → list_any (covers slot off) (map (λ (w : Write). w.range) (flat_map f xs)) ≡ false
unwritten slot off f xs none = false_from_ne_true (list_any (covers slot off) (map (λ (w : Write). w.range) (flat_map f xs)))
    (λ e. let x = written_by slot off f xs e in none x.0 x.1 x.2)

-- they have at most as many bytes as their ranges where those of each have
pub flat_short : {X : Type 0} (images : Images) (f : X → List Write) (xs : List X) → ((x : X) → In x xs → All (Short images) (f x))
    → All (Short images) (flat_map f xs)
flat_short images f [] h = All-nil (Short images)
flat_short images f (x ∷ xs) h = All-append (Short images) (f x) (flat_map f xs) (h x (inl refl)) (flat_short images f xs (λ y i. h y (inr i)))

-- What is told of an item hangs on the bytes of some places. It stays when others are mended that write none of those, and when nothing is written.
pub unmoved_by : {X : Type 0} (write : Bool) (images : Images) (f : X → List Write) (xs : List X) (Here : ℕ → ℕ → Type 0) (Told : Images → Type 0)
    → ((x : X) → In x xs → All (Short images) (f x))
    → ((x : X) → In x xs → (slot off : ℕ) → list_any (λ (w : Write). covers slot off w.range) (f x) ≡ true → Here slot off → ⊥)
    → ((images' : Images) (ranges : List Range) → KeepsOutside ranges images images'
    → ((slot off : ℕ) → Here slot off → list_any (covers slot off) ranges ≡ false) → Told images')
    → Told (fold write_on images (writes_if write (flat_map f xs)))
unmoved_by write images f xs Here Told short apart stays =
    let ws = flat_map f xs in
    stays (fold write_on images (writes_if write ws)) (map (λ (w : Write). w.range) ws) (shorts_keep_if write images ws (flat_short images f xs short))
    (λ slot off here. unwritten slot off f xs (λ x i h. apart x i slot off h here))

-- ---- a byte that one write brings

module _ (slot off : ℕ) (w : Write) (long : length w.bytes ≡ w.range.len) (there : covers slot off w.range ≡ true) where
  -- the byte is the one that the write brings
  abbrev IsBrought : Images → Type 0
  IsBrought images = get_or (image_of images slot) off 0 ≡ get_or w.bytes (off - w.range.off) 0

  -- the write brings it
  brought : (images : Images) → Short images w → IsBrought (write_on images w)
  brought images f =
      let c = covering slot off w.range there in
      let image = image_of images w.range.slot in
      elim (cases_lt w.range.slot (length images)) [
        | inl lt ↦ ap (λ s. get_or (image_of (write_on images w) s) off 0) (sym c.0)
            ∙ ap (λ xs. get_or xs off 0) (get_or-set_same images w.range.slot (pasted image w.range.off w.bytes) [] lt)
            ∙ pasted-within image w.range.off w.bytes (omega (arith, f.within, long)) off 0 c.1 (omega (arith, c.2, long))
        | inr past ↦ absurd (omega (arith, f.within, c.1, c.2, ap length (get_or_past images w.range.slot [] past)))
      ]

  -- it stays behind others that don't cover it, and is there where the write is among them
  pub stays_brought : (images : Images) (ws : List Write) → All (Short images) ws → ((v : Write) → In v ws → covers slot off v.range ≡ true → v ≡ w)
      → IsBrought images ⊎ In w ws → IsBrought (fold write_on images ws)
  stays_brought images [] fit only (inl b) = b
  stays_brought images [] fit only (inr i) = absurd i
  stays_brought images (v ∷ ws) fit only h =
      stays_brought (write_on images v) ws (λ i d below. let g = fit (suc i) d (omega (arith, below)) in
      record { short = g.short; within = omega (arith, g.within, one.lengths (get_or ws i d).range.slot) }) (λ u i. only u (inr i))
      (by (covers slot off v.range) refl h)
    where
      -- the first write fits
      f : Short images v
      f = fit 0 v (omega arith)

      -- it changes nothing outside its range
      one : KeepsOutside (v.range ∷ []) images (write_on images v)
      one = one_short images v.range v.bytes f.short f.within

      by : (b : Bool) → covers slot off v.range ≡ b → IsBrought images ⊎ In w (v ∷ ws) → IsBrought (write_on images v) ⊎ In w ws
      by true e h =
          let same = only v (inl refl) e in
          inl (subst (λ u. IsBrought (write_on images u)) (sym same) (brought images (subst (Short images) same f)))
      by false e (inl b) = inl (one.bytes slot off (or_from (covers slot off v.range) false e refl) ∙ b)
      by false e (inr (inl same)) = absurd (false≢true (sym e ∙ ap (λ (u : Write). covers slot off u.range) same ∙ there))
      by false e (inr (inr i)) = inr i
