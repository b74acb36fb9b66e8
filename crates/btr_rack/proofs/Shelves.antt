-- What the calls of a rack in memory do to its images by name.
use Rattle.std.proofs.Common.{◌≡◌, ◌≢◌, ℕ, zero, suc, ◌+◌, ◌<◌, ◌≤◌, Bool, true, false, cond, List, [], ◌∷◌, length, map, take, drop, get_or, set, Option, Some}
use Rattle.std.proofs.Common.{None, refl, sym, ap, ◌∙◌, subst, arith}
use Rattle.std.specs.List.{find, position, list_any, range_with_len}
use Rattle.std.specs.Option.{IfSome, option_map}
use Rattle.std.specs.Str.{bytes_eq}
use Rattle.std.proofs.lemmas.Bool.{false_from_ne_true}
use Rattle.std.proofs.lemmas.Slice.Eq.{bytes_eq-Decides}
use Rattle.std.proofs.lemmas.List.{get_or_default, get_or-drop, take-set-le}
use Rattle.std.proofs.lemmas.List.FromFn.{length-map-range_with_len}
use Rattle.std.proofs.lemmas.List.Folds.{find-set, find_past}
use Rattle.std.proofs.lemmas.List.Quantifiers.{position-Some}
use Rattle.btr_rack.specs.Rack.{pasted}
use Rattle.btr_rack.specs.Image.{MemoryImage, bytes_in, is_named, page_byte, shortened}
use Rattle.btr_rack.specs.Images.{StandsAt, Overwrites, CutsImage}
use Rattle.btr_rack.specs.Memory.{MemoryRack, Rewrites, Cuts}
use Rattle.btr_rack.proofs.Racks.{stands_at, stands_nowhere, finds, on_shelf, slots-set}

-- a name that was not found on the shelf may not be opened
none_on : (open? : Bool) (place : Option ℕ) (found : Option MemoryImage) → (None ≡ place → found ≡ None) → None ≡ cond open? None place
    → cond open? None (option_map bytes_in found) ≡ None
none_on true place found nowhere e = refl
none_on false place found nowhere e = ap (option_map bytes_in) (nowhere e)

-- a name that is open, or of no image on the shelf, may not be opened
pub shelf_nowhere : (name : List ℕ) (images : List MemoryImage) (opened : ℕ) → None
    ≡ cond (list_any (is_named name) (take opened images)) None (position (is_named name) (drop opened images))
    → cond (list_any (is_named name) (take opened images)) None (option_map bytes_in (find (is_named name) (drop opened images))) ≡ None
shelf_nowhere name images opened e = none_on (list_any (is_named name) (take opened images)) (position (is_named name) (drop opened images))
    (find (is_named name) (drop opened images)) (stands_nowhere name (drop opened images)) e

-- and one that was found may be
pub shelf_at : (name : List ℕ) (images : List MemoryImage) (opened at : ℕ) (d : MemoryImage) → Some at
    ≡ cond (list_any (is_named name) (take opened images)) None (position (is_named name) (drop opened images))
    → cond (list_any (is_named name) (take opened images)) None (option_map bytes_in (find (is_named name) (drop opened images)))
    ≡ Some (bytes_in (get_or images (opened + at) d))
shelf_at name images opened at d e =
    let placed = on_shelf (list_any (is_named name) (take opened images)) (position (is_named name) (drop opened images)) at e in
    ap (λ b. cond b None (option_map bytes_in (find (is_named name) (drop opened images)))) placed.0
    ∙ ap (option_map bytes_in) (finds name (drop opened images) at d (stands_at name (drop opened images) at placed.1)
    ∙ ap Some (get_or-drop opened images at d))

-- the image that stands first under a name has that name
pub stands-named : (name : List ℕ) (images : List MemoryImage) (at : ℕ) (d : MemoryImage) → Some at ≡ position (is_named name) images
    → is_named name (get_or images at d) ≡ true
stands-named name images at d e = (position-Some (is_named name) images at d (sym e)).1

-- an image of a name is not of another
not-named : (name other : List ℕ) (image : MemoryImage) → is_named name image ≡ true → other ≢ name → is_named other image ≡ false
not-named name other image is apart =
    false_from_ne_true (is_named other image) (λ e. apart (sym ((bytes_eq-Decides image.slot.name other).0 e) ∙ (bytes_eq-Decides image.slot.name name).0 is))

-- Writing over the image of a name.
pub rewrites : (name : List ℕ) (off at : ℕ) (bytes : List ℕ) (old : MemoryRack) (ys : List MemoryImage) (image : MemoryImage) → Some at
    ≡ position (is_named name) old.images
    → image ≡ get_or old.images at image → off + length bytes ≤ image.slot.len → Overwrites at off bytes old.images ys
    → Rewrites name off bytes old (record old { images = ys })
rewrites name off at bytes old ys image found read fits o = record {
  image = bytes_in image;
  stood = ap (option_map bytes_in) (finds name old.images at image s ∙ ap Some (sym read));
  fits = omega (arith, length-map-range_with_len (page_byte image.pages) 0 image.slot.len);
  written = ap (λ zs. option_map bytes_in (find (is_named name) zs)) o.now
      ∙ ap (option_map bytes_in) (find-set (is_named name) old.images at o.after s.first s.within called)
      ∙ ap Some (o.pasted_in ∙ ap (λ i. pasted (bytes_in i) off bytes) same);
  others = λ other apart.
      let was : is_named other (get_or old.images at image) ≡ false =
      not-named name other (get_or old.images at image) (stands-named name old.images at image found) apart in
      ap (λ zs. option_map bytes_in (find (is_named other) zs)) o.now
      ∙ ap (option_map bytes_in) (find_past (is_named other) old.images at o.after image was (not-named name other o.after called apart));
  slots = ap (λ zs. map (λ (i : MemoryImage). i.slot) (take old.opened zs)) o.now
      ∙ slots-set old.images old.opened at o.after o.before (o.slot ∙ ap (λ (i : MemoryImage). i.slot) o.stood);
  failing = refl;
  unsynced = refl;
  never_synced = refl;
  account = refl;
}
  where
    -- the first image of the name stands at the place
    s : StandsAt name old.images at
    s = stands_at name old.images at found

    -- the image that was written over is the one that was found
    same : o.before ≡ image
    same = o.stood ∙ get_or_default old.images at o.before image (stands_at name old.images at found).within ∙ sym read

    -- the image that was written over has the name still
    called : is_named name o.after ≡ true
    called = ap (λ (n : List ℕ). bytes_eq n name) (ap (λ s. s.name) o.slot)
        ∙ ap (is_named name) (o.stood ∙ get_or_default old.images at o.before image (stands_at name old.images at found).within)
        ∙ stands-named name old.images at image found

-- Shortening an image of the shelf.
drop-set-behind : {X : Type 0} (xs : List X) (o at j : ℕ) (y : X) → j ≡ o + at → drop o (set xs j y) ≡ set (drop o xs) at y
drop-set-behind {X} xs zero at j y e = ap (λ k. set xs k y) (omega arith)
drop-set-behind [] (suc o) at j y e = refl
drop-set-behind (x ∷ xs) (suc o) at zero y e = absurd (omega arith)
drop-set-behind (x ∷ xs) (suc o) at (suc j) y e = drop-set-behind xs o at j y (omega arith)

-- the first bytes of what a function makes are what it makes of fewer
take-made : (f : ℕ → ℕ) (a n m : ℕ) → n ≤ m → take n (map f (range_with_len a m)) ≡ map f (range_with_len a n)
take-made f a zero m le = refl
take-made f a (suc n) zero le = absurd (omega arith)
take-made f a (suc n) (suc m) le = ap (λ (xs : List ℕ). f a ∷ xs) (take-made f (a + 1) n m (omega arith))

-- cutting an image of the shelf shortens it under its name, or is refused where it is shorter
pub cuts : (name : List ℕ) (len at : ℕ) (old : MemoryRack) (ys : List MemoryImage) (result : Bool)
    → Some at ≡ cond (list_any (is_named name) (take old.opened old.images)) None (position (is_named name) (drop old.opened old.images))
    → CutsImage (old.opened + at) len old.images ys result → Cuts name len old (record old { images = ys }) result
cuts name len at old ys false found c = (
  subst (λ shelved. IfSome shelved (λ bytes. length bytes < len))
      (sym (shelf_at name old.images old.opened at c.0 found ∙ ap (λ i. Some (bytes_in i)) (sym c.1)))
      (omega (arith, c.2, length-map-range_with_len (page_byte (c.0).pages) 0 (c.0).slot.len)),
  ap (λ zs. record old { images = zs }) c.3,
)
cuts name len at old ys true found c = record {
  image = bytes_in c.0;
  stood = shelf_at name old.images old.opened at c.0 found ∙ ap (λ i. Some (bytes_in i)) (sym c.1);
  fits = omega (arith, c.2, length-map-range_with_len (page_byte (c.0).pages) 0 (c.0).slot.len);
  cut = ap (λ zs. cond (list_any (is_named name) zs) None (option_map bytes_in (find (is_named name) (drop old.opened ys)))) front
      ∙ ap (λ b. cond b None (option_map bytes_in (find (is_named name) (drop old.opened ys)))) placed.0
      ∙ ap (λ zs. option_map bytes_in (find (is_named name) zs)) rest
      ∙ ap (option_map bytes_in) (find-set (is_named name) (drop old.opened old.images) at (shortened len c.0) s.first s.within called)
      ∙ ap Some (sym (take-made (page_byte (c.0).pages) 0 len (c.0).slot.len c.2));
  others = λ other apart.
      ap (λ zs. cond (list_any (is_named other) zs) None (option_map bytes_in (find (is_named other) (drop old.opened ys)))) front
      ∙ ap (λ (r : Option MemoryImage). cond (list_any (is_named other) (take old.opened old.images)) None (option_map bytes_in r))
      (ap (find (is_named other)) rest ∙ find_past (is_named other) (drop old.opened old.images) at (shortened len c.0) c.0
      (not-named name other (get_or (drop old.opened old.images) at c.0) (stands-named name (drop old.opened old.images) at c.0 placed.1) apart)
      (not-named name other c.0 called apart));
  opened = front;
  failing = refl;
  unsynced = refl;
  never_synced = refl;
  account = refl;
}
  where
    -- the name is not open, and stands at its place on the shelf
    placed : (list_any (is_named name) (take old.opened old.images) ≡ false) × (Some at ≡ position (is_named name) (drop old.opened old.images))
    placed = on_shelf (list_any (is_named name) (take old.opened old.images)) (position (is_named name) (drop old.opened old.images)) at found

    -- the first image of the name on the shelf stands at the place
    s : StandsAt name (drop old.opened old.images) at
    s = stands_at name (drop old.opened old.images) at (on_shelf (list_any (is_named name) (take old.opened old.images))
        (position (is_named name) (drop old.opened old.images)) at found).1

    -- the open images are as before
    front : take old.opened ys ≡ take old.opened old.images
    front = ap (take old.opened) c.3 ∙ take-set-le old.opened old.images (old.opened + at) (shortened len c.0) (omega arith)

    -- the shelf has the shortened image in its place
    rest : drop old.opened ys ≡ set (drop old.opened old.images) at (shortened len c.0)
    rest = ap (drop old.opened) c.3 ∙ drop-set-behind old.images old.opened at (old.opened + at) (shortened len c.0) refl

    -- the image that was cut has the name
    called : is_named name c.0 ≡ true
    called = ap (is_named name) (c.1 ∙ sym (get_or-drop old.opened old.images at c.0))
        ∙ stands-named name (drop old.opened old.images) at c.0
        (on_shelf (list_any (is_named name) (take old.opened old.images)) (position (is_named name) (drop old.opened old.images)) at found).1
