-- The images of a rack in memory.
use Rattle.std.proofs.Common.{◌≡◌, ℕ, zero, suc, ◌+◌, ◌-◌, ◌<◌, ◌≤◌, Bool, true, false, cond, ◌||◌, List, [], ◌∷◌, ◌++◌, length, map, take, drop, get_or, set}
use Rattle.std.proofs.Common.{nat_lt, Option, Some, None, Result, Ok, Err, refl, replicate, sym, ap, ◌∙◌, subst, arith, add-one}
use Rattle.std.specs.List.{slice_get, find, position, position_or_len, insert, remove, list_any}
use Rattle.std.specs.Option.{MatchOption, is_some, option_map}
use Rattle.std.specs.Str.{bytes_eq}
use Rattle.std.proofs.Math.Bool.{or-false}
use Rattle.std.proofs.Math.Seq.{take-set-lt, map-set_same}
use Rattle.std.proofs.lemmas.Bool.{false_from_ne_true}
use Rattle.std.proofs.lemmas.Bool.Decides.{nat_tests}
use Rattle.std.proofs.lemmas.Slice.Eq.{bytes_eq-Decides}
use Rattle.std.proofs.lemmas.List.{map_push, map-set, drop-set-lt, get_or-map, get_or-drop, get_or-take, length-map, length-take, length-drop, length-replicate}
use Rattle.std.proofs.lemmas.List.{set-get_or, get_or_default, take-map}
use Rattle.std.proofs.lemmas.List.FromFn.{length-map-range_with_len}
use Rattle.std.proofs.lemmas.List.Folds.{find_at, list_any-append}
use Rattle.std.proofs.lemmas.List.Quantifiers.{position-Some}
use Rattle.btr_rack.specs.Rack.{Slot, no_slot, slot_at, len_of, image_of, bytes_of, pasted, written, Opens, TakesImage}
use Rattle.btr_rack.specs.Image.{MemoryImage, bytes_in, is_named, opened_for, page_byte, zeros}
use Rattle.btr_base.specs.declared.memory.Memory.{Memory}
use Rattle.btr_rack.specs.declared.error.RackError.TheVariants.{Failed}
use Rattle.btr_rack.specs.Memory.{Tears}
use Rattle.btr_rack.specs.Images.{StandsAt, Moves, Overwrites, TearsImage}
use Rattle.btr_rack.proofs.Patches.{pasted-same}

-- the first element that passes, and past the end
pub get-within : {X : Type 0} (xs : List X) (i : ℕ) (d : X) → i < length xs → slice_get xs i ≡ Some (get_or xs i d)
get-within [] i d lt = absurd (omega arith)
get-within (x ∷ xs) zero d lt = refl
get-within (x ∷ xs) (suc i) d lt = get-within xs i d (omega arith)

-- past the end of a list nothing stands
pub get-past : {X : Type 0} (xs : List X) (i : ℕ) → length xs ≤ i → slice_get xs i ≡ None
get-past [] i le = refl
get-past (x ∷ xs) zero le = absurd (omega arith)
get-past (x ∷ xs) (suc i) le = get-past xs i (omega arith)

-- what `position` says of the first image of a name
stands : (name : List ℕ) (images : List MemoryImage) → MatchOption (position (is_named name) images) (find (is_named name) images ≡ None) (StandsAt name images)
stands name images =
    cases (nat_lt (position_or_len (is_named name) images) (length images)) refl
  where
    -- the first image of a name, by whether its place is one of the list
    cases : (b : Bool) → b ≡ nat_lt (position_or_len (is_named name) images) (length images)
        → MatchOption (cond b (Some (position_or_len (is_named name) images)) None) (find (is_named name) images ≡ None) (StandsAt name images)
    cases true e = record { within = grind (arith, nat_tests, e); first = refl }
    cases false e =
        let past : length images ≤ position_or_len (is_named name) images = grind (arith, nat_tests, e) in
        find_at (is_named name) images ∙ get-past images _ past

-- where an image of a name is found at a place, the first of that name stands there
pub stands_at : (name : List ℕ) (images : List MemoryImage) (at : ℕ) → Some at ≡ position (is_named name) images → StandsAt name images at
stands_at name images at e = subst (λ found. MatchOption found (find (is_named name) images ≡ None) (StandsAt name images)) (sym e) (stands name images)

-- where no place of a name is found, no image has the name
pub stands_nowhere : (name : List ℕ) (images : List MemoryImage) → None ≡ position (is_named name) images → find (is_named name) images ≡ None
stands_nowhere name images e = subst (λ found. MatchOption found (find (is_named name) images ≡ None) (StandsAt name images)) (sym e) (stands name images)

-- the image that stands there is found
pub finds : (name : List ℕ) (images : List MemoryImage) (at : ℕ) (d : MemoryImage) → StandsAt name images at → find (is_named name) images
    ≡ Some (get_or images at d)
finds name images at d s = find_at (is_named name) images ∙ ap (slice_get images) (sym s.first) ∙ get-within images at d s.within

-- the image that was read at its place is found
pub finds_read : (name : List ℕ) (images : List MemoryImage) (at : ℕ) (image : MemoryImage) → StandsAt name images at → image ≡ get_or images at image
    → find (is_named name) images ≡ Some image
finds_read name images at image s e = finds name images at image s ∙ ap Some (sym e)

-- a name is that of the first image or of a later one
any_case : (b any : Bool) (image : MemoryImage) (found : Option MemoryImage) → is_some (option_map bytes_in found) ≡ any
    → is_some (option_map bytes_in (cond b (Some image) found)) ≡ (b || any)
any_case true any image found e = refl
any_case false any image found e = e

-- a name that is found is that of some image
pub is_some-named : (name : List ℕ) (images : List MemoryImage) → is_some (option_map bytes_in (find (is_named name) images)) ≡ list_any (is_named name) images
is_some-named name [] = refl
is_some-named name (image ∷ images) = any_case (is_named name image) (list_any (is_named name) images) image (find (is_named name) images)
    (is_some-named name images)

-- a name is that of a slot just where it is that of an image
list_any-slots : (name : List ℕ) (images : List MemoryImage)
    → list_any (λ (s : Slot). bytes_eq s.name name) (map (λ (i : MemoryImage). i.slot) images) ≡ list_any (is_named name) images
list_any-slots name [] = refl
list_any-slots name (image ∷ images) = ap (λ b. is_named name image || b) (list_any-slots name images)

-- Moving the element at a place of the shelf to the shelf's front leaves what is in front of it and the others as they were.
moved-front : {X : Type 0} (xs : List X) (o j : ℕ) (x : X) → o ≤ j → o ≤ length xs → take (suc o) (insert (remove xs j) o x) ≡ take o xs ++ x ∷ []
moved-front xs zero j x le within = refl
moved-front [] (suc o) j x le within = absurd (omega arith)
moved-front (y ∷ xs) (suc o) zero x le within = absurd (omega arith)
moved-front {X} (y ∷ xs) (suc o) (suc j) x le within = ap (λ (ys : List X). y ∷ ys) (moved-front xs o j x (omega arith) (omega arith))

-- moving an image to the shelf's front takes it from the rest of the shelf
moved-rest : {X : Type 0} (xs : List X) (o at j : ℕ) (x : X) → j ≡ o + at → o ≤ length xs → drop (suc o) (insert (remove xs j) o x) ≡ remove (drop o xs) at
moved-rest xs zero at j x e within = ap (remove xs) (omega arith)
moved-rest [] (suc o) at j x e within = absurd (omega arith)
moved-rest (y ∷ xs) (suc o) at zero x e within = absurd (omega arith)
moved-rest (y ∷ xs) (suc o) at (suc j) x e within = moved-rest xs o at j x (omega arith) (omega arith)

-- an element that does not pass can be removed
find-remove : {X : Type 0} (p : X → Bool) (xs : List X) (i : ℕ) (d : X) → i < length xs → p (get_or xs i d) ≡ false → find p (remove xs i) ≡ find p xs
find-remove p [] i d lt fails = absurd (omega arith)
find-remove p (x ∷ xs) zero d lt fails = sym (ap (λ b. cond b (Some x) (find p xs)) fails)
find-remove p (x ∷ xs) (suc i) d lt fails = ap (λ found. cond (p x) (Some x) found) (find-remove p xs i d (omega arith) fails)

-- Opening an image of the shelf.
module _ (name : List ℕ) (write : Bool) (images images' : List MemoryImage) (opened at : ℕ) (within : opened ≤ length images)
    (shut : list_any (is_named name) (take opened images) ≡ false) (found : Some at ≡ position (is_named name) (drop opened images))
    (m : Moves opened at write images images') where
  -- the image that was moved stood at its place of the shelf
  stood : get_or (drop opened images) at m.image ≡ m.image
  stood = get_or-drop opened images at m.image ∙ sym m.stood

  -- the place is one of the shelf, the image there has the name, and none before it has
  placed : (at < length (drop opened images)) × (is_named name (get_or (drop opened images) at m.image) ≡ true)
      × ((k : ℕ) → k < at → is_named name (get_or (drop opened images) k m.image) ≡ false)
  placed = position-Some (is_named name) (drop opened images) at m.image (sym found)

  -- the image that was opened has the name that was asked
  called : m.image.slot.name ≡ name
  called = (bytes_eq-Decides m.image.slot.name name).0 (ap (is_named name) (sym stood) ∙ placed.1)

  -- the open images are the old ones and the one that was opened
  front : take (opened + 1) images' ≡ take opened images ++ opened_for write m.image ∷ []
  front = rw add-one (ap (take (suc opened)) m.moved ∙ moved-front images opened (opened + at) (opened_for write m.image) (omega arith) within)

  -- the rest of the shelf is the old one without the image
  rest : drop (opened + 1) images' ≡ remove (drop opened images) at
  rest = rw add-one (ap (drop (suc opened)) m.moved ∙ moved-rest images opened at (opened + at) (opened_for write m.image) refl within)

  -- the slots
  pub opens : Opens name write (map (λ image. image.slot) (take opened images)) (map (λ image. image.slot) (take (opened + 1) images')) (Ok opened)
  opens = (number, (m.image.slot.len, m.short, appended))
    where
      -- the new slot's number is the number of the old slots
      number : opened ≡ length (map (λ (image : MemoryImage). image.slot) (take opened images))
      number = omega (arith, length-map (take opened images) (λ (image : MemoryImage). image.slot), length-take opened images)

      -- the new slot stands behind the old ones, with the image's length
      appended : map (λ (image : MemoryImage). image.slot) (take (opened + 1) images')
          ≡ map (λ (image : MemoryImage). image.slot) (take opened images) ++ record { name = name; len = m.image.slot.len; write = write } ∷ []
      appended = ap (map (λ (image : MemoryImage). image.slot)) front
          ∙ map_push (λ (image : MemoryImage). image.slot) (take opened images) (opened_for write m.image)
          ∙ ap (λ (n : List ℕ). map (λ (image : MemoryImage). image.slot) (take opened images) ++ record { name = n; len = m.image.slot.len; write = write }
          ∷ []) called

  -- the shelf and the opened images
  named_in : (other : List ℕ) → list_any (is_named other) (take (opened + 1) images')
      ≡ (list_any (is_named other) (take opened images) || (bytes_eq m.image.slot.name other || false))
  named_in other = ap (list_any (is_named other)) front ∙ list_any-append (is_named other) (take opened images) (opened_for write m.image ∷ [])

  -- the image left the shelf under its name, no other did, and its bytes stand last of the open ones
  pub takes : TakesImage name
      (λ n. cond (list_any (is_named n) (take opened images)) None (option_map bytes_in (find (is_named n) (drop opened images))))
      (λ n. cond (list_any (is_named n) (take (opened + 1) images')) None (option_map bytes_in (find (is_named n) (drop (opened + 1) images'))))
      (map bytes_in (take opened images)) (map bytes_in (take (opened + 1) images'))
  takes = record {
    bytes = bytes_in m.image;
    stood = ap (λ b. cond b None (option_map bytes_in (find (is_named name) (drop opened images)))) shut
        ∙ ap (option_map bytes_in) (finds name (drop opened images) at m.image (stands_at name (drop opened images) at found) ∙ ap Some stood);
    opened = ap (map bytes_in) front ∙ map_push bytes_in (take opened images) (opened_for write m.image);
    gone = ap (λ b. cond b None (option_map bytes_in (find (is_named name) (drop (opened + 1) images'))))
        (named_in name ∙ ap (λ b. list_any (is_named name) (take opened images) || (b || false)) ((bytes_eq-Decides m.image.slot.name name).1 called)
        ∙ ap (λ b. b || true) shut);
    others = λ other apart.
        let differs : bytes_eq m.image.slot.name other ≡ false =
        false_from_ne_true (bytes_eq m.image.slot.name other) (λ e. apart (sym ((bytes_eq-Decides m.image.slot.name other).0 e) ∙ called)) in
        ap (λ b. cond b None (option_map bytes_in (find (is_named other) (drop (opened + 1) images'))))
        (named_in other ∙ ap (λ b. list_any (is_named other) (take opened images) || (b || false)) differs
        ∙ or-false (list_any (is_named other) (take opened images)))
        ∙ ap (λ (r : Option MemoryImage). cond (list_any (is_named other) (take opened images)) None (option_map bytes_in r))
        (ap (find (is_named other)) rest ∙ find-remove (is_named other) (drop opened images) at m.image placed.0 (ap (is_named other) stood ∙ differs));
  }

-- Reading and writing an open image.
module _ (images : List MemoryImage) (opened slot : ℕ) (image : MemoryImage) (front : slot < opened) (within : opened ≤ length images)
    (is : image ≡ get_or images slot image) where
  -- the image stands at its slot among the open ones
  in_front : get_or (take opened images) slot image ≡ image
  in_front = get_or-take opened images slot image front ∙ sym is

  -- the slot is one of the open ones
  front_within : slot < length (take opened images)
  front_within = omega (arith, length-take opened images)

  -- the slot that is seen there is the image's
  pub slot-is : slot_at (map (λ i. i.slot) (take opened images)) slot ≡ image.slot
  slot-is = get_or-map (λ (i : MemoryImage). i.slot) (take opened images) slot image no_slot front_within ∙ ap (λ (i : MemoryImage). i.slot) in_front

  -- the bytes that are seen there are the image's
  pub image-is : image_of (map bytes_in (take opened images)) slot ≡ bytes_in image
  image-is = get_or-map bytes_in (take opened images) slot image [] front_within ∙ ap bytes_in in_front

  -- the bytes that are seen there are as many as the slot says
  image-len : length (image_of (map bytes_in (take opened images)) slot) ≡ len_of (map (λ (i : MemoryImage). i.slot) (take opened images)) slot
  image-len = ap length image-is ∙ length-map-range_with_len (page_byte image.pages) 0 image.slot.len ∙ ap (λ (s : Slot). s.len) (sym slot-is)

  -- a write that changed nothing wrote some bytes: those that stood there
  pub writes-same : (off n : ℕ) → off + n ≤ len_of (map (λ (i : MemoryImage). i.slot) (take opened images)) slot
      → (some : List ℕ) × (length some ≡ n) × (map bytes_in (take opened images) ≡ written (map bytes_in (take opened images)) slot off some)
  writes-same off n fits = (bytes_of (map bytes_in (take opened images)) slot off n, sized, sym kept)
    where
      -- the range lies in the image's bytes
      fits' : off + n ≤ length (image_of (map bytes_in (take opened images)) slot)
      fits' = omega (arith, image-len)

      -- what stands in the range has its length
      sized : length (bytes_of (map bytes_in (take opened images)) slot off n) ≡ n
      sized = omega (
        arith,
        fits',
        length-take (off + n - off) (drop off (image_of (map bytes_in (take opened images)) slot)),
        length-drop off
            (image_of (map bytes_in (take opened images)) slot),
      )

      -- writing over the range what stood there leaves all images as they were
      kept : written (map bytes_in (take opened images)) slot off (bytes_of (map bytes_in (take opened images)) slot off n) ≡ map bytes_in (take opened images)
      kept = ap (set (map bytes_in (take opened images)) slot) (pasted-same (image_of (map bytes_in (take opened images)) slot) off n fits')
          ∙ set-get_or (map bytes_in (take opened images)) slot []

-- what a write leaves of the open images: its range holds these bytes, and all else is as before
pub record Overwritten (opened slot off : ℕ) (bytes : List ℕ) (xs ys : List MemoryImage) : Type 0 where
  pub held : map bytes_in (take opened ys) ≡ written (map bytes_in (take opened xs)) slot off bytes
  pub slots : map (λ i. i.slot) (take opened ys) ≡ map (λ i. i.slot) (take opened xs)
  pub shelf : (n : List ℕ) → cond (list_any (is_named n) (take opened ys)) None (option_map bytes_in (find (is_named n) (drop opened ys)))
      ≡ cond (list_any (is_named n) (take opened xs)) None (option_map bytes_in (find (is_named n) (drop opened xs)))

-- the slot of an image
abbrev pub slot_in : MemoryImage → Slot
slot_in image = image.slot

-- an image put in the place of one with the same slot leaves the slots as they were
pub slots-set : (xs : List MemoryImage) (n at : ℕ) (x d : MemoryImage) → x.slot ≡ (get_or xs at d).slot → map slot_in (take n (set xs at x))
    ≡ map slot_in (take n xs)
slots-set xs n at x d same = sym (take-map slot_in n (set xs at x)) ∙ ap (take n) (map-set_same slot_in xs at x d same) ∙ take-map slot_in n xs

-- a write to an open image leaves its bytes there, and all slots and the shelf as they were
pub overwritten : (opened slot off : ℕ) (bytes : List ℕ) (xs ys : List MemoryImage) → slot < opened → opened ≤ length xs
    → Overwrites slot off bytes xs ys → Overwritten opened slot off bytes xs ys
overwritten opened slot off bytes xs ys front within o = record {
  held = ap (λ zs. map bytes_in (take opened zs)) o.now
      ∙ ap (map bytes_in) (take-set-lt opened xs slot o.after front) ∙ map-set bytes_in (take opened xs) slot o.after
      ∙ ap (set (map bytes_in (take opened xs)) slot) (o.pasted_in
      ∙ ap (λ (b : List ℕ). pasted b off bytes) (sym (image-is xs opened slot o.before front within o.stood)));
  slots = same;
  shelf = λ n. λ i. cond (names n i) None (option_map bytes_in (find (is_named n) (rest i)));
}
  where
    -- the slots of the open images are as before
    same : map slot_in (take opened ys) ≡ map slot_in (take opened xs)
    same = ap (λ zs. map slot_in (take opened zs)) o.now ∙ slots-set xs opened slot o.after o.before (o.slot ∙ ap slot_in o.stood)

    -- the images on the shelf are as before
    rest : drop opened ys ≡ drop opened xs
    rest = ap (drop opened) o.now ∙ drop-set-lt opened xs slot o.after front

    -- the names of the open images are as before
    names : (n : List ℕ) → list_any (is_named n) (take opened ys) ≡ list_any (is_named n) (take opened xs)
    names n = sym (list_any-slots n (take opened ys)) ∙ ap (list_any (λ s. bytes_eq s.name n))
        (ap (λ zs. map slot_in (take opened zs)) o.now ∙ slots-set xs opened slot o.after o.before (o.slot ∙ ap slot_in o.stood))
        ∙ list_any-slots n (take opened xs)

-- a write that is refused leaves some bytes in its range
abbrev pub SomeOverwritten : ℕ → ℕ → ℕ → ℕ → List MemoryImage → List MemoryImage → Type 0
SomeOverwritten opened slot off n xs ys = (some : List ℕ) × (length some ≡ n) × Overwritten opened slot off some xs ys

-- a write that was broken off leaves some bytes of its length in its range
pub partly : (opened slot off n : ℕ) (xs ys : List MemoryImage) → slot < opened → opened ≤ length xs
    → (some : List ℕ) × (length some ≡ n) × Overwrites slot off some xs ys → SomeOverwritten opened slot off n xs ys
partly opened slot off n xs ys front within p = (p.0, p.1, overwritten opened slot off p.0 xs ys front within p.2)

-- and one that changed nothing leaves those that stood there
unchanged : (opened slot off n : ℕ) (xs ys : List MemoryImage) → slot < opened → opened ≤ length xs → off
    + n ≤ len_of (map slot_in (take opened xs)) slot → ys ≡ xs → SomeOverwritten opened slot off n xs ys
unchanged opened slot off n xs ys front within fits same = (
  kept.0,
  kept.1,
  record {
    held = ap (λ zs. map bytes_in (take opened zs)) same ∙ kept.2;
    slots = ap (λ zs. map slot_in (take opened zs)) same;
    shelf = λ m. ap (λ zs. cond (list_any (is_named m) (take opened zs)) None (option_map bytes_in (find (is_named m) (drop opened zs)))) same;
  },
)
  where
    -- what stood in the range may be taken as what was written
    kept : (some : List ℕ) × (length some ≡ n) × (map bytes_in (take opened xs) ≡ written (map bytes_in (take opened xs)) slot off some)
    kept = writes-same xs opened slot (get_or xs slot (zeros [] 0)) front within
        (get_or_default xs slot (zeros [] 0) (get_or xs slot (zeros [] 0)) (omega arith)) off n fits

-- a write that is to fail leaves the tear, or what stood there, in its range
pub torn : {T E : Type 0} (tear : Option ℕ) (opened slot off n : ℕ) (xs ys : List MemoryImage) (result : Result T E) → slot < opened
    → opened ≤ length xs → off + n ≤ len_of (map slot_in (take opened xs)) slot
    → TearsImage tear slot off n xs ys result → SomeOverwritten opened slot off n xs ys
torn None opened slot off n xs ys result front within fits t = unchanged opened slot off n xs ys front within fits t
torn (Some byte) opened slot off n xs ys (Ok _) front within fits t =
    (replicate n byte, length-replicate n byte, overwritten opened slot off (replicate n byte) xs ys front within t)
torn (Some byte) opened slot off n xs ys (Err _) front within fits t = partly opened slot off n xs ys front within (t.0, t.1 ∙ length-replicate n byte, t.2)

-- what a write that is made to fail leaves
pub tears : (tear : Option ℕ) (opened slot off n : ℕ) (xs ys : List MemoryImage) (u : Unit {0}) → slot < opened → opened ≤ length xs
    → TearsImage {E = Memory} tear slot off n xs ys (Ok u) → Tears {T = Unit {0}} tear slot off n (map bytes_in (take opened xs))
    (map bytes_in (take opened ys)) (Err Failed)
tears None opened slot off n xs ys u open? within t = ap (λ zs. map bytes_in (take opened zs)) t
tears (Some byte) opened slot off n xs ys u open? within t = (overwritten opened slot off (replicate n byte) xs ys open? within t).held

-- what `place_on_shelf` answers
pub on_shelf : (open? : Bool) (place : Option ℕ) (at : ℕ) → Some at ≡ cond open? None place → (open? ≡ false) × (Some at ≡ place)
on_shelf true place at e = cc
on_shelf false place at e = (refl, e)

-- a slot that is open is one of the first images
pub open-front : (images : List MemoryImage) (opened slot : ℕ) → slot < length (map (λ (i : MemoryImage). i.slot) (take opened images)) → slot < opened
open-front images opened slot lt = omega (arith, length-map (take opened images) (λ (i : MemoryImage). i.slot), length-take opened images)
