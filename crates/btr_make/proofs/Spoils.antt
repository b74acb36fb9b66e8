-- What `spoil` does, page by page.
use Rattle.std.proofs.Common.{◌≡◌, ◌∙◌, inl, inr, ℕ, zero, suc, ◌+◌, ◌-◌, ◌*◌, ◌/◌, ◌^◌, ◌<◌, ◌≤◌, Bool, true, false, ◌&&◌, List, [], ◌∷◌, Option, Some, None}
use Rattle.std.proofs.Common.{Ok, Err, refl, sym, ap, subst, length, map, drop, get_or, arith}
use Rattle.std.specs.Prelude.{IfSome, is_none, nat_lt, if◌then◌else◌}
use Rattle.std.specs.Option.{unwrap_or, option_map, option_and_then}
use Rattle.std.specs.List.{slice_get, slice_range, range_with_len, find}
use Rattle.std.proofs.lemmas.Option.{slice_get-get_or, slice_get_cases}
use Rattle.std.proofs.lemmas.List.{same_lists, length-take, length-drop, length-map, get_or_default, get_or-drop, get_or-take, get_or-map, get_or_past}
use Rattle.std.proofs.lemmas.List.FromFn.{length-map-range_with_len, get_or-map-range_with_len}
use Rattle.std.proofs.Math.Nat.{eq-or-lt_of_le}
use Rattle.std.proofs.lemmas.Bool.{cases_lt}
use Rattle.std.proofs.lemmas.Bool.Decides.{nat_tests}
use Rattle.btr_rack.specs.Rack.{pasted}
use Rattle.btr_rack.specs.Image.{MemoryImage, bytes_in, is_named, page_byte, page_at, patched}
use Rattle.btr_rack.specs.Memory.{MemoryRack, named, named_page, Rewrites, Pokes}
use Rattle.btr_rack.specs.declared.error.PokeError.{PokeError}
use Rattle.btr_rack.specs.declared.error.PokeError.TheVariants.{NoImage, Range, Memory}
use Rattle.btr_rack.proofs.Patches.{patched_bytes}
use Rattle.btr_make.specs.Spoil.{page_of, is_zeros, is_spoiled, spoiled_byte, spoiled_below, spoiled, turned_if_spoiled, with_page, Becomes, SpoilsPage, Spoils}
use Rattle.btr_make.proofs.Standings.{standing_rewrites}

-- a range that lies in the image has its length
length-range : (image : List ℕ) (off n : ℕ) → off + n ≤ length image → length (slice_range image off (off + n)) ≡ n
length-range image off n fits = omega (arith, length-take (off + n - off) (drop off image), length-drop off image)

-- a byte of a range is the image's byte there
get_or-range : (image : List ℕ) (off n k d : ℕ) → k < n → get_or (slice_range image off (off + n)) k d ≡ get_or image (off + k) d
get_or-range image off n k d lt =
    let within : k < off + n - off = omega arith in
    get_or-take (off + n - off) (drop off image) k d within ∙ get_or-drop off image k d

-- bytes that were read one by one
pub bytes_read : (image : Option (List ℕ)) (off : ℕ) (page : List ℕ) → length page ≡ 4096
    → ((k : ℕ) → k < 4096 → get_or page k 0 ≡ unwrap_or (option_and_then (λ bytes. slice_get bytes (off + k)) image) 0)
    → IfSome image (λ bytes. off + 4096 ≤ length bytes → page ≡ slice_range bytes off (off + 4096))
bytes_read None off page whole read = tt
bytes_read (Some image) off page whole read = λ fits. same_lists page (slice_range image off (off + 4096))
    (whole ∙ sym (length-range image off 4096 fits)) (λ k d lt. at k d fits (omega arith))
  where
    -- the page and its range have the same byte at each place
    at : (k d : ℕ) → off + 4096 ≤ length image → k < 4096 → get_or page k d ≡ get_or (slice_range image off (off + 4096)) k d
    at k d fits lt =
        let there : off + k < length image = omega arith in
        get_or_default page k d 0 (omega arith) ∙ read k lt
        ∙ ap (λ o. unwrap_or o 0) (slice_get-get_or image (off + k) 0 there)
        ∙ get_or_default image (off + k) 0 d there
        ∙ sym (get_or-range image off 4096 k d lt)

-- a page is there where its last byte is
pub page_there : (image : Option (List ℕ)) (at : ℕ) → is_none (option_and_then (λ (bytes : List ℕ). slice_get bytes at) image) ≡ false
    → (bytes : List ℕ) × (image ≡ Some bytes) × (at < length bytes)
page_there None at some = cc
page_there (Some bytes) at some =
    (bytes, refl, elim (slice_get_cases bytes at).1 [ inl there ↦ there.1 | inr past ↦ let e : is_none (slice_get bytes at) ≡ true = ap is_none past.1 in cc ])

-- bytes that are 0 at each place are all zeros
zeros_all : (bytes : List ℕ) → ((k : ℕ) → get_or bytes k 0 ≡ 0) → is_zeros bytes ≡ true
zeros_all [] each = refl
zeros_all (b ∷ bytes) each = let zero_first : b ≡ 0 = each zero in rw zero_first (zeros_all bytes (λ k. each (suc k)))

-- a page that isn't kept is all zeros
unkept_byte : (image : MemoryImage) (page k : ℕ) → page_at image.pages page ≡ None → k < 4096 → page_byte image.pages (4096 * page + k) ≡ 0
unkept_byte image page k none lt =
    let at : (4096 * page + k) / 4096 ≡ page = omega arith in
    rw (at, none) refl

-- a page that isn't kept, and of which the image has all, is all zeros
unkept_page : (image : MemoryImage) (page : ℕ) → page_at image.pages page ≡ None → 4096 * page + 4096 ≤ length (bytes_in image)
    → is_zeros (page_of (bytes_in image) page) ≡ true
unkept_page image page none fits = zeros_all (page_of (bytes_in image) page) at
  where
    -- the image has as many bytes as its slot says
    long : length (bytes_in image) ≡ image.slot.len
    long = length-map-range_with_len (page_byte image.pages) 0 image.slot.len

    -- the page has 4096 bytes
    sized : length (page_of (bytes_in image) page) ≡ 4096
    sized = length-range (bytes_in image) (4096 * page) 4096 fits

    -- each byte of the page is 0
    at : (k : ℕ) → get_or (page_of (bytes_in image) page) k 0 ≡ 0
    at k = elim (cases_lt k 4096) [
      | inl lt ↦ get_or-range (bytes_in image) (4096 * page) 4096 k 0 lt
          ∙ get_or-map-range_with_len (page_byte image.pages) 0 image.slot.len (4096 * page + k) (4096 * page + k) 0 (omega (arith, long)) (omega arith)
          ∙ unkept_byte image page k none lt
      | inr le ↦ get_or_past (page_of (bytes_in image) page) k 0 (omega (arith, sized))
    ]

-- a page that the image of a name doesn't keep isn't spoiled, where the image has all of it
pub unkept : (rack : MemoryRack) (name : List ℕ) (page : ℕ) → named_page rack name page ≡ None
    → IfSome (named rack name) (λ image. 4096 * page + 4096 ≤ length image → None ≡ turned_if_spoiled image page)
unkept rack name page none = at (find (is_named name) rack.images) none
  where
    -- a page that isn't kept isn't spoiled, whether there is an image or not
    at : (image : Option MemoryImage) → option_and_then (λ (i : MemoryImage). page_at i.pages page) image ≡ None
        → IfSome (option_map bytes_in image) (λ bytes. 4096 * page + 4096 ≤ length bytes → None ≡ turned_if_spoiled bytes page)
    at None none = tt
    at (Some image) none = λ fits. let blank : is_zeros (page_of (bytes_in image) page) ≡ true = unkept_page image page none fits in grind (arith, blank)

-- the test of a byte's page, where one more page is spoiled
same_before : (q n m x y : ℕ) (s : Bool) → q < n → n ≤ m → (if nat_lt q n && s then y else x) ≡ (if nat_lt q m && s then y else x)
same_before q n m x y s lt le = grind (arith, nat_tests)

-- a page behind both bounds is spoiled by neither
same_behind : (q n m x y : ℕ) (s : Bool) → n ≤ q → m ≤ q → (if nat_lt q n && s then y else x) ≡ (if nat_lt q m && s then y else x)
same_behind q n m x y s past more = grind (arith, nat_tests)

-- a page that is not below the bound is as it was
as_it_was : (q n x y : ℕ) (s : Bool) → n ≤ q → (if nat_lt q n && s then y else x) ≡ x
as_it_was q n x y s le = grind (arith, nat_tests)

-- a page below the bound that is one to be spoiled is turned
turned_at : (q n x y : ℕ) (s : Bool) → q < n → s ≡ true → (if nat_lt q n && s then y else x) ≡ y
turned_at q n x y s lt is = grind (arith, nat_tests)

-- a page that is none to be spoiled is as it was
spared_at : (q n x y : ℕ) (s : Bool) → s ≡ false → (if nat_lt q n && s then y else x) ≡ x
spared_at q n x y s is = grind (arith, nat_tests)

-- functions that agree at each place make the same list
made_same : (f g : ℕ → ℕ) (a n : ℕ) → ((i : ℕ) → f i ≡ g i) → map f (range_with_len a n) ≡ map g (range_with_len a n)
made_same f g a zero same = refl
made_same f g a (suc n) same = λ i. same a i ∷ made_same f g (a + 1) n same i

-- a list by its elements
made_again : (xs : List ℕ) → map (λ i. get_or xs i 0) (range_with_len 0 (length xs)) ≡ xs
made_again xs = same_lists _ _ (length-map-range_with_len (λ i. get_or xs i 0) 0 (length xs)) (λ k d lt. at k d lt)
  where
    -- the list that was made has the same element at each place
    at : (k d : ℕ) → k < length (map (λ i. get_or xs i 0) (range_with_len 0 (length xs)))
        → get_or (map (λ i. get_or xs i 0) (range_with_len 0 (length xs))) k d ≡ get_or xs k d
    at k d lt =
        let below : k < length xs = omega (arith, length-map-range_with_len (λ i. get_or xs i 0) 0 (length xs)) in
        get_or-map-range_with_len (λ i. get_or xs i 0) 0 (length xs) k k d below (omega arith) ∙ get_or_default xs k 0 d below

-- a page that is spoiled is not before 1048576, and the image has all of it
spared_early : (image : List ℕ) (page : ℕ) → page < 256 → is_spoiled image page ≡ false
spared_early image page lt = grind (arith, nat_tests)

-- a page that the image has not all of is spared
spared_late : (image : List ℕ) (page : ℕ) → length image < 4096 * page + 4096 → is_spoiled image page ≡ false
spared_late image page short = grind (arith, nat_tests)

-- the spoiled image is as long as the image
length_spoiled : (n : ℕ) (image : List ℕ) → length (spoiled_below n image) ≡ length image
unfolding spoiled_below
length_spoiled n image = length-map-range_with_len (spoiled_byte n image) 0 (length image)

-- no page is spoiled yet
none_spoiled : (n : ℕ) (image : List ℕ) → n ≤ 256 → spoiled_below n image ≡ image
unfolding spoiled_below
none_spoiled n image early = made_same (spoiled_byte n image) (λ i. get_or image i 0) 0 (length image) at ∙ made_again image
  where
    -- with no page spoiled yet, each byte is as it was
    at : (i : ℕ) → spoiled_byte n image i ≡ get_or image i 0
    at i =
        let x : ℕ = get_or image i 0 in
        elim (cases_lt (i / 4096) n) [
          | inl lt ↦ spared_at (i / 4096) n x (255 - x) (is_spoiled image (i / 4096)) (spared_early image (i / 4096) (omega arith))
          | inr le ↦ as_it_was (i / 4096) n x (255 - x) (is_spoiled image (i / 4096)) le
        ]

-- all pages are spoiled where the image ends
all_spoiled : (n m : ℕ) (image : List ℕ) → n ≤ m → length image < 4096 * n + 4096 → spoiled_below n image ≡ spoiled_below m image
unfolding spoiled_below
all_spoiled n m image le short = made_same (spoiled_byte n image) (spoiled_byte m image) 0 (length image) at
  where
    -- with no page left to spoil, each byte is as it is in the whole
    at : (i : ℕ) → spoiled_byte n image i ≡ spoiled_byte m image i
    at i =
        let x : ℕ = get_or image i 0 in
        let s : Bool = is_spoiled image (i / 4096) in
        elim (cases_lt (i / 4096) n) [
          | inl lt ↦ same_before (i / 4096) n m x (255 - x) s lt le
          | inr past ↦ let none : s ≡ false = spared_late image (i / 4096) (omega arith) in
              spared_at (i / 4096) n x (255 - x) s none ∙ sym (spared_at (i / 4096) m x (255 - x) s none)
        ]

-- a page is spoiled after those before it
page_kept : (n : ℕ) (image : List ℕ) → 4096 * n + 4096 ≤ length image → page_of (spoiled_below n image) n ≡ page_of image n
unfolding spoiled_below
page_kept n image fits = same_lists _ _ sized at
  where
    -- the image keeps its length while the pages before are spoiled
    long : length (spoiled_below n image) ≡ length image
    long = length_spoiled n image

    -- the page keeps its length while those before it are spoiled
    sized : length (page_of (spoiled_below n image) n) ≡ length (page_of image n)
    sized = length-range (spoiled_below n image) (4096 * n) 4096 (omega (arith, long)) ∙ sym (length-range image (4096 * n) 4096 fits)

    -- the page keeps its bytes while those before it are spoiled
    at : (k d : ℕ) → k < length (page_of (spoiled_below n image) n) → get_or (page_of (spoiled_below n image) n) k d ≡ get_or (page_of image n) k d
    at k d lt =
        let below : k < 4096 = omega (arith, sized, length-range image (4096 * n) 4096 fits) in
        let i : ℕ = 4096 * n + k in
        let past : n ≤ i / 4096 = omega arith in
        let x : ℕ = get_or image i 0 in
        get_or-range (spoiled_below n image) (4096 * n) 4096 k d below
        ∙ get_or-map-range_with_len (spoiled_byte n image) 0 (length image) i i d (omega arith) (omega arith)
        ∙ as_it_was (i / 4096) n x (255 - x) (is_spoiled image (i / 4096)) past
        ∙ get_or_default image i 0 d (omega arith)
        ∙ sym (get_or-range image (4096 * n) 4096 k d below)

-- what becomes of a page is the same after those before it are spoiled
turned_kept : (n : ℕ) (image : List ℕ) → 4096 * n + 4096 ≤ length image → turned_if_spoiled (spoiled_below n image) n ≡ turned_if_spoiled image n
turned_kept n image fits =
    let long : length (spoiled_below n image) ≡ length image = length_spoiled n image in
    let kept : page_of (spoiled_below n image) n ≡ page_of image n = page_kept n image fits in
    rw (long, kept) refl

-- what was patched in
patched_before : (old at i : ℕ) (piece : List ℕ) → i < at → patched old at piece i ≡ old
patched_before old at i piece lt = grind (arith, nat_tests)

-- within the piece stands the piece's byte
patched_in : (old at i : ℕ) (piece : List ℕ) → at ≤ i → i < at + length piece → patched old at piece i ≡ get_or piece (i - at) 0
patched_in old at i piece le lt = grind (arith, nat_tests)

-- behind the piece a byte is as it was
patched_behind : (old at i : ℕ) (piece : List ℕ) → at + length piece ≤ i → patched old at piece i ≡ old
patched_behind old at i piece le = grind (arith, nat_tests)

-- a page's bytes, turned
turned_bytes : (n : ℕ) (image : List ℕ) → List ℕ
turned_bytes n image = map (λ b. 255 - b) (page_of image n)

-- the turned page has 4096 bytes
length_turned : (n : ℕ) (image : List ℕ) → 4096 * n + 4096 ≤ length image → length (turned_bytes n image) ≡ 4096
unfolding turned_bytes
length_turned n image fits = length-map (page_of image n) (λ b. 255 - b) ∙ length-range image (4096 * n) 4096 fits

-- a byte of the turned page is 255 less the image's byte there
turned_byte : (n i : ℕ) (image : List ℕ) → 4096 * n + 4096 ≤ length image → 4096 * n ≤ i → i < 4096 * n + 4096
    → get_or (turned_bytes n image) (i - 4096 * n) 0 ≡ 255 - get_or image i 0
unfolding turned_bytes
turned_byte n i image fits le lt =
    let k : ℕ = i - 4096 * n in
    let below : k < 4096 = omega arith in
    let back : 4096 * n + k ≡ i = omega arith in
    get_or-map (λ b. 255 - b) (page_of image n) k 0 0 (omega (arith, length-range image (4096 * n) 4096 fits))
    ∙ ap (λ b. 255 - b) (get_or-range image (4096 * n) 4096 k 0 below ∙ ap (λ j. get_or image j 0) back)

-- a page that is spared leaves each byte as it is after those before it
spared_more : (n : ℕ) (image : List ℕ) → is_spoiled image n ≡ false → (i : ℕ) → spoiled_byte n image i ≡ spoiled_byte (n + 1) image i
spared_more n image is i =
    let x : ℕ = get_or image i 0 in
    let s : Bool = is_spoiled image (i / 4096) in
    elim (cases_lt (i / 4096) n) [
      | inl lt ↦ same_before (i / 4096) n (n + 1) x (255 - x) s lt (omega arith)
      | inr past ↦ elim (eq-or-lt_of_le past) [
        | inl same ↦ let none : s ≡ false = ap (is_spoiled image) (sym same) ∙ is in
            spared_at (i / 4096) n x (255 - x) s none ∙ sym (spared_at (i / 4096) (n + 1) x (255 - x) s none)
        | inr more ↦ same_behind (i / 4096) n (n + 1) x (255 - x) s past (omega arith)
      ]
    ]

-- a page that is turned is written over the bytes as they are after those before it
turned_more : (n : ℕ) (image : List ℕ) → 4096 * n + 4096 ≤ length image → is_spoiled image n ≡ true → (i : ℕ) → spoiled_byte (n + 1) image i
    ≡ patched (spoiled_byte n image i) (4096 * n) (turned_bytes n image) i
turned_more n image fits is i =
    let x : ℕ = get_or image i 0 in
    let s : Bool = is_spoiled image (i / 4096) in
    let old : ℕ = spoiled_byte n image i in
    elim (cases_lt i (4096 * n)) [
      | inl lt ↦ let before : i / 4096 < n = omega arith in
          sym (same_before (i / 4096) n (n + 1) x (255 - x) s before (omega arith)) ∙ sym (patched_before old (4096 * n) i (turned_bytes n image) lt)
      | inr le ↦ elim (cases_lt i (4096 * n + 4096)) [
        | inl lt ↦ let same : i / 4096 ≡ n = omega arith in
            turned_at (i / 4096) (n + 1) x (255 - x) s (omega arith) (ap (is_spoiled image) same ∙ is)
            ∙ sym (turned_byte n i image fits le lt)
            ∙ sym (patched_in old (4096 * n) i (turned_bytes n image) le (omega (arith, length_turned n image fits)))
        | inr past ↦ let behind : n + 1 ≤ i / 4096 = omega arith in
            sym (same_behind (i / 4096) n (n + 1) x (255 - x) s (omega arith) behind)
            ∙ sym (patched_behind old (4096 * n) i (turned_bytes n image) (omega (arith, length_turned n image fits)))
      ]
    ]

-- one more page, turned or spared, makes the image of which the pages up to it are spoiled
page_more : (n : ℕ) (image : List ℕ) → 4096 * n + 4096 ≤ length image → (b : Bool) → is_spoiled image n ≡ b
    → with_page (spoiled_below n image) n (if b then Some (map (λ b. 255 - b) (page_of image n)) else None) ≡ spoiled_below (n + 1) image
unfolding spoiled_below turned_bytes
page_more n image fits false is = made_same (spoiled_byte n image) (spoiled_byte (n + 1) image) 0 (length image) (spared_more n image is)
page_more n image fits true is = sym (patched_bytes (spoiled_byte n image) (spoiled_byte (n + 1) image) (length image) (4096 * n)
    (turned_bytes n image) (omega (arith, length_turned n image fits)) (turned_more n image fits is))

-- after the pages before it, one more page is spoiled
pub spoiled_more : (n : ℕ) (image : List ℕ) → 4096 * n + 4096 ≤ length image
    → with_page (spoiled_below n image) n (turned_if_spoiled (spoiled_below n image) n) ≡ spoiled_below (n + 1) image
spoiled_more n image fits = ap (with_page (spoiled_below n image) n) (turned_kept n image fits) ∙ page_more n image fits (is_spoiled image n) refl

-- what was written into an image is what it becomes
pub becomes_written : (name : List ℕ) (off : ℕ) (bytes : List ℕ) (old new : MemoryRack) → (r : Rewrites name off bytes old new)
    → Becomes name (pasted r.image off bytes) old new
becomes_written name off bytes old new r = record {
  now = r.written;
  others = r.others;
  standing = standing_rewrites name off bytes old new r;
}

-- what an image becomes after it became something else is what it becomes
pub becomes_then : (name a b : List ℕ) (old mid new : MemoryRack) → Becomes name a old mid → Becomes name b mid new → Becomes name b old new
becomes_then name a b old mid new first second = record {
  now = second.now;
  others = λ other differ. second.others other differ ∙ first.others other differ;
  standing = second.standing ∙ first.standing;
}

-- one page is written, whose bytes are turned
pub page_written : (name : List ℕ) (n off at : ℕ) (page : List ℕ) (old new : MemoryRack) → off ≡ 4096 * n → at ≡ 4096 * n + 4095
    → is_none (option_and_then (λ (bytes : List ℕ). slice_get bytes at) (named old name)) ≡ false
    → IfSome (named old name) (λ image. 4096 * n + 4096 ≤ length image → Some page ≡ turned_if_spoiled image n) → Rewrites name off page old new
    → SpoilsPage name n old new (Ok true)
page_written name n off at page old new here last there is r =
    let bytes = page_there (named old name) at there in
    let same : Some r.image ≡ Some bytes.0 = sym r.stood ∙ bytes.1 in
    let long : length r.image ≡ length bytes.0 = cc in
    let fits : 4096 * n + 4096 ≤ length r.image = omega (arith, long, bytes.2) in
    let P : Option (List ℕ) → Type 0 = λ o. IfSome o (λ image. 4096 * n + 4096 ≤ length image → Some page ≡ turned_if_spoiled image n) in
    let turned : Some page ≡ turned_if_spoiled r.image n = subst P r.stood is fits in
    let whole : pasted r.image off page ≡ with_page r.image n (turned_if_spoiled r.image n) =
    ap (λ o. pasted r.image o page) here ∙ ap (with_page r.image n) turned in
    (r.image, r.stood, fits, subst (λ bytes. Becomes name bytes old new) whole (becomes_written name off page old new r))

-- before the first page that may be spoiled, the image is as it was
pub spoil_begins : (name : List ℕ) (old new : MemoryRack) → Rewrites name 0 [] old new → (image : List ℕ) × (named old name ≡ Some image)
    × Becomes name (spoiled_below 256 image) old new
spoil_begins name old new r =
    (r.image, r.stood, subst (λ bytes. Becomes name bytes old new) (sym (none_spoiled 256 r.image (omega arith))) (becomes_written name 0 [] old new r))

-- one more page is spoiled, after those before it
pub spoil_goes_on : (name : List ℕ) (n : ℕ) (old mid new : MemoryRack)
    → ((image : List ℕ) × (named old name ≡ Some image) × Becomes name (spoiled_below n image) old mid) → SpoilsPage name n mid new (Ok true)
    → (image : List ℕ) × (named old name ≡ Some image) × Becomes name (spoiled_below (n + 1) image) old new
spoil_goes_on name n old mid new so_far step =
    let image : List ℕ = so_far.0 in
    let is : step.0 ≡ spoiled_below n image = let e : Some step.0 ≡ Some (spoiled_below n image) = sym step.1 ∙ so_far.2.now in cc in
    let fits : 4096 * n + 4096 ≤ length image = omega (arith, step.2, ap length is, length_spoiled n image) in
    let now : with_page step.0 n (turned_if_spoiled step.0 n) ≡ spoiled_below (n + 1) image =
    ap (λ bytes. with_page bytes n (turned_if_spoiled bytes n)) is ∙ spoiled_more n image fits in (
      image,
      so_far.1,
      becomes_then name (spoiled_below n image) (spoiled_below (n + 1) image) old mid new so_far.2
          (subst (λ bytes. Becomes name bytes mid new) now step.3),
    )

-- where a page is not all there, the whole image is spoiled
pub spoil_ends : (name : List ℕ) (n : ℕ) (old mid new : MemoryRack) → n ≤ 2 ^ 51
    → ((image : List ℕ) × (named old name ≡ Some image) × Becomes name (spoiled_below n image) old mid) → SpoilsPage name n mid new (Ok false)
    → (image : List ℕ) × (named old name ≡ Some image) × Becomes name (spoiled image) old new
spoil_ends name n old mid new le so_far step =
    let image : List ℕ = so_far.0 in
    let P : Option (List ℕ) → Type 0 = λ o. IfSome o (λ bytes. length bytes < 4096 * n + 4096) in
    let short : length (spoiled_below n image) < 4096 * n + 4096 = subst P so_far.2.now step.0 in
    let all : spoiled_below n image ≡ spoiled image = all_spoiled n (2 ^ 51) image le (omega (arith, short, length_spoiled n image)) in
    (image, so_far.1, subst (λ rack. Becomes name (spoiled image) old rack) (sym step.1) (subst (λ bytes. Becomes name bytes old mid) all so_far.2))

-- where a page can't be written, the spoiling stops at it
pub spoil_stops : (name : List ℕ) (n : ℕ) (old mid new : MemoryRack) (e : PokeError)
    → ((image : List ℕ) × (named old name ≡ Some image) × Becomes name (spoiled_below n image) old mid) → SpoilsPage name n mid new (Err e)
    → Spoils {T = Unit {0}} name old new (Err e)
spoil_stops name n old mid new NoImage so_far step = absurd (let e : Some (spoiled_below n so_far.0) ≡ None = sym so_far.2.now ∙ step in cc)
spoil_stops name n old mid new Range so_far step = step
spoil_stops name n old mid new Memory so_far step =
    let image : List ℕ = so_far.0 in
    let r = step.2 in
    let is : r.image ≡ spoiled_below n image = let e : Some r.image ≡ Some (spoiled_below n image) = sym r.stood ∙ so_far.2.now in cc in (
      image,
      so_far.1,
      n,
      step.0,
      omega (arith, r.fits, ap length is, length_spoiled n image),
      omega (arith, step.1),
      becomes_then name (spoiled_below n image) (pasted (spoiled_below n image) (4096 * n) step.0) old mid new so_far.2
          (subst (λ bytes. Becomes name (pasted bytes (4096 * n) step.0) mid new) is (becomes_written name (4096 * n) step.0 mid new r)),
    )

-- the first step is refused
pub spoil_refused : (name : List ℕ) (old new : MemoryRack) (e : PokeError) → Pokes {T = Unit {0}} name 0 [] old new (Err e)
    → Spoils {T = Unit {0}} name old new (Err e)
spoil_refused name old new NoImage p = p
spoil_refused name old new Range p = absurd (omega (arith, p.2))
spoil_refused name old new Memory p =
    let r = p.2 in (
      r.image,
      r.stood,
      0,
      p.0,
      omega (arith, r.fits),
      omega (arith, p.1),
      subst (λ bytes. Becomes name (pasted bytes 0 p.0) old new) (sym (none_spoiled 0 r.image (omega arith))) (becomes_written name 0 p.0 old new r),
    )
