-- Pieces of what is kept.
use Rattle.std.proofs.Common.{◌≡◌, ℕ, ◌+◌, ◌-◌, ◌≤◌, Bool, true, List, take, drop, slice_range, Option, Some, None, is_ok, ap, ◌∙◌, sym, arith}
use Rattle.btr_base.specs.declared.stored.Sum.{Sum}
use Rattle.btr_rack.specs.Rack.{AreBytesOf, bytes_of, image_of}
use Rattle.btr_rack.specs.declared.place.Place.{Place}
use Rattle.btr_read.specs.Fate.{fate}
use Rattle.btr_read.specs.Layout.{Layout}
use Rattle.btr_read.specs.Want.{passes}
use Rattle.btr_read.specs.declared.want.Want.{Want}
use Rattle.btr_read.specs.declared.want.Want.TheVariants.{Sector}
use Rattle.btr_read.specs.Cause.{LiesIn}
use Rattle.btr_ahead.specs.Ahead.{AreRead, CanBeRead, IsFirstPlace, SaysFirst, first_passes, first_place, passes_at, piece_of}
use Rattle.btr_ahead.specs.declared.kept_bytes.KeptBytes.{KeptBytes}
use Rattle.std.proofs.lemmas.List.{drop-take, take-take}
use Rattle.btr_read.proofs.Pieces.{range-range}

-- a range of the front of a list
pub range-front : (xs : List ℕ) (n a b : ℕ) → a ≤ b → b ≤ n → slice_range (take n xs) a b ≡ slice_range xs a b
range-front xs n a b le most =
    let long : a + (n - a) ≡ n = omega (arith, le, most) in
    ap (take (b - a)) (ap (λ m. drop a (take m xs)) (sym long) ∙ drop-take a (n - a) xs) ∙ take-take (b - a) (n - a) (drop a xs) (omega (arith, le, most))

-- a piece of what is kept has the bytes of its place
piece_bytes : (images : List (List ℕ)) (kept : KeptBytes) (place : Place) → take kept.place.len kept.bytes
    ≡ bytes_of images kept.place.slot kept.place.off kept.place.len → LiesIn place kept.place
    → bytes_of images place.slot place.off place.len ≡ piece_of kept place
piece_bytes images kept place is lies =
    let from = place.off - kept.place.off in
    let image = image_of images kept.place.slot in
    let inner : from + place.len ≤ kept.place.len = omega (arith, lies.from, lies.to) in
    let start : place.off ≡ kept.place.off + from = omega (arith, lies.from) in
    let end : place.off + place.len ≡ kept.place.off + (from + place.len) = omega (arith, lies.from) in
    (λ i. slice_range (image_of images (lies.slot i)) (start i) (end i))
    ∙ sym (range-range image kept.place.off kept.place.len from (from + place.len) (omega arith) inner)
    ∙ ap (λ (xs : List ℕ). slice_range xs from (from + place.len)) (sym is)
    ∙ range-front kept.bytes kept.place.len from (from + place.len) (omega arith) inner

-- a piece of what is kept has the bytes that were read at its place, where the images are told
pub piece_read : (held : Option (List (List ℕ))) (kept : KeptBytes) (place : Place) → AreRead held kept → LiesIn place kept.place
    → AreBytesOf held place.slot place.off place.len (piece_of kept place)
piece_read None kept place read lies = tt
piece_read (Some images) kept place read lies = sym (piece_bytes images kept place read lies)

-- a sector whose piece passes comes to bytes
pub piece_comes : (held : Option (List (List ℕ))) (layout : Layout) (kept : KeptBytes) (place : Place) (addr : ℕ) (sum : Sum) (want : Want) → want
    ≡ Sector addr sum
    → AreRead held kept → IsFirstPlace layout addr place → LiesIn place kept.place → passes layout.setting want (piece_of kept place) ≡ true
    → CanBeRead held layout want
piece_comes None layout kept place addr sum want is read first lies pass = tt
piece_comes (Some images) layout kept place addr sum want is read first lies pass =
    let bytes = piece_bytes images kept place read lies in
    let test : passes layout.setting (Sector addr sum) (bytes_of images place.slot place.off place.len) ≡ true =
    (λ i. passes layout.setting (sym is i) (bytes i)) ∙ pass in
    ap (λ w. is_ok (fate images layout w)) is ∙ ap is_ok (first images sum test)

-- whether its piece passes is what is asked of a sector
pub piece_says : (held : Option (List (List ℕ))) (layout : Layout) (kept : KeptBytes) (place : Place) (addr : ℕ) (sum : Sum) (want : Want)
    (answer : Bool) → want ≡ Sector addr sum
    → AreRead held kept → Some place ≡ first_place layout addr → LiesIn place kept.place → answer ≡ passes layout.setting want (piece_of kept place)
    → SaysFirst held layout want answer
piece_says None layout kept place addr sum want answer is read given lies e = tt
piece_says (Some images) layout kept place addr sum want answer is read given lies e =
    let bytes = piece_bytes images kept place read lies in
    e
    ∙ (λ i. passes layout.setting (is i) (sym bytes i))
    ∙ ap (passes_at images layout (Sector addr sum)) given
    ∙ ap (first_passes images layout) (sym is)
