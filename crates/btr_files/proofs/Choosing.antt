-- The pieces of a file are its bytes, also where a sector without a checksum may come to any of its copies.
use Rattle.std.proofs.Common.{◌≡◌, ℕ, zero, suc, ◌+◌, ◌-◌, ◌<◌, ◌≤◌, Bool, true, false, cond, not, IsTrue, List, [], ◌∷◌, length, Option}
use Rattle.std.proofs.Common.{Result, Ok, Err, refl, sym, ap, ◌∙◌, inr, arith}
use Rattle.std.specs.Prelude.{nat_eq, nat_le, slice_index, take}
use Rattle.std.proofs.lemmas.Bool.Decides.{nat_tests}
use Rattle.std.proofs.lemmas.List.{get_or-append_right, get_or_append_left, length-append, length-take}
use Rattle.btr_base.specs.declared.kind.SumKind.{SumKind}
use Rattle.btr_items.specs.declared.shape.Shape.{Shape}
use Rattle.btr_items.specs.declared.shape.Shape.TheVariants.{Inline, Regular, Prealloc}
use Rattle.btr_items.specs.FileExtent.{end_of}
use Rattle.btr_prog.specs.Prog.{Return, Need, Emit, bind, exec, steps_of}
use Rattle.btr_prog.specs.Quiet.{quiet}
use Rattle.btr_prog.specs.Thread.{thread}
use Rattle.btr_prog.proofs.Showing.{shows_quiet}
use Rattle.btr_read.specs.Fate.{is_plain}
use Rattle.btr_read.specs.declared.want.Want.{Want}
use Rattle.btr_read.specs.declared.want.Want.TheVariants.{Tree, Block, Sector, Plain}
use Rattle.btr_volume.specs.declared.root.TreeRoot.{TreeRoot}
use Rattle.btr_volume.specs.Lookup.{Program, Lookup, looks}
use Rattle.btr_files.specs.declared.clearness.Survey.{Survey}
use Rattle.btr_files.specs.declared.clearness.Survey.TheVariants.{Clear, Compressed, Encoded}
use Rattle.btr_files.specs.Content.{Piece, Bytes, Gap, gap, if_clear, on_at, piece, pieces, content, sector_count, sector_want, sectors, shaped}
use Rattle.btr_files.specs.Extents.{Extent, extents}
use Rattle.btr_files.specs.Extents as extents
use Rattle.btr_files.specs.FileAt.{IsSectorLong, SomeContentIsFile, bytes_of, piece_bytes}
use Rattle.btr_files.proofs.Contents.{content_is}
use Rattle.btr_files.proofs.Mixed.{Mixed, ShowsOne, mix_goes, never_true, one_bind, one_none, one_thread}
use Rattle.btr_files.proofs.Plains.{Shows, extents_show, same, want_shows}

-- pieces of as many bytes
abbrev AsLong : Piece → Piece → Type 0
AsLong a b = length (piece_bytes a) ≡ length (piece_bytes b)

module _ {A : Type 0} where
  -- a program that shows each sector without a checksum by one piece
  abbrev Gives : Program Piece A → Type 0
  Gives p = ShowsOne is_plain IsSectorLong AsLong p

  -- of two programs that show each sector without a checksum by one piece, either is such a program
  gives_if : (b : Bool) (p q : Program Piece A) → Gives p → Gives q → Gives (cond b p q)
  gives_if true p q h g = h
  gives_if false p q h g = g

  -- zeros before such a program leave it one
  gives_gap : (n : ℕ) (rest : Program Piece A) → Gives rest → Gives (gap n rest)
  gives_gap n rest h = gives_if (nat_eq n 0) rest (Emit (Gap n) rest) h h

  -- a lookup before such programs shows no piece itself
  gives_looks : {C : Type 0} (p : Lookup C) (k : C → Program Piece A) → Shows same p → ((c : C) → Gives (k c)) → Gives (looks p k)
  gives_looks p k h g =
      one_bind is_plain IsSectorLong AsLong (quiet p) k (one_none is_plain IsSectorLong AsLong (quiet p) (shows_quiet same same is_plain p h)) g

  -- a sector, cut, and then the rest
  gives_sector : (left : ℕ) (want : Want) (rest : Program Piece A) → Gives rest
      → Gives (Need want (λ bytes. Emit (Bytes (take left bytes) (not (is_plain want))) rest))
  gives_sector left want rest h = (
    λ bytes. h,
    λ t. inr (
      λ bytes. Bytes (take left bytes) (not (is_plain want)),
      rest,
      λ bytes. refl,
      λ b c long also.
          as_long want t b c long also,
    ),
  )
    where
      -- what is cut of a sector without a checksum is as long whichever copy it comes from
      as_long : (w : Want) → IsTrue (is_plain w) → (b c : List ℕ) → IsSectorLong w b → IsSectorLong w c → length (take left b) ≡ length (take left c)
      as_long (Tree addr generation level) t b c long also = absurd (never_true t)
      as_long (Block addr) t b c long also = absurd (never_true t)
      as_long (Sector addr sum) t b c long also = absurd (never_true t)
      as_long (Plain addr) t b c long also =
          let one = length-take left b in
          let other = length-take left c in
          omega (arith, one, other, long, also)

module _ (kind : SumKind) (sums : Option TreeRoot) (nosum : Bool) where
  -- sectors one after another show each that has no checksum by one piece
  gives_sectors : (n addr left : ℕ) → Gives (sectors kind sums nosum n addr left)
  gives_sectors zero addr left = tt
  gives_sectors (suc n) addr left =
      let rest = sectors kind sums nosum n (addr + 4096) (left - 4096) in
      gives_looks (sector_want kind sums nosum addr) (λ want. Need want (λ bytes. Emit (Bytes (take left bytes) (not (is_plain want))) rest))
      (want_shows kind sums nosum addr) (λ want. gives_sector left want rest (gives_sectors n (addr + 4096) (left - 4096)))

  module _ (size : ℕ) where
    -- an extent that begins before the size shows each sector without a checksum by one piece, whatever its shape
    gives_shaped : (at : ℕ) (x : Extent) (shape : Shape) → Gives (shaped kind sums nosum size at x shape)
    gives_shaped at x (Inline len) =
        let rest : Program Piece (Result ℕ ℕ) = Emit (Bytes (take (size - x.start) x.inline) true) (Return (on_at size (end_of x.start x.fields))) in
        gives_if (nat_eq len 0) (Return (Ok at)) (gap (x.start - at) rest) tt (gives_gap (x.start - at) rest tt)
    gives_shaped at x (Regular addr disk_len skip len) =
        let inside = sectors kind sums nosum (sector_count size x.start len) (addr + skip) (size - x.start) in
        let rest : Unit {0} → Program Piece (Result ℕ ℕ) = λ u. Return (on_at size (end_of x.start x.fields)) in
        gives_if (nat_eq addr 0) (Return (Ok at)) (gap (x.start - at) (bind inside rest)) tt
        (gives_gap (x.start - at) (bind inside rest)
        (one_bind is_plain IsSectorLong AsLong inside rest (gives_sectors (sector_count size x.start len) (addr + skip) (size - x.start)) (λ u. tt)))
    gives_shaped at x (Prealloc addr disk_len skip len) = tt

    -- a program behind a test that the extent is clear shows such sectors by one piece each, as without the test
    gives_clear : (x : Extent) (found : Survey) (rest : Program Piece (Result ℕ ℕ)) → Gives rest → Gives (if_clear x found rest)
    gives_clear x Clear rest h = h
    gives_clear x Compressed rest h = tt
    gives_clear x Encoded rest h = tt

    -- any extent of a file shows each sector without a checksum by one piece
    gives_piece : (at : ℕ) (x : Extent) → Gives (piece kind sums nosum size at x)
    gives_piece at x =
        gives_clear x (extents.judged x.fields) _
        (gives_if (nat_le size x.start) (Return (Err at)) (shaped kind sums nosum size at x x.fields.shape) tt (gives_shaped at x x.fields.shape))

    -- the content of a file shows each sector without a checksum by one piece
    gives_content : (tree : TreeRoot) (ino : ℕ) → Gives (content kind sums nosum size tree ino)
    gives_content tree ino =
        gives_if (nat_eq size 0) (Return tt) (pieces kind sums nosum size 0 (extents tree ino)) tt
        (one_bind is_plain IsSectorLong AsLong (thread (piece kind sums nosum size) (λ at u. at) 0 (extents tree ino)) (λ at. gap (size - at) (Return tt))
        (one_thread is_plain IsSectorLong AsLong (piece kind sums nosum size) (λ at u. at) gives_piece 0 (extents tree ino) (extents_show tree ino))
        (λ at. gives_gap (size - at) (Return tt) tt))

-- as many bytes as under each map
mixed_long : (xs : List Piece) (ys : ℕ → List Piece) → Mixed AsLong xs ys → (n : ℕ) → length (bytes_of xs) ≡ length (bytes_of (ys n))
mixed_long [] ys h n = ap (λ x. length (bytes_of x)) (sym (h n))
mixed_long (x ∷ xs) ys h n =
    let here = length-append (piece_bytes x) (bytes_of xs) in
    let there = length-append (piece_bytes (h.0 n)) (bytes_of (h.1 n)) in
    let rest = mixed_long xs h.1 h.5 n in
    let long = h.4 n in
    let all : length (bytes_of (x ∷ xs)) ≡ length (bytes_of (h.0 n ∷ h.1 n)) = omega (arith, here, there, rest, long) in
    all ∙ ap (λ y. length (bytes_of y)) (sym (h.2 n))

-- the byte at a position is that under some map
abbrev ByteOf : List Piece → (ℕ → List Piece) → ℕ → Type 0
ByteOf xs ys p = (n : ℕ) × (slice_index (bytes_of xs) p ≡ slice_index (bytes_of (ys n)) p)

module _ (x : Piece) (xs : List Piece) (ys : ℕ → List Piece) (h : Mixed AsLong (x ∷ xs) ys) (p : ℕ) (lt : p < length (bytes_of (x ∷ xs)))
    (behind : (q : ℕ) → q < length (bytes_of xs) → ByteOf xs h.1 q) where
  abbrev front : List ℕ
  front = piece_bytes x

  abbrev other : ℕ → List ℕ
  other n = piece_bytes (h.0 n)

  -- the byte at a position is that under some map, in the first piece or behind it
  byte_by : (b : Bool) → nat_le (length front) p ≡ b → ByteOf (x ∷ xs) ys p
  byte_by true e =
      let le : length front ≤ p = grind (arith, nat_tests) in
      let all = length-append front (bytes_of xs) in
      let i = behind (p - length front) (omega (arith, all, le, lt)) in
      let long = h.4 i.0 in
      let far : p - length (other i.0) ≡ p - length front = omega (arith, long) in (
        i.0,
        get_or-append_right front (bytes_of xs) (length front) p 0 refl le
            ∙ (i.1
            ∙ (ap (slice_index (bytes_of (h.1 i.0))) (sym far)
            ∙ (sym (get_or-append_right (other i.0) (bytes_of (h.1 i.0)) (length (other i.0)) p 0 refl (omega (arith, long, le)))
            ∙ ap (λ y. slice_index (bytes_of y) p) (sym (h.2 i.0))))),
      )
  byte_by false e =
      let less : p < length front = grind (arith, nat_tests) in
      let n = h.3.0 in
      let long = h.4 n in (
        n,
        get_or_append_left front (bytes_of xs) 0 p less
            ∙ (ap (λ y. slice_index (piece_bytes y) p) h.3.1
            ∙ (sym (get_or_append_left (other n) (bytes_of (h.1 n)) 0 p (omega (arith, long, less)))
            ∙ ap (λ y. slice_index (bytes_of y) p) (sym (h.2 n)))),
      )

-- each byte of mixed pieces is the one that stands there under some map
mixed_byte : (xs : List Piece) (ys : ℕ → List Piece) → Mixed AsLong xs ys → (p : ℕ) → p < length (bytes_of xs) → ByteOf xs ys p
mixed_byte [] ys h p lt = absurd (omega (arith, lt))
mixed_byte (x ∷ xs) ys h p lt = byte_by x xs ys h p lt (λ q less. mixed_byte xs h.1 h.5 q less) (nat_le (length (piece_bytes x)) p) refl

-- each byte of a file that was given whole is one that it has by some map, whatever copies its sectors came from
pub some_content_is : SomeContentIsFile
some_content_is maps kind sums nosum size tree ino run long alike goes ok =
    let p = content kind sums nosum size tree ino in
    let m = mix_goes is_plain IsSectorLong AsLong (λ x. refl) maps alike long p run (gives_content kind sums nosum size tree ino) goes in
    let ys : ℕ → List Piece = λ n. steps_of (exec (maps n) p).marks in
    let file = λ (n : ℕ). content_is (maps n) kind sums nosum size tree ino (long n) (m.1 n ∙ ok) in
    let whole = mixed_long (steps_of run.marks) ys m.0 0 ∙ (file 0).0 in (
      whole,
      λ at lt. let b = mixed_byte (steps_of run.marks) ys m.0 at (omega (arith, whole, lt)) in (b.0, b.1 ∙ (file b.0).1 at lt),
    )
