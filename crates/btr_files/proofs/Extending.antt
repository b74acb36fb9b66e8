-- What an item of a file's extents comes to.
use Rattle.std.proofs.Common.{◌≡◌, ℕ, ◌+◌, ◌-◌, ◌*◌, ◌/◌, ◌%◌, ◌^◌, ◌<◌, ◌≤◌, Bool, true, false, cond, not, List, length, Some, Result, Ok, Err, refl, sym, ap}
use Rattle.std.proofs.Common.{◌∙◌, subst, arith}
use Rattle.std.specs.Prelude.{◌==◌, ◌&&◌, ◌||◌, nat_le, nat_lt, take, min, slice_index}
use Rattle.std.proofs.lemmas.Bool.Decides.{nat_tests}
use Rattle.btr_base.specs.Field.{number_at}
use Rattle.btr_base.specs.declared.kind.SumKind.{SumKind}
use Rattle.btr_items.specs.FileExtent.{file_extent_of, end_of, file_len, inline_data, place_fits, is_range, holds, shape_of}
use Rattle.btr_items.specs.Form.{fields_if, map_ok}
use Rattle.btr_items.specs.Key.{is_aligned}
use Rattle.btr_items.specs.declared.fault.ItemFault.{ItemFault}
use Rattle.btr_items.specs.declared.file_extent.FileExtent.{FileExtent}
use Rattle.btr_items.specs.declared.shape.Shape.{Shape}
use Rattle.btr_items.specs.declared.shape.Shape.TheVariants as shape
use Rattle.btr_prog.specs.Prog.{Return, Stop, Emit, bind}
use Rattle.btr_read.specs.Fate as fate
use Rattle.btr_walk.specs.declared.fault.TreeFault.{TreeFault}
use Rattle.btr_walk.specs.declared.fault.TreeFault.TheVariants.{Malformed}
use Rattle.btr_walk.specs.Le.{TreeItem}
use Rattle.btr_volume.specs.Lookup.{Program, formed}
use Rattle.btr_files.specs.declared.clearness.Survey.{Survey}
use Rattle.btr_files.specs.declared.clearness.Survey.TheVariants.{Clear, Compressed, Encoded}
use Rattle.btr_files.specs.declared.extent.Ahead.{Ahead}
use Rattle.btr_files.specs.declared.progress.Source.{Source}
use Rattle.btr_files.specs.declared.progress.Todo.TheVariants.{Next, Inline, Sectors, Over}
use Rattle.btr_files.specs.Content.{Piece, Bytes, gap, on_at, sectors, sector_count, if_clear, piece, shaped}
use Rattle.btr_files.specs.Extents.{extent, judged}
use Rattle.btr_files.specs.Streaming.{GivenUpTo, given, on_behind, extent_pieces, item_pieces, todo_prog, FitsTodo, IsInline}
use Rattle.btr_files.specs.Ahead.{todo_at, ahead_at, ahead_clear, ahead_formed, ahead_of, FitsShape}
use Rattle.btr_files.proofs.Binds.{bind_assoc, gap_bind}

-- what a test comes to
pub test_lt : (m n : ℕ) → m < n → nat_le n m ≡ false
test_lt m n h = grind (arith, nat_tests)

-- a number that is at most another passes the test of that
pub test_le : (m n : ℕ) → n ≤ m → nat_le n m ≡ true
test_le m n h = grind (arith, nat_tests)

-- where the test says that a number is at most another, it is
pub is_le : (m n : ℕ) → nat_le m n ≡ true → m ≤ n
is_le m n h = grind (arith, nat_tests)

-- where the test says that a number isn't at most another, the other is below it
pub is_lt : (m n : ℕ) → nat_le m n ≡ false → n < m
is_lt m n h = grind (arith, nat_tests)

module _ (kind : SumKind) (source : Source) (at : ℕ) (item : TreeItem) where
  -- what comes of an item as a program: what is to come of its bytes, or its leaf is malformed
  abbrev pub ahead_prog : Result Ahead TreeFault → Program Piece (Result GivenUpTo ℕ)
  ahead_prog (Ok ahead) = todo_prog kind source at ahead.end (inline_data item.body) ahead.todo
  ahead_prog (Err f) = Stop (fate.Malformed item.leaf)

  abbrev on : ℕ → Result ℕ ℕ → Program Piece (Result GivenUpTo ℕ)
  on end r = Return (on_behind end r)

  abbrev start : ℕ
  start = item.key.offset

  module _ (end : ℕ) where
    -- the piece of an inline extent, by whether it is empty, is what is still to come of it
    by_len : (len : ℕ) (b : Bool) → bind (cond b (Return (Ok at)) (gap (start - at)
        (Emit (Bytes (take (source.size - start) (inline_data item.body)) true) (Return (on_at source.size end))))) (on end) ≡ todo_prog kind source at end
        (inline_data item.body) (cond b Next (Inline (record { start = start; leaf = item.leaf; len = len })))
    by_len len true = refl
    by_len len false = gap_bind (start - at) (Emit (Bytes (take (source.size - start) (inline_data item.body)) true) (Return (on_at source.size end))) (on end)

    -- the sectors of a regular extent, by whether it is a hole, are what is still to come of it
    by_addr : (addr count : ℕ) (b : Bool) → bind (cond b (Return (Ok at)) (gap (start - at)
        (bind (sectors kind source.sums source.nosum count addr (source.size - start)) (λ u. Return (on_at source.size end)))))
        (on end) ≡ todo_prog kind source at end (inline_data item.body) (cond b Next (Sectors (record { start = start; addr = addr; count = count })))
    by_addr addr count true = refl
    by_addr addr count false =
        let s = sectors kind source.sums source.nosum count addr (source.size - start) in
        let k : Unit {0} → Program Piece (Result ℕ ℕ) = λ u. Return (on_at source.size end) in
        gap_bind (start - at) (bind s k) (on end) ∙ ap (gap (start - at)) (bind_assoc s k (on end))

  module _ (fields : FileExtent) where
    abbrev end : ℕ
    end = end_of start fields

    -- the pieces of an extent that begins before the size, by its shape, are what is still to come of it
    by_shape : (s : Shape) → bind (shaped kind source.sums source.nosum source.size at (extent item fields) s) (on end)
        ≡ todo_prog kind source at end (inline_data item.body) (todo_at source.size item.leaf start s)
    by_shape (shape.Inline len) = by_len end len (len == 0)
    by_shape (shape.Regular addr disk_len skip len) = by_addr end (addr + skip) (sector_count source.size start len) (addr == 0)
    by_shape (shape.Prealloc addr disk_len skip len) = refl

    -- the pieces of an extent, by whether it begins before the size, are what is still to come of it
    by_size : (b : Bool) → bind (cond b (Return (Err at)) (shaped kind source.sums source.nosum source.size at (extent item fields) fields.shape))
        (on end) ≡ todo_prog kind source at end (inline_data item.body) (cond b Over (todo_at source.size item.leaf start fields.shape))
    by_size true = refl
    by_size false = by_shape fields.shape

    -- the pieces of an extent, by its clearness, are what comes of its item
    by_clearness : (s : Survey) → bind (if_clear (extent item fields) s
        (cond (nat_le source.size start) (Return (Err at)) (shaped kind source.sums source.nosum source.size at (extent item fields) fields.shape)))
        (on end) ≡ ahead_prog (ahead_clear source.size item fields s)
    by_clearness Clear = by_size (nat_le source.size start)
    by_clearness Compressed = refl
    by_clearness Encoded = refl

    -- the pieces of an item's extent, by its order, are what comes of the item
    by_order : (b : Bool) → cond b (bind (piece kind source.sums source.nosum source.size at (extent item fields)) (on end))
        (Stop (fate.Malformed item.leaf)) ≡ ahead_prog (cond b (ahead_clear source.size item fields (judged fields)) (Err (Malformed item.leaf)))
    by_order true = by_clearness (judged fields)
    by_order false = refl

  -- the pieces of an item, by its form, are what comes of it
  by_form : (before : ℕ) (r : Result FileExtent ItemFault) → formed item r (extent_pieces kind source (given at before) item)
      ≡ ahead_prog (ahead_formed source.size before item r)
  by_form before (Ok fields) = by_order fields (nat_le before start)
  by_form before (Err fault) = refl

  -- the pieces of an item behind an extent that ends at a position
  pub pieces_are : (before : ℕ) → item_pieces kind source (given at before) item ≡ ahead_prog (ahead_of source.size before item)
  pieces_are before = by_form before (file_extent_of item.key.offset item.body)

-- ---- what is known of a clear extent

-- where a test of two things holds, both hold
pub both : (a b : Bool) → (a && b) ≡ true → (a ≡ true) × (b ≡ true)
both true b h = (refl, h)
both false b h = let z : ⊥ = cc in absurd z

-- where one of two things holds and the first doesn't, the second does
other : (a b : Bool) → (a || b) ≡ true → a ≡ false → b ≡ true
other true b h e = let z : ⊥ = cc in absurd z
other false b h e = h

-- fields that came of a test are those that were tested, and it held
pub of_fields : {T : Type 0} (b : Bool) (x y : T) → fields_if b x ≡ Ok y → (b ≡ true) × (x ≡ y)
of_fields true x y h = (refl, cc)
of_fields false x y h = let z : ⊥ = cc in absurd z

-- a good answer that a function made was made of a good answer
pub of_map : {T U : Type 0} (f : T → U) (r : Result T ItemFault) (y : U) → map_ok f r ≡ Ok y → (x : T) × (r ≡ Ok x) × (f x ≡ y)
of_map f (Ok x) y h = (x, refl, cc)
of_map f (Err fault) y h = let z : ⊥ = cc in absurd z

not_zero : (n : ℕ) → not (n == 0) ≡ true → 0 < n
not_zero n h = grind (arith, nat_tests)

pub some_test : (n : ℕ) → 0 < n → (n == 0) ≡ false
some_test n h = grind (arith, nat_tests)

zero_test : (n : ℕ) → (n == 0) ≡ true → n ≡ 0
zero_test n h = grind (arith, nat_tests)

-- where the test says that a number is below another, it is
pub below : (m n : ℕ) → nat_lt m n ≡ true → m < n
below m n h = grind (arith, nat_tests)

-- a place of a clear extent: whole sectors of it that end below 2^64
pub record IsPlaced (addr skip len : ℕ) : Type 0 where
  pub addr_whole : addr % 4096 ≡ 0
  pub skip_whole : skip % 4096 ≡ 0
  pub len_whole : len % 4096 ≡ 0
  pub some : 0 < len
  pub fits : addr + skip + len < 2 ^ 64

-- what is known of the shape of a clear extent in a body
abbrev pub Known : List ℕ → Shape → Type 0
Known body (shape.Inline len) = length body ≡ 21 + len
Known body (shape.Regular addr disk_len skip len) = 0 < addr → IsPlaced addr skip len
Known body (shape.Prealloc addr disk_len skip len) = Unit {0}

-- a regular extent that keeps its form, isn't compressed and isn't a hole has whole sectors that end below 2^64
placed : (offset addr disk_len skip len : ℕ) (whole compressed : Bool) → compressed ≡ false
    → (whole && is_range offset len && not (len == 0) && is_range addr disk_len &&
    ((addr == 0) || (is_aligned skip && (compressed || holds disk_len skip len)))) ≡ true → 0 < addr → IsPlaced addr skip len
placed offset addr disk_len skip len whole compressed clear h some =
    let z = (addr == 0) || (is_aligned skip && (compressed || holds disk_len skip len)) in
    let e = both (whole && is_range offset len && not (len == 0) && is_range addr disk_len) z h in
    let d = both (whole && is_range offset len && not (len == 0)) (is_range addr disk_len) e.0 in
    let c = both (whole && is_range offset len) (not (len == 0)) d.0 in
    let b = both whole (is_range offset len) c.0 in
    let of_len = both (is_aligned offset && is_aligned len) (nat_lt (offset + len) (2 ^ 64)) b.1 in
    let of_addr = both (is_aligned addr && is_aligned disk_len) (nat_lt (addr + disk_len) (2 ^ 64)) d.1 in
    let of_skip = both (is_aligned skip) (compressed || holds disk_len skip len) (other (addr == 0)
    (is_aligned skip && (compressed || holds disk_len skip len)) e.1 (some_test addr some)) in
    let within : skip + len ≤ disk_len = is_le (skip + len) disk_len (other compressed (holds disk_len skip len) of_skip.1 clear) in
    let last : addr + disk_len < 2 ^ 64 = below (addr + disk_len) (2 ^ 64) of_addr.1 in
    record {
      addr_whole = zero_test (addr % 4096) (both (is_aligned addr) (is_aligned disk_len) of_addr.0).0;
      skip_whole = zero_test (skip % 4096) of_skip.0;
      len_whole = zero_test (len % 4096) (both (is_aligned offset) (is_aligned len) of_len.0).1;
      some = not_zero len c.1;
      fits = omega (arith, within, last);
    }

module _ (offset : ℕ) (body : List ℕ) (clear : not (slice_index body 16 == 0) ≡ false) (long : 21 ≤ length body) where
  abbrev regular : Shape
  regular = shape.Regular (number_at 8 21 body) (number_at 8 29 body) (number_at 8 37 body) (number_at 8 45 body)

  abbrev prealloc : Shape
  prealloc = shape.Prealloc (number_at 8 21 body) (number_at 8 29 body) (number_at 8 37 body) (number_at 8 45 body)

  -- a regular extent that keeps its form has its place, if it isn't a hole
  known_regular : (s : Shape) → fields_if (place_fits offset body) regular ≡ Ok s → Known body s
  known_regular s h =
      let f = of_fields (place_fits offset body) regular s h in
      subst (Known body) f.1 (λ some. placed offset (number_at 8 21 body) (number_at 8 29 body) (number_at 8 37 body) (number_at 8 45 body)
      (length body == 53) (not (slice_index body 16 == 0)) clear f.0 some)

  -- a preallocated extent that keeps its form is known
  known_prealloc : (s : Shape) → fields_if (place_fits offset body) prealloc ≡ Ok s → Known body s
  known_prealloc s h = subst (Known body) (of_fields (place_fits offset body) prealloc s h).1 tt

  abbrev inline : Result Shape ItemFault
  inline = Ok (shape.Inline (length body - 21))

  -- an inline extent has all bytes of its body behind the first 21
  known_inline : (s : Shape) → inline ≡ Ok s → Known body s
  known_inline s h = let e : shape.Inline (length body - 21) ≡ s = cc in subst (Known body) e (omega (arith, long))

  -- a shape that is neither inline nor regular is a known preallocated one
  by_two : (s : Shape) (b : Bool) → cond b (fields_if (place_fits offset body) prealloc) (Err (record {})) ≡ Ok s → Known body s
  by_two s true h = known_prealloc s h
  by_two s false h = let z : ⊥ = cc in absurd z

  -- a shape that isn't inline is known, a regular or a preallocated one
  by_one : (s : Shape) (b c : Bool) → cond b (fields_if (place_fits offset body) regular)
      (cond c (fields_if (place_fits offset body) prealloc) (Err (record {}))) ≡ Ok s → Known body s
  by_one s true c h = known_regular s h
  by_one s false c h = by_two s c h

  -- a shape is known by its type
  by_kind : (s : Shape) (a b c : Bool) → cond a inline (cond b (fields_if (place_fits offset body) regular)
      (cond c (fields_if (place_fits offset body) prealloc) (Err (record {})))) ≡ Ok s → Known body s
  by_kind s true b c h = known_inline s h
  by_kind s false b c h = by_one s b c h

  -- the shape that stands in the body of an extent without compression is known
  shape_known : (s : Shape) → shape_of offset body ≡ Ok s → Known body s
  shape_known s h = let k = slice_index body 20 in by_kind s (k == 0) (k == 1) (k == 2) h

-- where two tests judge an extent clear, the first found no compression
is_clear : (fields : FileExtent) (a b : Bool) → cond (not a) Compressed (cond b Encoded Clear) ≡ Clear → a ≡ true
is_clear fields true b h = refl
is_clear fields false b h = let z : ⊥ = cc in absurd z

not_true : (a : Bool) → a ≡ true → not a ≡ false
not_true true e = refl
not_true false e = let z : ⊥ = cc in absurd z

-- an extent that is clear isn't compressed
pub plain : (fields : FileExtent) → judged fields ≡ Clear → (fields.compression == 0) ≡ true
plain fields h = is_clear fields (fields.compression == 0) fields.encoded h

module _ (offset : ℕ) (body : List ℕ) (fields : FileExtent) (clear : judged fields ≡ Clear) where
  -- the fields that stand in the body, with a shape
  abbrev of_shape : Shape → FileExtent
  of_shape s = record {
    generation = number_at 8 0 body;
    ram = number_at 8 8 body;
    compression = slice_index body 16;
    encoded = not (slice_index body 17 == 0) || not (number_at 2 18 body == 0);
    shape = s;
  }

  -- where a body was long enough for a clear extent, the extent's shape is known
  of_test : (b : Bool) → (nat_le 21 (length body) && is_aligned offset) ≡ b → cond b (map_ok of_shape (shape_of offset body)) (Err (record {})) ≡ Ok fields
      → Known body fields.shape
  of_test true e h =
      let m = of_map of_shape (shape_of offset body) fields h in
      let same : slice_index body 16 ≡ fields.compression = ap (λ (x : FileExtent). x.compression) m.2 in
      let zero : (slice_index body 16 == 0) ≡ true = ap (λ (n : ℕ). n == 0) same ∙ plain fields clear in
      subst (Known body) (ap (λ (x : FileExtent). x.shape) m.2)
      (shape_known offset body (not_true (slice_index body 16 == 0) zero)
      (is_le 21 (length body) (both (nat_le 21 (length body)) (is_aligned offset) e).0) m.0 m.1)
  of_test false e h = let z : ⊥ = cc in absurd z

  -- a clear extent in a body, by its shape
  pub extent_known : Ok fields ≡ file_extent_of offset body → Known body fields.shape
  extent_known h = of_test (nat_le 21 (length body) && is_aligned offset) refl (sym h)

-- the address of a known shape's bytes fits
known_fits : (body : List ℕ) (s : Shape) → Known body s → FitsShape s
known_fits body (shape.Inline len) h = tt
known_fits body (shape.Regular addr disk_len skip len) h = λ some. let p = h some in omega (arith, p.fits)
known_fits body (shape.Prealloc addr disk_len skip len) h = tt

-- the address of its bytes fits
pub clear_fits : (offset : ℕ) (body : List ℕ) (fields : FileExtent) → judged fields ≡ Clear → Ok fields ≡ file_extent_of offset body → FitsShape fields.shape
clear_fits offset body fields clear h = known_fits body fields.shape (extent_known offset body fields clear h)

module _ (size before : ℕ) (item : TreeItem) (fields : FileExtent) (clear : judged fields ≡ Clear) (order : before ≤ item.key.offset) where
  abbrev begin : ℕ
  begin = item.key.offset

  -- a clear inline extent covers as many bytes of the file as stand in it
  inline_len : (len : ℕ) → file_len fields (shape.Inline len) ≡ len
  inline_len len = ap (λ (b : Bool). cond b len fields.ram) (plain fields clear)

  -- what is to come of an inline extent that begins before the size fits behind the extent before
  fits_inline : (len : ℕ) (b : Bool) → (len == 0) ≡ b → begin < size → FitsTodo size before (begin + file_len fields (shape.Inline len))
      (cond b Next (Inline (record { start = begin; leaf = item.leaf; len = len })))
  fits_inline len true e lt = omega (arith, order)
  fits_inline len false e lt =
      let some : 0 < len = grind (arith, nat_tests) in
      let same = inline_len len in
      (order, lt, omega (arith, some, same), some)

  module _ (addr skip len : ℕ) (p : IsPlaced addr skip len) (lt : begin < size) where
    abbrev count : ℕ
    count = sector_count size begin len

    -- the sectors of an extent up to the size fit behind the extent before, at whole sectors' addresses
    fits_sectors : FitsTodo size before (begin + len) (Sectors (record { start = begin; addr = addr + skip; count = count }))
    fits_sectors =
        let m : ℕ = min len (size - begin) in
        let low : (m ≤ len) × (m ≤ size - begin) × (0 < m) = (omega arith, omega arith, omega (arith, lt, p.some)) in
        let whole : 4096 * (len / 4096) ≡ len = omega (arith, p.len_whole) in
        let c : (count * 4096 ≤ m + 4095) × (m < count * 4096 + 1) = (omega arith, omega arith) in (
          order,
          omega (arith, low.2, c.1),
          omega (arith, low.1, c.0, lt),
          omega (arith, low.0, c.0),
          omega (arith, low.0, c.0, whole, p.fits),
          omega (arith, p.addr_whole, p.skip_whole),
        )

  -- what is to come of a regular extent, a hole or not, fits behind the extent before
  fits_regular : (addr disk_len skip len : ℕ) (b : Bool) → (addr == 0) ≡ b → (0 < addr → IsPlaced addr skip len) → begin < size → FitsTodo size before
      (begin + len) (cond b Next (Sectors (record { start = begin; addr = addr + skip; count = sector_count size begin len })))
  fits_regular addr disk_len skip len true e p lt = omega (arith, order)
  fits_regular addr disk_len skip len false e p lt = let some : 0 < addr = grind (arith, nat_tests) in fits_sectors addr skip len (p some) lt

  -- what is to come of an extent that begins before the size fits behind the one before, whatever its shape
  fits_shape : (s : Shape) → Known item.body s → begin < size → FitsTodo size before (begin + file_len fields s) (todo_at size item.leaf begin s)
  fits_shape (shape.Inline len) k lt = fits_inline len (len == 0) refl lt
  fits_shape (shape.Regular addr disk_len skip len) k lt = fits_regular addr disk_len skip len (addr == 0) refl k lt
  fits_shape (shape.Prealloc addr disk_len skip len) k lt = omega (arith, order)

  -- what is to come of an extent fits behind the one before, wherever it begins
  fits_size : (b : Bool) → nat_le size begin ≡ b → Known item.body fields.shape
      → FitsTodo size before (end_of begin fields) (cond b Over (todo_at size item.leaf begin fields.shape))
  fits_size true e k = tt
  fits_size false e k = fits_shape fields.shape k (is_lt size begin e)

  -- where inline bytes are to come, they are those of the item
  inline_at : (len : ℕ) (b : Bool) → length item.body ≡ 21 + len → IsInline (Some item)
      (cond b Next (Inline (record { start = begin; leaf = item.leaf; len = len })))
  inline_at len true k = tt
  inline_at len false k = k

  -- where sectors or nothing are to come, no item has to stand for them
  inline_none : (addr n : ℕ) (b : Bool) → IsInline (Some item) (cond b Next (Sectors (record { start = begin; addr = addr; count = n })))
  inline_none addr n true = tt
  inline_none addr n false = tt

  -- inline bytes that are to come of a known shape are those of the item
  inline_shape : (s : Shape) → Known item.body s → IsInline (Some item) (todo_at size item.leaf begin s)
  inline_shape (shape.Inline len) k = inline_at len (len == 0) k
  inline_shape (shape.Regular addr disk_len skip len) k = inline_none (addr + skip) (sector_count size begin len) (addr == 0)
  inline_shape (shape.Prealloc addr disk_len skip len) k = tt

  -- inline bytes that are to come are those of the item, wherever the extent begins
  inline_size : (b : Bool) → Known item.body fields.shape → IsInline (Some item) (cond b Over (todo_at size item.leaf begin fields.shape))
  inline_size true k = tt
  inline_size false k = inline_shape fields.shape k

  -- what is to come of a clear extent in its order fits, and its inline bytes are those of its item
  pub ahead_good : Known item.body fields.shape → FitsTodo size before (ahead_at size item fields).end (ahead_at size item fields).todo
      × IsInline (Some item) (ahead_at size item fields).todo
  ahead_good k = (fits_size (nat_le size begin) refl k, inline_size (nat_le size begin) k)

-- what was found of an item is good
module _ (size before : ℕ) (item : TreeItem) (ahead : Ahead) where
  -- what was found fits behind the extent before, and its inline bytes are those of the item
  abbrev Good : Type 0
  Good = FitsTodo size before ahead.end ahead.todo × IsInline (Some item) ahead.todo

  -- what was found of an item in its order is good, by its clearness
  good_clear : (fields : FileExtent) (s : Survey) → judged fields ≡ s → before ≤ item.key.offset → Ok fields
      ≡ file_extent_of item.key.offset item.body → ahead_clear size item fields s ≡ Ok ahead → Good
  good_clear fields Clear clear order form h =
      let e : ahead_at size item fields ≡ ahead = cc in
      subst (λ (a : Ahead). FitsTodo size before a.end a.todo × IsInline (Some item) a.todo) e
      (ahead_good size before item fields clear order (extent_known item.key.offset item.body fields clear form))
  good_clear fields Compressed clear order form h = let z : ⊥ = cc in absurd z
  good_clear fields Encoded clear order form h = let z : ⊥ = cc in absurd z

  -- what was found of an item is good, by its order
  good_order : (fields : FileExtent) (b : Bool) → nat_le before item.key.offset ≡ b → Ok fields ≡ file_extent_of item.key.offset item.body
      → cond b (ahead_clear size item fields (judged fields)) (Err (Malformed item.leaf)) ≡ Ok ahead → Good
  good_order fields true e form h = good_clear fields (judged fields) refl (is_le before item.key.offset e) form h
  good_order fields false e form h = let z : ⊥ = cc in absurd z

  -- what was found of an item is good, by its form
  good_form : (r : Result FileExtent ItemFault) → r ≡ file_extent_of item.key.offset item.body → ahead_formed size before item r ≡ Ok ahead → Good
  good_form (Ok fields) form h = good_order fields (nat_le before item.key.offset) refl form h
  good_form (Err fault) form h = let z : ⊥ = cc in absurd z

  -- where an item comes to something to give, that fits behind the extent before, and its inline bytes are the item's
  pub found_good : ahead_of size before item ≡ Ok ahead → Good
  found_good h = good_form (file_extent_of item.key.offset item.body) refl h

-- a fault of an item is that its leaf is malformed
module _ (size before : ℕ) (item : TreeItem) (f : TreeFault) where
  -- an extent in its order that isn't clear makes its leaf malformed
  fault_clear : (fields : FileExtent) (s : Survey) → ahead_clear size item fields s ≡ Err f → f ≡ Malformed item.leaf
  fault_clear fields Clear h = let z : ⊥ = cc in absurd z
  fault_clear fields Compressed h = cc
  fault_clear fields Encoded h = cc

  -- an extent out of order, or one that isn't clear, makes its leaf malformed
  fault_order : (fields : FileExtent) (b : Bool) → cond b (ahead_clear size item fields (judged fields)) (Err (Malformed item.leaf)) ≡ Err f → f
      ≡ Malformed item.leaf
  fault_order fields true h = fault_clear fields (judged fields) h
  fault_order fields false h = cc

  -- an item that breaks its form, or whose extent isn't the next clear one, makes its leaf malformed
  fault_form : (r : Result FileExtent ItemFault) → ahead_formed size before item r ≡ Err f → f ≡ Malformed item.leaf
  fault_form (Ok fields) h = fault_order fields (nat_le before item.key.offset) h
  fault_form (Err fault) h = cc

  -- whatever is wrong with an item, its fault is that its leaf is malformed
  pub found_fault : ahead_of size before item ≡ Err f → f ≡ Malformed item.leaf
  found_fault h = fault_form (file_extent_of item.key.offset item.body) h

-- ---- what the code makes of an item
module _ (size before : ℕ) (item : TreeItem) (fields : FileExtent) (form : Ok fields ≡ file_extent_of item.key.offset item.body) where
  -- an extent that begins before the end of the one before it makes its leaf malformed
  pub ahead_late : item.key.offset < before → ahead_of size before item ≡ Err (Malformed item.leaf)
  ahead_late h = ap (ahead_formed size before item) (sym form)
      ∙ ap (λ (b : Bool). cond b (ahead_clear size item fields (judged fields)) (Err (Malformed item.leaf))) (test_lt item.key.offset before h)

  -- what comes of an extent in its order is by its clearness
  pub ahead_judged : (s : Survey) → before ≤ item.key.offset → s ≡ judged fields → ahead_of size before item ≡ ahead_clear size item fields s
  ahead_judged s h e =
      ap (ahead_formed size before item) (sym form)
      ∙ ap (λ (b : Bool). cond b (ahead_clear size item fields (judged fields)) (Err (Malformed item.leaf))) (test_le item.key.offset before h)
      ∙ ap (ahead_clear size item fields) (sym e)
