-- EXTENT_DATA: a range of a file.
use Rattle.std.specs.Prelude.{ℕ, ◌+◌, ◌-◌, ◌^◌, ◌==◌, ◌&&◌, ◌||◌, not, Bool, if◌then◌else◌, nat_le, nat_lt, List, length, drop, slice_index, Result, Ok, Err}
use Rattle.btr_base.specs.Field.{number_at}
use Rattle.btr_items.specs.Form.{fields_if, map_ok}
use Rattle.btr_items.specs.Key.{is_aligned}
use Rattle.btr_items.specs.declared.fault.ItemFault.{ItemFault}
use Rattle.btr_items.specs.declared.file_extent.FileExtent.{FileExtent}
use Rattle.btr_items.specs.declared.shape.Shape.{Shape}
use Rattle.btr_items.specs.declared.shape.Shape.TheVariants.{Inline, Regular, Prealloc}

-- bytes are whole sectors and end below 2^64
abbrev pub is_range : ℕ → ℕ → Bool
is_range start len = is_aligned start && is_aligned len && nat_lt (start + len) (2 ^ 64)

-- an extent has some bytes behind those that are skipped
abbrev pub holds : ℕ → ℕ → ℕ → Bool
holds disk_len skip len = nat_le (skip + len) disk_len

-- the rules on a regular or preallocated extent of 53 bytes. A hole has the
-- address 0, and what it skips isn't looked at.
abbrev pub place_fits : ℕ → List ℕ → Bool
place_fits offset body =
    let addr = number_at 8 21 body in
    let disk_len = number_at 8 29 body in
    let skip = number_at 8 37 body in
    let len = number_at 8 45 body in
    let is_compressed = not (slice_index body 16 == 0) in
    (length body == 53) && is_range offset len && not (len == 0) && is_range addr disk_len
    && ((addr == 0) || (is_aligned skip && (is_compressed || holds disk_len skip len)))

-- where the bytes stand: the type is 0, 1 or 2
abbrev pub shape_of : ℕ → List ℕ → Result Shape ItemFault
shape_of offset body =
    let kind = slice_index body 20 in
    if kind == 0 then Ok (Inline (length body - 21))
    else if kind == 1 then fields_if (place_fits offset body) (Regular (number_at 8 21 body) (number_at 8 29 body) (number_at 8 37 body) (number_at 8 45 body))
    else if kind == 2 then fields_if (place_fits offset body) (Prealloc (number_at 8 21 body) (number_at 8 29 body) (number_at 8 37 body) (number_at 8 45 body))
    else Err (record {})

-- how many bytes of the file an extent covers: an inline one as many as stand in the item, or, compressed, as they make
abbrev pub file_len : FileExtent → Shape → ℕ
file_len extent (Inline len) = if extent.compression == 0 then len else extent.ram
file_len extent (Regular addr disk_len skip len) = len
file_len extent (Prealloc addr disk_len skip len) = len

-- where in the file an extent ends that begins at an offset; what an inline one makes has no bound
abbrev pub end_of : ℕ → FileExtent → ℕ
end_of offset extent = offset + file_len extent extent.shape

-- the bytes that stand in the body of an inline extent
abbrev pub inline_data : List ℕ → List ℕ
inline_data body = drop 21 body

-- the extent in the body of an EXTENT_DATA, by the offset in its key
abbrev pub file_extent_of : ℕ → List ℕ → Result FileExtent ItemFault
file_extent_of offset body =
    if nat_le 21 (length body) && is_aligned offset
    then map_ok
    (λ shape. record {
      generation = number_at 8 0 body;
      ram = number_at 8 8 body;
      compression = slice_index body 16;
      encoded = not (slice_index body 17 == 0) || not (number_at 2 18 body == 0);
      shape = shape;
    })
    (shape_of offset body)
    else Err (record {})
