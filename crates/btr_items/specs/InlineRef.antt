-- References to an extent in the extent's own item.
use Rattle.std.specs.Prelude.{ℕ, ◌+◌, if◌then◌else◌, nat_lt, nat_le, List, length, slice_index, Option, Some, None, Result, Err}
use Rattle.btr_base.specs.Field.{number_at}
use Rattle.btr_items.specs.Form.{fields_if}
use Rattle.btr_items.specs.Link.{data_size, offset_size, link_at, count_at}
use Rattle.btr_items.specs.Parts.{parts_from}
use Rattle.btr_items.specs.declared.fault.ItemFault.{ItemFault}
use Rattle.btr_items.specs.declared.inline_ref.InlineRef.{InlineRef}

-- the reference of a type whose offset begins at a place, and whose data has so many bytes
abbrev pub inline_ref_of : ℕ → Option ℕ → ℕ → List ℕ → Result InlineRef ItemFault
inline_ref_of kind None at body = Err (record {})
inline_ref_of kind (Some size) at body =
    let behind = at + offset_size kind in
    fields_if (nat_le (behind + size) (length body)) (record {
      link = link_at kind (number_at 8 at body) behind body;
      count = count_at kind behind body;
      end = behind + size;
    })

-- the reference that begins at a place: its type, its offset and its data
abbrev pub inline_ref_at : ℕ → List ℕ → Result InlineRef ItemFault
inline_ref_at at body =
    if nat_lt at (length body) then inline_ref_of (slice_index body at) (data_size (slice_index body at)) (at + 1) body
    else Err (record {})

-- the references from a place on
abbrev pub inline_refs_of : ℕ → List ℕ → List (Result InlineRef ItemFault)
inline_refs_of first body = parts_from inline_ref_at (λ part. part.end) first body
