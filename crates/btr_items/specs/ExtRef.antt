-- INODE_EXTREF: names of an inode, where an INODE_REF had no room.
use Rattle.std.specs.Prelude.{ℕ, ◌+◌, ◌&&◌, nat_le, List, length, Result}
use Rattle.btr_base.specs.Field.{number_at}
use Rattle.btr_items.specs.Form.{fields_if, is_name}
use Rattle.btr_items.specs.Parts.{parts_from}
use Rattle.btr_items.specs.declared.ext_ref.ExtRef.{ExtRef}
use Rattle.btr_items.specs.declared.fault.ItemFault.{ItemFault}

-- the reference that begins at a place: 18 bytes, and the name
abbrev pub ext_ref_at : ℕ → List ℕ → Result ExtRef ItemFault
ext_ref_at at body =
    let name_len = number_at 2 (at + 16) body in
    let end = at + 18 + name_len in
    fields_if (nat_le (at + 18) (length body) && is_name name_len && nat_le end (length body)) (record {
      parent = number_at 8 at body;
      index = number_at 8 (at + 8) body;
      name_at = at + 18;
      name_len = name_len;
      end = end;
    })

-- the references in a body
abbrev pub ext_refs_of : List ℕ → List (Result ExtRef ItemFault)
ext_refs_of body = parts_from ext_ref_at (λ part. part.end) 0 body
