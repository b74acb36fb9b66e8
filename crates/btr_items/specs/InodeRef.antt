-- INODE_REF: names of an inode in one directory.
use Rattle.std.specs.Prelude.{ℕ, ◌+◌, ◌&&◌, nat_le, List, length, Result}
use Rattle.btr_base.specs.Field.{number_at}
use Rattle.btr_items.specs.Form.{fields_if, is_name}
use Rattle.btr_items.specs.Parts.{parts_from}
use Rattle.btr_items.specs.declared.fault.ItemFault.{ItemFault}
use Rattle.btr_items.specs.declared.inode_ref.InodeRef.{InodeRef}

-- the reference that begins at a place: 10 bytes, and the name
abbrev pub inode_ref_at : ℕ → List ℕ → Result InodeRef ItemFault
inode_ref_at at body =
    let name_len = number_at 2 (at + 8) body in
    let end = at + 10 + name_len in
    fields_if (nat_le (at + 10) (length body) && is_name name_len && nat_le end (length body)) (record {
      index = number_at 8 at body;
      name_at = at + 10;
      name_len = name_len;
      end = end;
    })

-- the references in a body
abbrev pub inode_refs_of : List ℕ → List (Result InodeRef ItemFault)
inode_refs_of body = parts_from inode_ref_at (λ part. part.end) 0 body
