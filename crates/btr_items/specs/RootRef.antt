-- ROOT_REF and ROOT_BACKREF: a name of a subvolume.
use Rattle.std.specs.Prelude.{ℕ, ◌+◌, ◌==◌, ◌&&◌, nat_le, List, length, Result}
use Rattle.btr_base.specs.Field.{number_at}
use Rattle.btr_items.specs.Form.{fields_if, is_name}
use Rattle.btr_items.specs.declared.fault.ItemFault.{ItemFault}
use Rattle.btr_items.specs.declared.root_ref.RootRef.{RootRef}

-- the body of a ROOT_REF or a ROOT_BACKREF: 18 bytes, and the name to the end
abbrev pub root_ref_of : List ℕ → Result RootRef ItemFault
root_ref_of body =
    let name_len = number_at 2 16 body in
    fields_if (nat_le 18 (length body) && is_name name_len && (length body == 18 + name_len)) (record {
      dirid = number_at 8 0 body;
      sequence = number_at 8 8 body;
      name_at = 18;
      name_len = name_len;
    })
