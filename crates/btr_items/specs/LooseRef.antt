-- TREE_BLOCK_REF, SHARED_BLOCK_REF, EXTENT_DATA_REF and SHARED_DATA_REF: a
-- reference to an extent in an item of its own.
use Rattle.std.specs.Prelude.{ℕ, ◌==◌, ◌&&◌, Bool, false, List, length, Option, Some, None, Result}
use Rattle.btr_base.specs.declared.key.Key.{Key}
use Rattle.btr_items.specs.Form.{fields_if}
use Rattle.btr_items.specs.Key.{key_fits}
use Rattle.btr_items.specs.Link.{data_size, link_at, count_at}
use Rattle.btr_items.specs.declared.fault.ItemFault.{ItemFault}
use Rattle.btr_items.specs.declared.loose_ref.LooseRef.{LooseRef}

-- a body has just the bytes that its type says
abbrev pub has_size : Option ℕ → List ℕ → Bool
has_size (Some size) body = length body == size
has_size None body = false

-- the reference in an item: its key's offset, and a body of just the data
abbrev pub loose_ref_of : Key → List ℕ → Result LooseRef ItemFault
loose_ref_of key body = fields_if (key_fits key && has_size (data_size key.kind) body) (record {
  link = link_at key.kind key.offset 0 body;
  count = count_at key.kind 0 body;
})
