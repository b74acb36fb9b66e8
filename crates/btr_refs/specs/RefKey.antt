-- Which reference to an extent is meant, and how references are ordered.
use Rattle.std.specs.Prelude.{ℕ, Bool}
use Rattle.std.specs.Ordering.{is_eq, nat_cmp, ordering_then}
use Rattle.std.specs.declared.cmp.Ordering.{Ordering}
use Rattle.btr_items.specs.Types.{tree_block_ref, extent_data_ref, shared_block_ref, shared_data_ref}
use Rattle.btr_items.specs.declared.link.Link.{Link}
use Rattle.btr_items.specs.declared.link.Link.TheVariants.{Tree, SharedTree, File, SharedFile}
use Rattle.btr_refs.specs.declared.ref_key.RefKey.{RefKey}

-- which reference a link to an extent is
abbrev pub key_of : ℕ → Link → RefKey
key_of addr (Tree root) = record { addr = addr; kind = tree_block_ref; root = root; objectid = 0; offset = 0 }
key_of addr (SharedTree parent) = record { addr = addr; kind = shared_block_ref; root = parent; objectid = 0; offset = 0 }
key_of addr (File root objectid offset) = record { addr = addr; kind = extent_data_ref; root = root; objectid = objectid; offset = offset }
key_of addr (SharedFile parent) = record { addr = addr; kind = shared_data_ref; root = parent; objectid = 0; offset = 0 }

-- references are ordered field by field
abbrev pub ref_cmp : RefKey → RefKey → Ordering
ref_cmp a b = ordering_then (nat_cmp a.addr b.addr) (ordering_then (nat_cmp a.kind b.kind)
    (ordering_then (nat_cmp a.root b.root) (ordering_then (nat_cmp a.objectid b.objectid) (nat_cmp a.offset b.offset))))

-- two references are the same
abbrev pub same_ref : RefKey → RefKey → Bool
same_ref a b = is_eq (ref_cmp a b)
