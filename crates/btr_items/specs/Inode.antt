-- INODE_ITEM: an inode.
use Rattle.std.specs.Prelude.{ℕ, ◌==◌, List, length, Result}
use Rattle.btr_base.specs.Field.{number_at}
use Rattle.btr_items.specs.Form.{fields_if}
use Rattle.btr_items.specs.declared.fault.ItemFault.{ItemFault}
use Rattle.btr_items.specs.declared.inode.Inode.{Inode}

-- the inode in the body of an INODE_ITEM, which has 160 bytes
abbrev pub inode_of : List ℕ → Result Inode ItemFault
inode_of body = fields_if (length body == 160) (record {
  size = number_at 8 16 body;
  nlink = number_at 4 40 body;
  mode = number_at 4 52 body;
  flags = number_at 8 64 body;
})
