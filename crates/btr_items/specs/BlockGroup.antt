-- BLOCK_GROUP_ITEM: a block group.
use Rattle.std.specs.Prelude.{ℕ, ◌==◌, List, length, Result}
use Rattle.btr_base.specs.Field.{number_at}
use Rattle.btr_items.specs.Form.{fields_if}
use Rattle.btr_items.specs.declared.block_group.BlockGroup.{BlockGroup}
use Rattle.btr_items.specs.declared.fault.ItemFault.{ItemFault}

-- the block group in the body of a BLOCK_GROUP_ITEM, which has 24 bytes
abbrev pub block_group_of : List ℕ → Result BlockGroup ItemFault
block_group_of body = fields_if (length body == 24) (record {
  used = number_at 8 0 body;
  owner = number_at 8 8 body;
  flags = number_at 8 16 body;
})
