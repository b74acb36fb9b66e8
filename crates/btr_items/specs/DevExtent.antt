-- DEV_EXTENT: a range of a device that a chunk has.
use Rattle.std.specs.Prelude.{ℕ, ◌==◌, List, length, Result}
use Rattle.btr_base.specs.Field.{number_at}
use Rattle.btr_items.specs.Form.{fields_if}
use Rattle.btr_items.specs.declared.dev_extent.DevExtent.{DevExtent}
use Rattle.btr_items.specs.declared.fault.ItemFault.{ItemFault}

-- the range in the body of a DEV_EXTENT, which has 48 bytes
abbrev pub dev_extent_of : List ℕ → Result DevExtent ItemFault
dev_extent_of body = fields_if (length body == 48) (record {
  chunk = number_at 8 16 body;
  «length» = number_at 8 24 body;
})
