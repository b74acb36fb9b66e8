-- DEV_ITEM: a device.
use Rattle.std.specs.Prelude.{ℕ, ◌==◌, List, length, Result}
use Rattle.btr_base.specs.Field.{number_at, bytes_at}
use Rattle.btr_items.specs.Form.{fields_if}
use Rattle.btr_items.specs.declared.dev_item.DevItem.{DevItem}
use Rattle.btr_items.specs.declared.fault.ItemFault.{ItemFault}

-- the device in the body of a DEV_ITEM, which has 98 bytes
abbrev pub dev_item_of : List ℕ → Result DevItem ItemFault
dev_item_of body = fields_if (length body == 98) (record {
  devid = number_at 8 0 body;
  total = number_at 8 8 body;
  used = number_at 8 16 body;
  uuid = bytes_at 16 66 body;
})
