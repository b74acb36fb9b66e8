-- ROOT_ITEM: the root of a tree.
use Rattle.std.specs.Prelude.{ℕ, Bool, ◌==◌, ◌||◌, List, length, slice_index, Result}
use Rattle.btr_base.specs.Field.{number_at}
use Rattle.btr_items.specs.Form.{fields_if}
use Rattle.btr_items.specs.declared.fault.ItemFault.{ItemFault}
use Rattle.btr_items.specs.declared.root_item.RootItem.{RootItem}

-- a ROOT_ITEM has 439 bytes, or 239 in its old form
abbrev pub is_root_size : ℕ → Bool
is_root_size size = (size == 439) || (size == 239)

-- the root in the body of a ROOT_ITEM
abbrev pub root_item_of : List ℕ → Result RootItem ItemFault
root_item_of body = fields_if (is_root_size (length body)) (record {
  generation = number_at 8 160 body;
  dirid = number_at 8 168 body;
  bytenr = number_at 8 176 body;
  flags = number_at 8 208 body;
  refs = number_at 4 216 body;
  level = slice_index body 238;
})
