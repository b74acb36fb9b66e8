-- An item of a leaf as it is given to callers.
use Rattle.std.specs.Prelude.{length}
use Rattle.btr_node.specs.Block.{Item}
use Rattle.btr_node.specs.declared.items.LeafItem.{LeafItem}

-- the item that it is: its bytes are as many as the table says
abbrev pub item_of : LeafItem → Item
item_of item = record { key = item.key; offset = item.offset; size = length item.body.now; body = item.body.now }
