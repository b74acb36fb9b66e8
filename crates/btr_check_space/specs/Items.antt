-- The items that speak of space, and the lists that are made of them.
use Rattle.std.specs.Prelude.{◌≡◌, ◌==◌, List, [], ◌++◌, fold, filter_map, option_map, option_to_list, Option, None, if◌then◌else◌}
use Rattle.std.specs.Result.{result_ok}
use Rattle.btr_items.specs.BlockGroup.{block_group_of}
use Rattle.btr_items.specs.DevExtent.{dev_extent_of}
use Rattle.btr_items.specs.DevItem.{dev_item_of}
use Rattle.btr_items.specs.Types.{block_group_item, dev_extent, dev_item}
use Rattle.btr_items.specs.declared.block_group.BlockGroup.{BlockGroup}
use Rattle.btr_items.specs.declared.dev_extent.DevExtent.{DevExtent}
use Rattle.btr_items.specs.declared.dev_item.DevItem.{DevItem}
use Rattle.btr_tour.specs.Tour.{Mark, Block, Child, Item, Left, items_met}
use Rattle.btr_walk.specs.Le.{TreeItem}
use Rattle.btr_check_space.specs.declared.device_extent.DeviceExtent.{DeviceExtent}
use Rattle.btr_check_space.specs.declared.group.Group.{Group}
use Rattle.btr_check_space.specs.declared.stated_device.StatedDevice.{StatedDevice}

-- a block group of an item, whose key has its range
abbrev pub group_with : TreeItem → BlockGroup → Group
group_with item fields = record { start = item.key.objectid; len = item.key.offset; used = fields.used; flags = fields.flags }

-- the block group of an item, if it is one and has its form
abbrev pub group_in : TreeItem → Option Group
group_in item = if item.key.kind == block_group_item then option_map (group_with item) (result_ok (block_group_of item.body)) else None

-- a device extent of an item, whose key has the device and where it begins
abbrev pub extent_with : TreeItem → DevExtent → DeviceExtent
extent_with item fields = record { devid = item.key.objectid; offset = item.key.offset; chunk = fields.chunk; len = fields.length }

-- the device extent of an item, if it is one and has its form
abbrev pub device_extent_in : TreeItem → Option DeviceExtent
device_extent_in item = if item.key.kind == dev_extent then option_map (extent_with item) (result_ok (dev_extent_of item.body)) else None

-- a device of an item, whose key has its number
abbrev pub device_with : TreeItem → DevItem → StatedDevice
device_with item fields = record { devid = item.key.offset; used = fields.used }

-- the device of an item, if it is one and has its form
abbrev pub device_in : TreeItem → Option StatedDevice
device_in item = if item.key.kind == dev_item then option_map (device_with item) (result_ok (dev_item_of item.body)) else None

-- the block groups among the items of a tree, in their order: the block group tree where there is one, and else the
-- extent tree
abbrev pub groups_in : List TreeItem → List Group
groups_in items = filter_map group_in items

-- the device extents among the items of the device tree, in their order
abbrev pub device_extents_in : List TreeItem → List DeviceExtent
device_extents_in items = filter_map device_extent_in items

-- the devices among the items of the chunk tree, in their order
abbrev pub devices_in : List TreeItem → List StatedDevice
devices_in items = filter_map device_in items

-- what a tour's mark adds to a list: an item alone does
abbrev pub with_mark : {X : Type 0} → (TreeItem → Option X) → List X → Mark → List X
with_mark read list (Block place block) = list
with_mark read list (Child addr place) = list
with_mark read list (Item item) = list ++ option_to_list (read item)
with_mark read list (Left fault) = list

-- lists that begin empty have in the end what the items say
abbrev pub Collects : {X : Type 0} → (TreeItem → Option X) → Type 0
Collects read = (marks : List Mark) → fold (with_mark read) [] marks ≡ filter_map read (items_met marks)
