-- Block groups and devices that were collected.
use Rattle.std.proofs.Common.{◌≡◌, List, [], fold, filter_map, Option, Some, ap, ◌∙◌}
use Rattle.btr_chunk.specs.declared.chunk.Chunk.{Chunk}
use Rattle.btr_findings.proofs.Adding.{adds_as}
use Rattle.btr_findings.specs.Findings.{Adds, FoundSet}
use Rattle.btr_check_space.specs.Devices.{device_findings}
use Rattle.btr_check_space.specs.Items.{with_mark, group_in, device_extent_in, device_in, groups_in, Collects}
use Rattle.btr_check_space.specs.declared.device_extent.DeviceExtent.{DeviceExtent}
use Rattle.btr_check_space.specs.declared.group.Group.{Group}
use Rattle.btr_check_space.specs.declared.stated_device.StatedDevice.{StatedDevice}
use Rattle.btr_volume.specs.declared.root.TreeRoot.{TreeRoot}
use Rattle.btr_check.proofs.Passes.{collected}
use Rattle.btr_check.specs.Families.{group_tree, groups, device_extents, devices, found_on_devices}
use Rattle.btr_check.specs.Filesystem.{Filesystem}
use Rattle.btr_check.specs.Passes.{Lists, marks_if}
use Rattle.btr_check.specs.Trees.{chunk_tree, last_of, items_if}

module _ (fs : Filesystem) where
  -- what was collected of the tree that has the block groups
  pub groups_are : Collects group_in → (trees : List TreeRoot) (tree : Option TreeRoot) (none met : List Group) → Lists trees fs → tree ≡ group_tree trees
      → none ≡ [] → met ≡ fold (with_mark group_in) none (marks_if fs.blocks tree) → met ≡ groups fs
  groups_are law trees tree none met lists is empty folded =
      collected group_in law fs.blocks tree none met empty folded ∙ ap (λ t. groups_in (items_if fs.blocks t)) (is ∙ ap group_tree lists)

  -- what is met in the device tree
  pub device_extents_are : Collects device_extent_in → (trees : List TreeRoot) (tree : Option TreeRoot) (none met : List DeviceExtent) → Lists trees fs
      → tree ≡ last_of 4 trees → none ≡ []
      → met ≡ fold (with_mark device_extent_in) none (marks_if fs.blocks tree) → met ≡ device_extents fs
  device_extents_are law trees tree none met lists is empty folded =
      collected device_extent_in law fs.blocks tree none met empty folded ∙ ap (λ t. filter_map device_extent_in (items_if fs.blocks t))
      (is ∙ ap (last_of 4) lists)

  -- what is met in the chunk tree
  pub devices_are : Collects device_in → (tree : TreeRoot) (none met : List StatedDevice) → tree ≡ chunk_tree fs.sup → none ≡ []
      → met ≡ fold (with_mark device_in) none (marks_if fs.blocks (Some tree)) → met ≡ devices fs
  devices_are law tree none met is empty folded =
      collected device_in law fs.blocks (Some tree) none met empty folded ∙ ap (λ t. filter_map device_in (items_if fs.blocks (Some t))) is

  -- what was put of device extents and devices is what is found on devices
  pub devices_put : (chunks : List Chunk) (extent_list : List DeviceExtent) (device_list : List StatedDevice) (a b : FoundSet) → chunks ≡ fs.chunks
      → extent_list ≡ device_extents fs → device_list ≡ devices fs
      → Adds (device_findings chunks extent_list device_list) a b → Adds (found_on_devices fs) a b
  devices_put chunks extent_list device_list a b one two three adds =
      adds_as (device_findings chunks extent_list device_list) (found_on_devices fs) a b (λ i. device_findings (one i) (two i) (three i)) adds
