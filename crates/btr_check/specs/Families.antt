-- What is wrong with what the trees say, pass by pass.
use Rattle.std.specs.Prelude.{◌≡◌, List, ◌++◌, map, flat_map, Option}
use Rattle.btr_check_names.specs.Subvolumes.{Subvolumes, subvolumes_in, subvolume_findings}
use Rattle.btr_findings.specs.declared.finding.Finding.{Finding}
use Rattle.btr_check_space.specs.AddressRanges.{HoldSame}
use Rattle.btr_check_space.specs.Devices.{device_findings}
use Rattle.btr_check_space.specs.Groups.{group_findings}
use Rattle.btr_check_space.specs.Items.{groups_in, device_extents_in, devices_in}
use Rattle.btr_check_space.specs.declared.address_ranges.AddressRange.{AddressRange}
use Rattle.btr_check_space.specs.declared.device_extent.DeviceExtent.{DeviceExtent}
use Rattle.btr_check_space.specs.declared.group.Group.{Group}
use Rattle.btr_check_space.specs.declared.stated_device.StatedDevice.{StatedDevice}
use Rattle.btr_check_sums.specs.Items.{RunsMet}
use Rattle.btr_check_sums.specs.Sums.{run_range, sum_findings}
use Rattle.btr_volume.specs.declared.root.TreeRoot.{TreeRoot}
use Rattle.btr_check.specs.Data.{sum_runs}
use Rattle.btr_check.specs.FileTrees.{file_tree_findings, root_entries}
use Rattle.btr_check.specs.Filesystem.{Filesystem, root_items, chunk_items, tree_items, extents, file_trees}
use Rattle.btr_check.specs.Trees.{last_of, items_if, listed}
use Rattle.btr_check.specs.Uses.{reference_findings}
use Rattle.btr_check.specs.Walking.{or_first}

-- the tree that has the block groups: the block group tree, where there is one, and else the extent tree
abbrev pub group_tree : List TreeRoot → Option TreeRoot
group_tree trees = or_first (last_of 11 trees) (last_of 2 trees)

module _ (fs : Filesystem) where
  -- the block groups of a filesystem
  abbrev pub groups : List Group
  groups = groups_in (items_if fs.blocks (group_tree (listed fs.sup fs.blocks)))

  -- the device extents of a filesystem
  abbrev pub device_extents : List DeviceExtent
  device_extents = device_extents_in (tree_items fs 4)

  -- the devices of a filesystem
  abbrev pub devices : List StatedDevice
  devices = devices_in (chunk_items fs)

  -- the names of subvolumes, in the root tree and in the trees of files
  abbrev pub subvolumes : Subvolumes
  subvolumes = subvolumes_in (root_items fs) (flat_map (root_entries fs.blocks) (file_trees fs))

  -- what was kept of the checksum tree
  abbrev pub IsRunsOf : RunsMet → Type 0
  IsRunsOf met = met.runs ≡ sum_runs fs

  -- these are the ranges of addresses that have checksums
  abbrev pub AreSumRanges : List AddressRange → Type 0
  AreSumRanges sums = HoldSame (map run_range (sum_runs fs)) sums

  -- 5, 6, 24, 25, 28, 30
  abbrev pub found_on_groups : List Finding
  found_on_groups = group_findings fs.chunks (extents fs) groups fs.sup.bytes_used

  -- 26, 27, 29
  abbrev pub found_on_devices : List Finding
  found_on_devices = device_findings fs.chunks device_extents devices

  -- 13, 14
  abbrev pub found_on_sums : List Finding
  found_on_sums = sum_findings (sum_runs fs) (extents fs)

  -- 12, 15 to 23
  abbrev pub found_on_files : List Finding
  found_on_files = flat_map (file_tree_findings fs.blocks fs.chunks (sum_runs fs)) (file_trees fs) ++ subvolume_findings subvolumes

  -- what is wrong with extents: 5 to 11, 13, 14, 24, 25, 28, 30
  abbrev pub found_on_extents : List Finding
  found_on_extents = reference_findings fs ++ found_on_groups ++ found_on_sums
