-- What devices have in device extents, as maps and sets.
use Rattle.std.specs.Prelude.{◌≡◌, ℕ, List, filter_map, unwrap_or, Result, OnOk}
use Rattle.std.specs.BTreeMap.{BTreeMap, get}
use Rattle.std.specs.BTreeSet.{BTreeSet, contains}
use Rattle.std.specs.Ordering.{nat_cmp}
use Rattle.btr_base.specs.declared.memory.Memory.{Memory}
use Rattle.btr_findings.specs.Findings.{Adds, FoundSet}
use Rattle.btr_check_space.specs.declared.device_extent.DeviceExtent.{DeviceExtent}
use Rattle.btr_check_space.specs.declared.stated_device.StatedDevice.{StatedDevice}
use Rattle.btr_check_space.specs.Devices.{device_used, given_of, has_device, unstated_used}

-- a map has the bytes of all devices
abbrev pub given_in : BTreeMap ℕ ℕ → ℕ → ℕ
given_in given devid = unwrap_or (get nat_cmp given devid) 0

-- a map has the bytes that each device has in device extents
abbrev pub HasAllocated : List DeviceExtent → BTreeMap ℕ ℕ → Type 0
HasAllocated extents given = (devid : ℕ) → given_in given devid ≡ given_of extents devid

-- a set has the ids of devices
abbrev pub Devids : List StatedDevice → BTreeSet ℕ → Type 0
Devids devices devids = (devid : ℕ) → contains nat_cmp devids devid ≡ has_device devices devid

-- by these, findings were put on devices that state other bytes than they have
abbrev pub PutsUsed : List StatedDevice → BTreeMap ℕ ℕ → FoundSet → FoundSet → Result (Unit {0}) Memory → Type 0
PutsUsed devices given old new result = (extents : List DeviceExtent) → HasAllocated extents given
    → OnOk result (Adds (filter_map (device_used extents) devices) old new)

-- by these, findings were put on the devices of device extents that have no item
abbrev pub PutsUnstated : List DeviceExtent → BTreeSet ℕ → BTreeMap ℕ ℕ → FoundSet → FoundSet → Result (Unit {0}) Memory → Type 0
PutsUnstated extents devids given old new result =
    (devices : List StatedDevice) → Devids devices devids → HasAllocated extents given
    → OnOk result (Adds (filter_map (unstated_used devices extents) extents) old new)
