-- How the blocks of a filesystem are found and tested.
use Rattle.std.specs.Prelude.{◌≡◌, ℕ, ◌<◌, Bool, List, [], ◌∷◌, length, Option, Some, None, if◌then◌else◌, ◌==◌}
use Rattle.btr_chunk.specs.declared.chunk.Chunk.{Chunk}
use Rattle.btr_rack.specs.Rack.{Slot, len_of}
use Rattle.btr_read.specs.declared.device.Device.{Device}
use Rattle.btr_read.specs.declared.device.Member.{Member}
use Rattle.btr_read.specs.declared.setting.Setting.{Setting}

-- the chunks in ascending start, the devices that are given, and what all blocks have in common
pub record Layout : Type 0 where
  pub chunks : List Chunk
  pub devices : List Member
  pub setting : Setting

-- the device of an id
abbrev pub device_in : List Member → ℕ → Option Device
device_in [] devid = None
device_in (member ∷ members) devid = if member.devid == devid then Some member.device else device_in members devid

-- a device's image is older than the chosen superblock
abbrev pub is_older : Member → Bool
is_older member = member.device.older

-- an image is open in the device's slot, and has the device's length
pub record IsOpen (slots : List Slot) (device : Device) : Type 0 where
  pub slot : device.slot < length slots
  pub len : len_of slots device.slot ≡ device.len

-- each device is open
abbrev pub AreOpen : List Slot → List Member → Type 0
AreOpen slots members = (devid : ℕ) (device : Device) → device_in members devid ≡ Some device → IsOpen slots device

-- no slot is that of two devices
abbrev pub HaveOwnSlots : List Member → Type 0
HaveOwnSlots members = (d e : ℕ) (a b : Device) → device_in members d ≡ Some a → device_in members e ≡ Some b → a.slot ≡ b.slot → d ≡ e

-- these chunks, devices and what all blocks have in common
abbrev pub layout_of : List Chunk → List Member → Setting → Layout
layout_of chunks devices setting = record { chunks = chunks; devices = devices; setting = setting }
