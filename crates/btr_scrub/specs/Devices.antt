-- What opening keeps of the devices that are given.
use Rattle.std.specs.Prelude.{◌≡◌, ℕ, List, length, Some}
use Rattle.btr_rack.specs.Rack.{image_of}
use Rattle.btr_read.specs.Layout.{Layout, device_in}
use Rattle.btr_read.specs.declared.device.Device.{Device}

-- the images have the lengths that the devices state
abbrev pub HaveLengths : List (List ℕ) → Layout → Type 0
HaveLengths images layout = (devid : ℕ) (device : Device) → device_in layout.devices devid ≡ Some device → length (image_of images device.slot) ≡ device.len
