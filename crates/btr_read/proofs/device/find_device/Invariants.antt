use Rattle.std.proofs.Common.{◌≡◌, drop}
use Rattle.btr_read.specs.Layout.{device_in}
use Rattle.btr_read.proofs.device.find_device.Given as goal

abbrev pub invariant-loop-member : goal.invariant-loop-member
invariant-loop-member l = device_in (drop l.member-index l.members) l.devid ≡ device_in l.members l.devid
