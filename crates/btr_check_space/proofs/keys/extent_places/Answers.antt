use Rattle.btr_check_space.specs.Orders.{place_cmp, extent_place}
use Rattle.btr_check_space.specs.declared.device_extent.DeviceExtent.{DeviceExtent}
use Rattle.btr_check_space.proofs.Put.{keys_more}
use Rattle.btr_check_space.proofs.keys.extent_places.Goals as goal

abbrev nothing : DeviceExtent
nothing = record { devid = 0; offset = 0; chunk = 0; len = 0 }

pub loop-range-preserved : goal.loop-range-preserved
loop-range-preserved c = keys_more place_cmp extent_place c.args.ranges.now c.loop-range.range-index nothing c.loop-range.set c.put_key.new.set
    c.loop-range-test.true c.in_ok-put_key.ensures c.loop-range.invariant
