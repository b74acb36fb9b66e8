use Rattle.btr_check_space.specs.Orders.{extent_cmp}
use Rattle.btr_check_space.specs.declared.device_extent.DeviceExtent.{DeviceExtent}
use Rattle.btr_check_space.proofs.Put.{keys_more}
use Rattle.btr_check_space.proofs.keys.extent_set.Goals as goal

abbrev nothing : DeviceExtent
nothing = record { devid = 0; offset = 0; chunk = 0; len = 0 }

pub loop-extent-preserved : goal.loop-extent-preserved
loop-extent-preserved c = keys_more extent_cmp (λ (extent : DeviceExtent). extent) c.args.extents.now c.loop-extent.extent-index nothing
    c.loop-extent.set c.put_key.new.set c.loop-extent-test.true c.in_ok-put_key.ensures c.loop-extent.invariant
