use Rattle.std.proofs.Common.{◌∙◌, ap, arith}
use Rattle.btr_read.specs.Store.{Blocks}
use Rattle.btr_volume.proofs.Members.{blank, none_is, own_next, device_new, layout_pushed}
use Rattle.btr_volume.proofs.devices.add_devices.Goals as goal

pub add_device-requires : goal.add_device-requires
add_device-requires g c =
    none_is _ (device_new c.args.supers.now c.loop-slot.slot blank (omega arith) c.args.newest (g.R.Rack.seen c.args.rack.now).slots
    (omega (arith, c.requires.count)) c.args.store.now.layout c.loop-slot.store.layout c.loop-slot.invariant.layout
    (own_next c.args.supers.now c.loop-slot.slot blank (omega arith) c.loop-slot.invariant.own).0)

pub loop-slot-preserved : goal.loop-slot-preserved
loop-slot-preserved g c = record {
  own = (own_next c.args.supers.now c.loop-slot.slot blank (omega arith) c.loop-slot.invariant.own).1;
  layout = ap (λ (s : Blocks). s.layout) c.in_ok-add_device.ensures.added
      ∙ layout_pushed c.args.newest c.args.supers.now c.loop-slot.slot (omega arith) (g.R.Rack.seen c.args.rack.now).slots
      (omega (arith, c.requires.count)) c.args.store.now.layout c.loop-slot.store.layout c.len.result c.len.ensures.len c.loop-slot.invariant.layout;
  loans = ap (λ (s : Blocks). s.loans) c.in_ok-add_device.ensures.added ∙ c.loop-slot.invariant.loans;
  kept = λ e. ap (λ (s : Blocks). s.kept) c.in_ok-add_device.ensures.added;
}
