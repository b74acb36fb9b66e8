use Rattle.std.proofs.Common.{◌≡◌, None, take, drop, map}
use Rattle.btr_read.specs.Store.{none_kept}
use Rattle.btr_volume.specs.Start.{twin_from, devices_from}
use Rattle.btr_volume.proofs.devices.add_devices.Given as goal

abbrev pub invariant-loop-slot : goal.invariant-loop-slot
invariant-loop-slot g l = record {
  own : twin_from l.slot (take l.slot l.supers) (drop l.slot l.supers) ≡ None;
  layout : l.store.layout ≡ record (l.fn.store.layout) {
    devices = devices_from l.newest 0 (take l.slot l.supers)
        (map (λ slot. slot.len) (g.R.Rack.seen l.rack).slots);
  };
  loans : l.store.loans ≡ l.fn.store.loans;
  kept : l.fn.store.kept ≡ none_kept → l.store.kept ≡ none_kept;
}
