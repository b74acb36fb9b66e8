use Rattle.std.proofs.Common.{◌∙◌, Ok, sym, ap, subst, map}
use Rattle.btr_read.specs.Layout.{Layout}
use Rattle.btr_read.proofs.Serving.{serves_anew}
use Rattle.btr_read.specs.Layout.{AreOpen, HaveOwnSlots}
use Rattle.btr_volume.proofs.Members.{are_open, own_slots}
use Rattle.btr_volume.proofs.Opened.{begun, array_made}
use Rattle.btr_volume.proofs.opening.begin.Goals as goal

pub returns-in-Ok-clause-content : goal.returns-in-Ok-clause-content
returns-in-Ok-clause-content g c = begun c.args.supers.now c.args.chosen.now c.requires.newest
    (map (λ slot. slot.len) (g.R.Rack.seen c.args.rack.now).slots) c.in_ok-store.store c.add_devices.new.store c.in_ok-test_supers.ensures.refusal
    c.in_ok-store.ensures.store c.in-Ok.ensures.devices

pub returns-in-Ok-clause-array : goal.returns-in-Ok-clause-array
returns-in-Ok-clause-array g c = array_made c.args.chosen.now c.in_ok-store.store c.in_ok-store.ensures.store
    ∙ ap (λ (l : Layout). Ok l.chunks) (sym c.in-Ok.ensures.devices)

pub returns-in-Ok-clause-fresh : goal.returns-in-Ok-clause-fresh
returns-in-Ok-clause-fresh g c =
    let seen = g.R.Rack.seen c.args.rack.now in
    let layout = sym c.in-Ok.ensures.devices in
    record {
      serves = serves_anew seen c.add_devices.new.store (subst (λ (l : Layout). AreOpen seen.slots l.devices) layout
          (are_open c.args.chosen.now.generation c.args.supers.now seen.slots))
          (subst (λ (l : Layout). HaveOwnSlots l.devices) layout (own_slots c.args.chosen.now.generation c.args.supers.now seen.slots))
          (c.in-Ok.ensures.kept c.in_ok-store.ensures.store.1);
      loans = c.in-Ok.ensures.loans ∙ c.in_ok-store.ensures.store.0;
      nodesize = sym c.in_ok-store.ensures.nodesize ∙ ap (λ (l : Layout). l.setting.nodesize) layout;
    }
