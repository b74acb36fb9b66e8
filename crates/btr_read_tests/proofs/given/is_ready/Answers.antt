use Rattle.std.proofs.Common.{◌≡◌, subst, sym, ap, ◌∙◌}
use Rattle.btr_rack.specs.Memory.{seen_of, slots_of}
use Rattle.btr_read.specs.Layout.{AreOpen, HaveOwnSlots}
use Rattle.btr_read.proofs.Serving.{serves_anew}
use Rattle.btr_read_tests.proofs.given.is_ready.Goals as goal

pub returns-clause-serves : goal.returns-clause-serves
returns-clause-serves c =
    let slots = slots_of c.args.rack.now in
    let same : c.as_slice-devices.result.now ≡ c.forget_kept.new.self.layout.devices =
    c.as_slice-devices.ensures.value ∙ sym c.args.given.now.same ∙ sym (ap (λ s. s.layout.devices) c.forget_kept.ensures) in
    λ _. serves_anew (seen_of c.args.rack.now) c.forget_kept.new.self (subst (AreOpen slots) same (c.are_open.ensures c.if-not-are_open.false))
    (subst HaveOwnSlots same (c.have_own_slots.ensures c.if-not-have_own_slots.false)) (ap (λ s. s.kept) c.forget_kept.ensures)
