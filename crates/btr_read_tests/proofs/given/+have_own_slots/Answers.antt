use Rattle.std.proofs.Common.{subst, sym, ◌∙◌}
use Rattle.btr_read.specs.Layout.{HaveOwnSlots}
use Rattle.btr_read.proofs.Devices.{own_first, lacks_slot}
use Rattle.btr_read_tests.proofs.given.+have_own_slots.Goals as goal

pub returns-then-not-has_slot : goal.returns-then-not-has_slot
returns-then-not-has_slot n c = λ yes.
    let first = c.in-Some.first.now in
    let others = c.in-Some.others.now in
    subst HaveOwnSlots (sym c.in-Some.ensures.cases.0) (own_first first others (c.have_own_slots.ensures yes)
    (lacks_slot first.device.slot others (sym c.has_slot.ensures ∙ c.if-not-has_slot.true)))
