use Rattle.std.proofs.Common.{false, ◌≡◌, [], ◌∷◌, ◌++◌, refl, subst, sym, ap, ◌∙◌, arith}
use Rattle.btr_rack.specs.Memory.{seen_of, slots_of}
use Rattle.btr_read.specs.declared.device.Member.{Member}
use Rattle.btr_read.specs.Layout.{AreOpen, HaveOwnSlots}
use Rattle.btr_read.specs.Store.{free_count}
use Rattle.btr_read.proofs.Devices.{lacks_slot, open_none, own_none, open_more, own_more}
use Rattle.btr_read.proofs.Serving.{serves_anew}
use Rattle.btr_scrub_copies.proofs.tests.store_over.Goals as goal

pub returns-clause-serves : goal.returns-clause-serves
returns-clause-serves c =
    let slots = slots_of c.args.rack.now in
    let first : Member = record { devid = 1; device = record { slot = 0; len = c.len.result; older = c.args.older } } in
    let second : Member = record { devid = 2; device = record { slot = 1; len = c.len-2.result; older = false } } in
    let added = c.in_ok-add_device-2.ensures.added in
    let devices : c.add_device-2.new.self.layout.devices ≡ first ∷ second ∷ [] =
    ap (λ s. s.layout.devices) added ∙ ap (λ s. s.layout.devices ++ second ∷ []) c.in_ok-add_device.ensures.added
    ∙ ap (λ s. (s.layout.devices ++ first ∷ []) ++ second ∷ []) c.in_ok-store.ensures in
    let one = open_more slots [] first (open_none slots) (record { slot = omega (arith, c.requires); len = sym c.len.ensures.len }) in
    let are = open_more slots (first ∷ []) second one (record { slot = omega (arith, c.requires); len = sym c.len-2.ensures.len }) in
    let own = own_more (first ∷ []) second (own_more [] first own_none (λ d a e. cc)) (lacks_slot 1 (first ∷ []) refl) in
    serves_anew (seen_of c.args.rack.now) c.add_device-2.new.self (subst (AreOpen slots) (sym devices) are) (subst HaveOwnSlots (sym devices) own)
    (ap (λ s. s.kept) added)

pub returns-clause-free : goal.returns-clause-free
returns-clause-free c = ap free_count c.in_ok-add_device-2.ensures.added ∙ ap free_count c.in_ok-add_device.ensures.added ∙ ap free_count c.in_ok-store.ensures
