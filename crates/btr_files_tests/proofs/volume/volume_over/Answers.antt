use Rattle.std.proofs.Common.{false, ◌≡◌, [], ◌∷◌, ◌++◌, subst, sym, ap, ◌∙◌}
use Rattle.btr_rack.specs.Memory.{seen_of, slots_of}
use Rattle.btr_read.specs.declared.device.Member.{Member}
use Rattle.btr_read.specs.Layout.{AreOpen, HaveOwnSlots}
use Rattle.btr_read.specs.Store.{free_count}
use Rattle.btr_read.proofs.Devices.{open_none, own_none, open_more, own_more}
use Rattle.btr_read.proofs.Serving.{serves_anew}
use Rattle.btr_files_tests.proofs.volume.volume_over.Goals as goal

pub returns-clause-serves : goal.returns-clause-serves
returns-clause-serves c =
    let slots = slots_of c.args.rack.now in
    let member : Member = record { devid = 1; device = record { slot = 0; len = c.len.result; older = false } } in
    let added = c.in_ok-add_device.ensures.added in
    let devices : c.add_device.new.self.layout.devices ≡ member ∷ [] =
    ap (λ s. s.layout.devices) added ∙ ap (λ s. s.layout.devices ++ member ∷ []) c.in_ok-store.ensures in
    let are = open_more slots [] member (open_none slots) (record { slot = c.requires; len = sym c.len.ensures.len }) in
    let own = own_more [] member own_none (λ d a e. cc) in
    serves_anew (seen_of c.args.rack.now) c.add_device.new.self (subst (AreOpen slots) (sym devices) are) (subst HaveOwnSlots (sym devices) own)
    (ap (λ s. s.kept) added)

pub returns-clause-free : goal.returns-clause-free
returns-clause-free c = ap free_count c.in_ok-add_device.ensures.added ∙ ap free_count c.in_ok-store.ensures
