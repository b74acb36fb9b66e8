use Rattle.std.proofs.Common.{◌++◌, ap, ◌∙◌, refl}
use Rattle.btr_rack.specs.declared.place.Place.{Place}
use Rattle.btr_rack.specs.Rack.{in_others, in_slot}
use Rattle.btr_rack.proofs.Slots.{slots_set, same_seen}
use Rattle.btr_rack.proofs.file.FileRackRack.sync.Goals as goal

pub returns-then-sync-clause-synced : goal.returns-then-sync-clause-synced
returns-then-sync-clause-synced g c =
    same_seen _ _ _ _ _ _ _ (slots_set _ _ _ _ c.index_mut.ensures.value c.sync.ensures.slot)
    (c.with-self.ensures ∙ ap (λ (p : Place). in_others p.slot c.args.self.now.unsynced) c.of_slot-place.ensures) refl

pub returns-clause-synced : goal.returns-clause-synced
returns-clause-synced g c =
    same_seen _ _ _ _ _ _ _ (slots_set _ _ _ _ c.index_mut.ensures.value c.sync.ensures.slot)
    (c.with-self-3.ensures ∙ ap (λ (p : Place). in_others p.slot c.args.self.now.unsynced) c.of_slot-place.ensures)
    (c.with-self-2.ensures ∙ ap (λ (p : Place). c.args.self.now.never_synced ++ in_slot p.slot c.args.self.now.unsynced)
    c.of_slot-place.ensures)
