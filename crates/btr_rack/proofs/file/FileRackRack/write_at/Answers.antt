use Rattle.std.proofs.Common.{refl}
use Rattle.btr_rack.proofs.Slots.{slots_set, same_seen}
use Rattle.btr_rack.proofs.file.FileRackRack.write_at.Goals as goal

pub returns-then-store-clause-rest : goal.returns-then-store-clause-rest
returns-then-store-clause-rest g c = same_seen _ _ _ _ _ _ _ (slots_set _ _ _ _ c.index_mut-file.ensures.value c.store.ensures.slot) c.with-self.ensures refl

pub returns-clause-rest : goal.returns-clause-rest
returns-clause-rest g c = same_seen _ _ _ _ _ _ _ (slots_set _ _ _ _ c.index_mut-file.ensures.value c.store.ensures.slot) c.with-self.ensures refl
