use Rattle.std.proofs.Common.{refl}
use Rattle.btr_rack.proofs.Slots.{slots_set, same_seen}
use Rattle.btr_rack.proofs.file.FileRackRack.read_at.Goals as goal

pub returns-then-fill-clause-same : goal.returns-then-fill-clause-same
returns-then-fill-clause-same g c = same_seen _ _ _ _ _ _ _ (slots_set _ _ _ _ c.index_mut-file.ensures.value c.fill.ensures.slot) refl refl

pub returns-clause-same : goal.returns-clause-same
returns-clause-same g c = same_seen _ _ _ _ _ _ _ (slots_set _ _ _ _ c.index_mut-file.ensures.value c.fill.ensures.slot) refl refl
