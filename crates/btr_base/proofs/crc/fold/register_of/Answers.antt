use Rattle.btr_base.proofs.Behind.{zeros_at}
use Rattle.btr_base.proofs.crc.fold.register_of.Goals as goal

pub register_by-requires-clause-zeros : goal.register_by-requires-clause-zeros
register_by-requires-clause-zeros c = λ i lt. zeros_at 4972 c.no_bytes-dropped.result i c.no_bytes-dropped.ensures
