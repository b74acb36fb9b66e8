use Rattle.btr_restore.proofs.Settling.{opened_then, open_refused, open_halted}
use Rattle.btr_restore.proofs.laws.opened_then.Goals as goal

pub returns : goal.returns
returns c = record { listed = opened_then; refused = open_refused; halted = open_halted }
