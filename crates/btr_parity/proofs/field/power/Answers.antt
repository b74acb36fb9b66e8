use Rattle.std.proofs.Common.{arith}
use Rattle.btr_parity.proofs.Entries.{get_or-POWERS}
use Rattle.btr_parity.proofs.field.power.Goals as goal

pub returns : goal.returns
returns c = get_or-POWERS c.args.index (omega arith)
