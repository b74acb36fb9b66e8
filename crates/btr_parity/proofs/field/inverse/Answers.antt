use Rattle.std.proofs.Common.{arith}
use Rattle.btr_parity.proofs.Entries.{product-INVERSES}
use Rattle.btr_parity.proofs.field.inverse.Goals as goal

pub returns : goal.returns
returns c = product-INVERSES c.args.b (omega arith) (omega arith)
