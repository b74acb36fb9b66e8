use Rattle.btr_parity.proofs.Choosing.{some_way_reads_none_wrong}
use Rattle.btr_parity.proofs.laws.some_way_reads_none_wrong.Goals as goal

pub returns : goal.returns
returns c = some_way_reads_none_wrong
