use Rattle.btr_read.proofs.Values.{value_by_ranges}
use Rattle.btr_read.proofs.laws.value_by_ranges.Goals as goal

pub returns : goal.returns
returns c = value_by_ranges
