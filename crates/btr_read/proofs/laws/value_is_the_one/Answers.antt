use Rattle.btr_read.proofs.Values.{value_is_the_one}
use Rattle.btr_read.proofs.laws.value_is_the_one.Goals as goal

pub returns : goal.returns
returns c = value_is_the_one
