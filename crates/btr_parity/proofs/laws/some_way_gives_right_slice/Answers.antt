use Rattle.btr_parity.proofs.Choosing.{some_way_gives_right_slice}
use Rattle.btr_parity.proofs.laws.some_way_gives_right_slice.Goals as goal

pub returns : goal.returns
returns c = some_way_gives_right_slice
