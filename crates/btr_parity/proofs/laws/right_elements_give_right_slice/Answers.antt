use Rattle.btr_parity.proofs.Choosing.{right_elements_give_right_slice}
use Rattle.btr_parity.proofs.laws.right_elements_give_right_slice.Goals as goal

pub returns : goal.returns
returns c = right_elements_give_right_slice
