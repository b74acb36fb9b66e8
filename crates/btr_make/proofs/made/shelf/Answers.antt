use Rattle.btr_make.proofs.Ready.{ready_zeros}
use Rattle.btr_make.proofs.made.shelf.Goals as goal

pub returns : goal.returns
returns c = ready_zeros _ _ _ _ _ c.new-rack.ensures c.in_ok-add.ensures.added c.in_ok-add-2.ensures.added c.in_ok-add-3.ensures.added
