use Rattle.btr_restore.proofs.Tellings.{each_told}
use Rattle.btr_restore.proofs.laws.each_told.Goals as goal

pub returns : goal.returns
returns c = each_told
