use Rattle.btr_run.proofs.Honests.{salvage_is_committed}
use Rattle.btr_run.proofs.laws.salvage_is_committed.Goals as goal

pub returns : goal.returns
returns c = salvage_is_committed c.honest_salvage.ensures
