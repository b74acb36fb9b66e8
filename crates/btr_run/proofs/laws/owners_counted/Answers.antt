use Rattle.btr_run.proofs.Linked.{owners_counted}
use Rattle.btr_run.proofs.laws.owners_counted.Goals as goal

pub returns : goal.returns
returns c = owners_counted
