use Rattle.btr_resolve.proofs.Linking.{owners_linked}
use Rattle.btr_resolve.proofs.laws.owners_linked.Goals as goal

pub returns : goal.returns
returns c = owners_linked
