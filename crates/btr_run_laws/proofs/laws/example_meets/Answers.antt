use Rattle.btr_run_laws.proofs.Repairable.{meets_scrubs}
use Rattle.btr_run_laws.proofs.Restorable.{meets_restores}
use Rattle.btr_run_laws.proofs.laws.example_meets.Goals as goal

pub returns-clause-restores : goal.returns-clause-restores
returns-clause-restores c = meets_restores

pub returns-clause-scrubs : goal.returns-clause-scrubs
returns-clause-scrubs c = meets_scrubs
