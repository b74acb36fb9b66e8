use Rattle.btr_run_laws.proofs.Completing.{self_test_completes}
use Rattle.btr_run_laws.proofs.laws.self_test_completes.Goals as goal

pub returns : goal.returns
returns c = self_test_completes
