use Rattle.btr_check_sums.proofs.Keeping.{keeps_runs, keeps_uses}
use Rattle.btr_check_sums.proofs.laws.keeps_law.Goals as goal

pub returns : goal.returns
returns c = record {
  runs = keeps_runs;
  uses = keeps_uses;
}
