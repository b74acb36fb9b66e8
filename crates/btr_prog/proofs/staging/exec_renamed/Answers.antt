use Rattle.btr_prog.proofs.Renaming.{exec-renamed, follows_renamed, goes_renamed}
use Rattle.btr_prog.proofs.staging.exec_renamed.Goals as goal

pub returns : goal.returns
returns g c = record { run = λ f. exec-renamed f; answer = λ f. follows_renamed f g.U.Cause.is; choice = λ f. goes_renamed f }
