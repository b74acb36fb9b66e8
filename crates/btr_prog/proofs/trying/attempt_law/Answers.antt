use Rattle.btr_prog.proofs.Tries.{tried-attempt, follows_attempt}
use Rattle.btr_prog.proofs.trying.attempt_law.Goals as goal

pub returns : goal.returns
returns g c = record { run = tried-attempt; answer = λ part. follows_attempt g.U.Cause.is part }
