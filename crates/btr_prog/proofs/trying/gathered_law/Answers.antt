use Rattle.btr_prog.proofs.Tries.{tried-gathered, follows_gathered}
use Rattle.btr_prog.proofs.trying.gathered_law.Goals as goal

pub returns : goal.returns
returns g c = record { run = tried-gathered; answer = λ part own. follows_gathered g.U.Cause.is part own }
