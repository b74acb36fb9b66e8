use Rattle.btr_prog.proofs.TwoParts.{staged_lost}
use Rattle.btr_prog.proofs.staging.staged_lost.Goals as goal

pub returns : goal.returns
returns g c = λ refused B C D E p k. staged_lost refused B C D E p k
