use Rattle.btr_prog.proofs.TwoParts.{staged_cut}
use Rattle.btr_prog.proofs.staging.staged_cut.Goals as goal

pub returns : goal.returns
returns g c = λ refused B C D E p k. staged_cut refused B C D E p k
