use Rattle.btr_make.proofs.Ready.{ready_stays}
use Rattle.btr_run_tests.proofs.self_testing.volume_of.Goals as goal

pub loop-name-preserved : goal.loop-name-preserved
loop-name-preserved c = ready_stays _ _ c.loop-name.invariant c.in_ok-spoil.ensures.2.standing
