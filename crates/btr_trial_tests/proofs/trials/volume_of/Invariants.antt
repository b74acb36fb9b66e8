use Rattle.btr_make.specs.Shelf.{IsShelved}
use Rattle.btr_trial_tests.proofs.trials.volume_of.Given as goal

abbrev pub invariant-loop-name : goal.invariant-loop-name
invariant-loop-name l = IsShelved l.rack
