use Rattle.btr_make.specs.Shelf.{IsShelved}
use Rattle.btr_run_tests.proofs.self_testing.volume_of.Given as goal

abbrev pub invariant-loop-name : goal.invariant-loop-name
invariant-loop-name l = IsShelved l.rack
