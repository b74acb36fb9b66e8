use Rattle.std.proofs.Common.{◌≡◌, ◌+◌}
use Rattle.btr_rack.specs.Sink.{BetweenFiles}
use Rattle.btr_rack_tests.proofs.places.go_down.Given as goal

abbrev pub invariant-loop-level : goal.invariant-loop-level
invariant-loop-level g l = record {
  stage : (g.T.TreeSink.sink l.tree).stage ≡ BetweenFiles;
  depth : (g.T.TreeSink.sink l.tree).depth ≡ (g.T.TreeSink.sink l.initial.tree).depth + l._level;
}
