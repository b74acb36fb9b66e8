use Rattle.std.proofs.Common.{map}
use Rattle.std.specs.String.{string_bytes}
use Rattle.btr_run.proofs.Usage.{AreTried}
use Rattle.btr_run.proofs.plan.Plan.parse.Given as goal

-- the forms before this one were tried
abbrev pub invariant-loop-sentence : goal.invariant-loop-sentence
invariant-loop-sentence l = AreTried (map string_bytes l.words) l.longest l.sentence-index
