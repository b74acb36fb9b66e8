use Rattle.std.proofs.Common.{sym, ◌∙◌, arith}
use Rattle.btr_scrub.proofs.Reading.{IsInRun, next_plain, plain_fits}
use Rattle.btr_scrub.proofs.reader.Reader.plain_at.Goals.{In_ok-run}
use Rattle.btr_scrub.proofs.reader.Reader.plain_at.Goals as goal

-- the reader stands in the run that it read
in_run : (c : In_ok-run) → IsInRun c.self.inside.listed.now c.self.inside.run c.self.inside.past c.self.inside.sum c.self.inside.mark c.in_ok-run.run'
in_run c = record { stands = c.self.invariant; there = sym c.run_at.ensures.run ∙ c.in_ok-run.was }

pub overflow_add-result : goal.overflow_add-result
overflow_add-result c = omega (arith, c.from.ensures, plain_fits (in_run (goal.at.overflow_add-result c).In_ok-run) c.in-Unsummed.is)

pub returns-in-Unsummed : goal.returns-in-Unsummed
returns-in-Unsummed c =
    next_plain (in_run (goal.at.returns-in-Unsummed c).In_ok-run) c.in-Unsummed.is c.args.self.now c.self.view_is c.from.result c.from.ensures
