use Rattle.btr_read.proofs.ReadsOn.{open_still}
use Rattle.btr_read.proofs.Serving.{still_more}
use Rattle.btr_read.proofs.Trials.{began_on}
use Rattle.btr_read.proofs.trying.try_behind.Goals as goal

pub try_around-requires-clause-open : goal.try_around-requires-clause-open
try_around-requires-clause-open g c = open_still c.args.search.now.devices c.try_by_parities.ensures.reads c.requires.open

pub returns-in-Stopped-clause-kept : goal.returns-in-Stopped-clause-kept
returns-in-Stopped-clause-kept g c =
    still_more c.args.kept.now.wants c.try_by_parities.new.kept.wants c.try_around.new.kept.wants c.args.pool.now c.try_by_parities.new.pool
    c.try_around.new.pool c.in-Stopped.ensures.kept c.try_around.ensures.kept

pub returns-in-Stopped-clause-outcome : goal.returns-in-Stopped-clause-outcome
returns-in-Stopped-clause-outcome g c = λ before is h. c.try_around.ensures.outcome before (began_on c.in-Stopped.ensures.reads is)
    (c.in-Stopped.ensures.trial before is h)
