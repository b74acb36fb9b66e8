use Rattle.btr_scrub_copies.proofs.Common.{given_back, serves_given}
use Rattle.btr_scrub_copies.proofs.finding.is_sound.Goals as goal

pub returns-in-Ok-Passed-clause-serves : goal.returns-in-Ok-Passed-clause-serves
returns-in-Ok-Passed-clause-serves g c = rw c.give.ensures (serves_given _ _ _ c.try_mirror.ensures.serves)

pub returns-in-Ok-Passed-clause-same : goal.returns-in-Ok-Passed-clause-same
returns-in-Ok-Passed-clause-same g c = rw c.give.ensures (given_back _ _ _ _ (rw c.in-Ok-Passed.field-0-is at c.in-Ok-Passed.ensures.lent))
