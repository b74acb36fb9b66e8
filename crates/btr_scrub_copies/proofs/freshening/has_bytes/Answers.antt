use Rattle.btr_scrub_copies.proofs.Common.{given_back, serves_given}
use Rattle.btr_scrub_copies.proofs.freshening.has_bytes.Goals as goal

pub returns-in-Some-clause-serves : goal.returns-in-Some-clause-serves
returns-in-Some-clause-serves g c = rw c.give.ensures (serves_given _ _ _ c.lend_copy.ensures.serves)

pub returns-in-Some-clause-same : goal.returns-in-Some-clause-same
returns-in-Some-clause-same g c = rw c.give.ensures (given_back _ _ _ _ (rw c.in-Some.is at c.in_ok-copy.ensures.lent))
