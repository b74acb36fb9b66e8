use Rattle.btr_walk.proofs.Lending.{served_back}
use Rattle.btr_walk_tests.proofs.rests.again.Goals as goal

pub returns-clause-serves : goal.returns-clause-serves
returns-clause-serves c = served_back _ c.met_again.new.store c.give.new.self c.in_ok-loan.field-0.loan c.met_again.ensures.serves c.give.ensures
