use Rattle.btr_walk.proofs.Lending.{served_back}
use Rattle.btr_walk_tests.proofs.volume.floor.Goals as goal

pub returns-in-Some-clause-serves : goal.returns-in-Some-clause-serves
returns-in-Some-clause-serves c = served_back _ c.number_le-found.new.store c.give.new.self c.in-Some.loan c.number_le-found.ensures.serves c.give.ensures
