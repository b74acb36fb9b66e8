use Rattle.btr_walk.proofs.Lending.{served_back}
use Rattle.btr_bench.proofs.walking.finds.Goals as goal

pub returns-in-Some-clause-serves : goal.returns-in-Some-clause-serves
returns-in-Some-clause-serves c = served_back _ c.is_found-found.new.store c.give.new.self c.in-Some.loan c.is_found-found.ensures.serves c.give.ensures
