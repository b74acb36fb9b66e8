use Rattle.btr_walk.proofs.Lending.{served_back}
use Rattle.btr_walk.proofs.leaf_at.give_leaf.Goals as goal

pub returns-in-Some-clause-serves : goal.returns-in-Some-clause-serves
returns-in-Some-clause-serves c = λ rack serves. served_back rack c.args.store.now c.give.new.self c.in-Some.hand.loan serves c.give.ensures
