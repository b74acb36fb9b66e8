use Rattle.btr_walk.proofs.Resting.{rests_is}
use Rattle.btr_walk.proofs.scan.Scan.rest.Goals as goal

pub returns-clause-rests : goal.returns-clause-rests
returns-clause-rests c = rests_is c.args.store.now c.pause.new.store c.args.self c.pause.new.self c.pause.ensures.paused c.pause.ensures.ready
