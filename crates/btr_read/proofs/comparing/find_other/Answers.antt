use Rattle.btr_read.proofs.Several.{one_back}
use Rattle.btr_read.proofs.comparing.find_other.Goals as goal

pub returns-clause-pool : goal.returns-clause-pool
returns-clause-pool g c = one_back c.args.pool.now c.take_least-other.new.pool c.find_differing-found.new.pool c.give.new.self c.args.first.now
    c.take_least-other.result c.take_least-other.ensures.free c.take_least-other.ensures.lent c.find_differing-found.ensures.pool c.give.ensures
