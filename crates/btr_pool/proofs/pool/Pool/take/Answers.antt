use Rattle.btr_pool.proofs.Region.{free_when_found}
use Rattle.btr_pool.proofs.pool.Pool.take.Goals as goal

pub returns-clause-was_free : goal.returns-clause-was_free
returns-clause-was_free c = free_when_found c.self.inside c.args.self.now c.in-Some.slot c.self.view_is c.in-Some.ensures.was_free
