use Rattle.std.proofs.Common.{refl}
use Rattle.btr_pool.proofs.Region.{free_when_found}
use Rattle.btr_pool.proofs.pool.Pool.take_slot.Goals as goal

pub returns-clause-was_free : goal.returns-clause-was_free
returns-clause-was_free c = (
  λ _. free_when_found c.self.inside c.args.self.now c.args.slot c.self.view_is
      (c.if-not-lend_slot.ensures.was_free.0 refl),
  λ _. refl,
)
