use Rattle.std.proofs.Common.{subst, sym}
use Rattle.btr_pool.specs.Slots.{IsFree}
use Rattle.btr_pool.proofs.Region.{free_when_found}
use Rattle.btr_pool.proofs.pool.Pool.is_free.Goals as goal

pub returns : goal.returns
returns c = (
  λ yes. free_when_found c.self.inside c.args.self.now c.args.slot c.self.view_is (c.is_free.ensures.0 yes),
  λ free. let inside : IsFree _ c.args.slot = subst (λ s. IsFree s c.args.slot) (sym c.self.view_is) free in c.is_free.ensures.1 inside.free,
)
