use Rattle.std.proofs.Common.{[], sym, subst}
use Rattle.btr_base.specs.declared.key.Key.{Key}
use Rattle.btr_volume.specs.Table.{first_key}
use Rattle.btr_walk.specs.Going.{IsOn}
use Rattle.btr_resolve.proofs.owners.Owners.new.Goals as goal

pub returns-clause-on : goal.returns-clause-on
returns-clause-on c B =
    subst (λ (k : Key). IsOn k c.new.result.hi B [] c.new.result.place) (sym c.new.ensures.lo)
    (subst (λ (k : Key). IsOn first_key k B [] c.new.result.place) (sym c.new.ensures.hi) (c.new.ensures.on B))
