use Rattle.std.proofs.Common.{Option, sym, subst}
use Rattle.std.specs.Borrow.{Bor}
use Rattle.btr_walk.specs.Reading.{Tells}
use Rattle.btr_volume.specs.declared.root.TreeRoot.{TreeRoot}
use Rattle.btr_files.specs.Aheads.{IsSummed}
use Rattle.btr_files.specs.Sums.{tree_behind}
use Rattle.btr_files.proofs.sums.sum_ahead.Goals as goal

pub returns-in-Some-clause-ahead : goal.returns-in-Some-clause-ahead
returns-in-Some-clause-ahead g c =
    subst (λ (s : Option (Bor TreeRoot)). Tells c.args.vol.now.store.layout (g.R.Rack.seen c.args.rack.now) (g.R.Rack.seen c.find_ahead.new.rack)
    (λ B. IsSummed B (tree_behind s) c.args.ahead.now → IsSummed B (tree_behind s) c.find_ahead.new.ahead))
    (sym c.in-Some.is) c.find_ahead.ensures.ahead
