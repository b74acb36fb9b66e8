use Rattle.btr_dump.proofs.Growing.{grows_twice}
use Rattle.btr_dump.proofs.tree.put_tree.Goals as goal

pub returns-clause-account : goal.returns-clause-account
returns-clause-account g c = c.finish.ensures.account (g.O.Out.account c.args.out.now) c.show_tree-shown.ensures.account

pub returns-clause-cause : goal.returns-clause-cause
returns-clause-cause g c = c.finish.ensures.cause c.args.store.now.layout (g.R.Rack.seen c.args.rack.now) (g.R.Rack.seen c.show_tree-shown.new.rack)
    c.show_tree-shown.ensures.cause

pub returns-clause-grows : goal.returns-clause-grows
returns-clause-grows g c = grows_twice c.show_tree-shown.ensures.grows c.finish.ensures.grows
