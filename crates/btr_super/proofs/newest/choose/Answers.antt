use Rattle.btr_super.proofs.Maximum.{newest_index_is}
use Rattle.btr_super.proofs.newest.choose.Goals as goal

pub returns-clause-newest : goal.returns-clause-newest
returns-clause-newest c = newest_index_is c.args.supers.now c.loop-i.i c.loop-i.best c.loop-i.invariant.0 c.loop-i-test.false c.loop-i.invariant.2
