use Rattle.btr_check.proofs.Adds.{added_more}
use Rattle.btr_check.proofs.adding.put_all.Goals as goal

pub loop-finding-preserved : goal.loop-finding-preserved
loop-finding-preserved c = added_more c.args.list.now c.loop-finding.finding-index _ c.args.found.now c.loop-finding.found c.put_unless.new.found
    c.loop-finding-test.true c.loop-finding.invariant c.in_ok-put_unless.ensures
