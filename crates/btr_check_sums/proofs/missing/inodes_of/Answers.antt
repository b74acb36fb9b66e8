use Rattle.btr_check_sums.proofs.Numbers.{inodes_more}
use Rattle.btr_check_sums.proofs.missing.inodes_of.Goals as goal

pub loop-inode-preserved : goal.loop-inode-preserved
loop-inode-preserved c = inodes_more c.args.loose.now c.loop-inode.inode-index c.loop-inode.inodes c.insert.new.self c.loop-inode-test.true
    c.in-Ok.ensures.updates.0 c.loop-inode.invariant
