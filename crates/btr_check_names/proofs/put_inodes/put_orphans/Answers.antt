use Rattle.btr_findings.specs.Findings.{unless}
use Rattle.btr_check_names.specs.declared.inode_at.InodeAt.{InodeAt}
use Rattle.btr_check_names.specs.Names.{orphan}
use Rattle.btr_findings.proofs.Rules.{rule_next}
use Rattle.btr_check_names.proofs.put_inodes.put_orphans.Goals as goal

no_inode : InodeAt
no_inode = record { number = 0; inode = record { size = 0; nlink = 0; mode = 0; flags = 0 } }

pub loop-at-preserved : goal.loop-at-preserved
unfolding no_inode
loop-at-preserved c =
    let kept = c.is_kept-kept.ensures c.args.orphans.now c.in_ok-numbers.ensures in
    let finding = c.of_orphan.ensures in
    rule_next (orphan c.args.tree c.args.orphans.now) c.loop-at.found c.put_unless.new.found c.args.found.now c.args.inodes.now c.loop-at.at-index
    no_inode (unless c.is_kept-kept.result c.of_orphan.result) c.loop-at-test.true
    (λ i. unless (kept i) (finding i)) c.in_ok-put_unless.ensures c.loop-at.invariant
