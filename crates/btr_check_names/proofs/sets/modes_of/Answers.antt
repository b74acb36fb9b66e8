use Rattle.std.proofs.Common.{ap, ◌∙◌, get_or, ◌==◌, ◌&&◌}
use Rattle.btr_check_names.specs.declared.inode_at.InodeAt.{InodeAt}
use Rattle.btr_check_names.specs.declared.mode_at.ModeAt.{ModeAt}
use Rattle.btr_check_names.specs.Sets.{mode_cmp, is_mode}
use Rattle.btr_check_names.proofs.Looking.{set_next, mode-alike}
use Rattle.btr_check_names.proofs.sets.modes_of.Goals as goal

no_inode : InodeAt
no_inode = record { number = 0; inode = record { size = 0; nlink = 0; mode = 0; flags = 0 } }

pub loop-at-preserved : goal.loop-at-preserved
unfolding no_inode
loop-at-preserved c =
    let at : InodeAt = get_or c.args.inodes.now c.loop-at.at-index no_inode in
    let put : ModeAt = record { number = at.number; format = c.format_of.result } in
    set_next mode_cmp is_mode c.loop-at.set c.insert.new.self put c.args.inodes.now c.loop-at.at-index no_inode c.loop-at-test.true c.in-Ok.ensures.updates.0
    (λ q. mode-alike put q ∙ ap (λ n. (q.number == at.number) && (q.format == n)) c.format_of.ensures) c.loop-at.invariant
