use Rattle.std.proofs.Common.{◌≡◌, ◌||◌, ◌∷◌, [], get_or, ap, ◌∙◌}
use Rattle.btr_findings.specs.declared.kind.Kind.TheVariants as kind
use Rattle.btr_findings.specs.Findings.{found, shown_sum, unless}
use Rattle.btr_check_names.specs.declared.inode_at.InodeAt.{InodeAt}
use Rattle.btr_check_names.specs.Names.{dir_size, has_size, is_removed, names_size}
use Rattle.btr_findings.proofs.Rules.{rule_next}
use Rattle.btr_check_names.proofs.put_inodes.put_dir_sizes.Goals as goal

no_inode : InodeAt
no_inode = record { number = 0; inode = record { size = 0; nlink = 0; mode = 0; flags = 0 } }

pub loop-at-preserved : goal.loop-at-preserved
unfolding no_inode
loop-at-preserved c =
    let tree = c.args.tree in
    let orphans = c.args.orphans.now in
    let indexed = c.args.indexed.now in
    let at : InodeAt = get_or c.args.inodes.now c.loop-at.at-index no_inode in
    let size : c.sum_at-size.result ≡ names_size indexed at.number = c.sum_at-size.ensures ∙ c.in_ok-sizes.ensures at.number in
    let kept : c.keeps_size-kept.result ≡ (is_removed orphans at || has_size at (names_size indexed at.number)) =
    c.keeps_size-kept.ensures orphans c.in_ok-numbers.ensures ∙ ap (λ n. is_removed orphans at || has_size at n) size in
    let finding : c.of_sum-finding.result ≡ found kind.DirSize (tree ∷ at.number ∷ at.inode.size ∷ shown_sum (names_size indexed at.number) ∷ []) =
    c.of_sum-finding.ensures ∙ ap (λ n. found kind.DirSize (tree ∷ at.number ∷ at.inode.size ∷ shown_sum n ∷ [])) size in
    rule_next (dir_size tree orphans indexed) c.loop-at.found c.put_unless.new.found c.args.found.now c.args.inodes.now c.loop-at.at-index no_inode
    (unless c.keeps_size-kept.result c.of_sum-finding.result) c.loop-at-test.true
    (λ i. unless (kept i) (finding i)) c.in_ok-put_unless.ensures c.loop-at.invariant
