use Rattle.std.proofs.Common.{None, sym, ap, ◌∙◌}
use Rattle.btr_walk.specs.Folds.{folded_over}
use Rattle.btr_walk.specs.Range.{range}
use Rattle.btr_volume.specs.Tree.{key}
use Rattle.btr_files.specs.Names.{inode_in}
use Rattle.btr_files.specs.Steps.{inode_step}
use Rattle.btr_files.proofs.Folding.{looked}
use Rattle.btr_files.proofs.Lookups.{inode_as}
use Rattle.btr_files.proofs.finding.inode.Goals as goal

pub returns-clause-content : goal.returns-clause-content
returns-clause-content g c =
    let root = c.args.tree.now.place in
    let at = c.key_of-key.result in
    looked _ _ _ (folded_over inode_step (λ s. None) (record {}) (range at at root)) (inode_in c.args.tree.now c.args.ino) c.lookup.result
    (ap (λ k. folded_over inode_step (λ s. None) (record {}) (range k k root)) c.key_of-key.ensures
    ∙ sym (inode_as (range (key c.args.ino 1 0) (key c.args.ino 1 0) root)))
    c.lookup.ensures.content
