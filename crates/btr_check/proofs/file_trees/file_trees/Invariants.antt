use Rattle.std.proofs.Common.{◌≡◌, take, filter}
use Rattle.btr_check.specs.Filesystem.{is_file_tree}
use Rattle.btr_volume.specs.declared.root.TreeRoot.{TreeRoot}
use Rattle.btr_check.proofs.file_trees.file_trees.Given as goal

-- the trees of files so far
abbrev pub invariant-loop-tree : goal.invariant-loop-tree
invariant-loop-tree l = l.files.items ≡ filter (λ (tree : TreeRoot). is_file_tree tree.id) (take l.tree-index l.trees)
