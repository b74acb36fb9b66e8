use Rattle.std.proofs.Common.{take, Ok}
use Rattle.btr_check.specs.Families.{AreSumRanges}
use Rattle.btr_check.specs.Running.{world, Ran}
use Rattle.btr_check.specs.SoundTrees.{AreKept, TreatsAll}
use Rattle.btr_check.proofs.Runs.{nothing}
use Rattle.btr_check.proofs.file_trees.put_file_trees.Given as goal

-- the trees so far were treated
abbrev pub invariant-loop-tree : goal.invariant-loop-tree
invariant-loop-tree g l = record {
  ran : Ran {A = Unit {0}} nothing (λ fs. AreSumRanges fs l.sums → AreKept fs l.fn.kept.sound.items → TreatsAll fs
      (take l.tree-index l.files) l.fn.found l.found l.fn.kept.subvolumes l.kept.subvolumes l.kept.sound.items)
      (world (g.R.Rack.seen l.fn.rack) l.fn.vol) (world (g.R.Rack.seen l.rack) l.vol) (Ok tt);
}
