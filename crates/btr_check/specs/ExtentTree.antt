-- What is read of the extent tree behind a walk of all trees.
use Rattle.std.specs.Prelude.{◌≡◌, List}
use Rattle.btr_check_space.specs.declared.group.Group.{Group}
use Rattle.btr_refs.specs.Extents.{KeptExtents}
use Rattle.btr_refs.specs.Forward.{nothing_counted}
use Rattle.btr_tour.specs.declared.both.Both.{Both}
use Rattle.btr_check.specs.Counting.{IsFull}
use Rattle.btr_check.specs.Families as families
use Rattle.btr_check.specs.Filesystem.{Filesystem, extents}
use Rattle.btr_check.specs.Uses as words
use Rattle.btr_check.specs.declared.references.Begun.{Begun}

-- what was collected is what the extent tree stores, and the block groups
pub record AreCollected (fs : Filesystem) (both : Both KeptExtents (List Group)) : Type 0 where
  pub stored : both.first ≡ words.stored fs
  pub groups : both.second ≡ families.groups fs

-- nothing is counted yet beside what is stored, and these are the addresses of the blocks that refer by their own
pub record IsBegun (fs : Filesystem) (begun : Begun) : Type 0 where
  pub forward : begun.forward ≡ nothing_counted (words.stored fs)
  pub full : IsFull (extents fs) begun.full
