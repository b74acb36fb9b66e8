-- An opened filesystem, as scrub sees it.
use Rattle.btr_read.specs.Layout.{Layout}
use Rattle.btr_super.specs.declared.superblock.Super.{Super}

-- how its blocks are found and tested, and its superblock
pub record Filesystem : Type 0 where
  pub layout : Layout
  pub sup : Super
