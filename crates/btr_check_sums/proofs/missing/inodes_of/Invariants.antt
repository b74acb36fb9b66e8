use Rattle.std.proofs.Common.{take}
use Rattle.btr_check_sums.specs.Ranks.{Inodes}
use Rattle.btr_check_sums.proofs.missing.inodes_of.Given as goal

-- the inodes so far
abbrev pub invariant-loop-inode : goal.invariant-loop-inode
invariant-loop-inode l = Inodes (take l.inode-index l.loose) l.inodes
