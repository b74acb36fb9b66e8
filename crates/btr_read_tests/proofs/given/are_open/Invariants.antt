use Rattle.std.proofs.Common.{drop}
use Rattle.btr_rack.specs.Memory.{slots_of}
use Rattle.btr_read.specs.Layout.{AreOpen}
use Rattle.btr_read_tests.proofs.given.are_open.Given as goal

abbrev pub invariant-loop-member : goal.invariant-loop-member
invariant-loop-member l = AreOpen (slots_of l.rack) (drop l.member-index l.members) → AreOpen (slots_of l.rack) l.members
