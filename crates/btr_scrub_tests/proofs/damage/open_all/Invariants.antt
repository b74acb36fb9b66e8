use Rattle.btr_rack.specs.Memory.{slots_of}
use Rattle.btr_scrub_copies.specs.Writes.{AreWritable}
use Rattle.btr_scrub_tests.proofs.damage.open_all.Given as goal

abbrev pub invariant-loop-name : goal.invariant-loop-name
invariant-loop-name l = AreWritable (slots_of l.rack)
