use Rattle.std.proofs.Common.{length}
use Rattle.btr_read_tests.proofs.given.+have_own_slots.Given as goal

abbrev pub decreases-have_own_slots : goal.decreases-have_own_slots
decreases-have_own_slots l = length l.members.now
