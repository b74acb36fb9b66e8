use Rattle.btr_scrub.specs.Gathering.{ListsKept}
use Rattle.btr_scrub.proofs.sectors.gather_kept.Given as goal

abbrev pub invariant-loop-i : goal.invariant-loop-i
invariant-loop-i l = ListsKept l.addr l.most l.ahead l.fn.gathered l.gathered l.i
