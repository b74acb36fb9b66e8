use Rattle.std.proofs.Common.{sym, subst}
use Rattle.btr_rack.specs.Memory.{seen_of}
use Rattle.btr_read.specs.Serves.{Serves}
use Rattle.btr_read.proofs.Serving.{serves_given}
use Rattle.btr_read_tests.proofs.kept.is_fetched_twice.Goals as goal

pub is_fetched-requires-clause-serves : goal.is_fetched-requires-clause-serves
is_fetched-requires-clause-serves g c = subst (Serves (seen_of c.fetch.new.rack)) (sym c.give.ensures)
    (serves_given (seen_of c.fetch.new.rack) c.fetch.new.store c.in-Ok.loan.slot c.fetch.ensures.serves)
