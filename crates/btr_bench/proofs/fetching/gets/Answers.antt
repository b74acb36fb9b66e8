use Rattle.btr_rack.specs.Memory.{seen_of}
use Rattle.btr_read.specs.Store.{SameLoans}
use Rattle.btr_read.proofs.Lent.{given_back}
use Rattle.btr_read.proofs.Serving.{serves_given}
use Rattle.std.proofs.Common.{subst, sym}
use Rattle.btr_read.specs.Serves.{Serves}
use Rattle.btr_bench.proofs.fetching.gets.Goals as goal

pub returns-in-Ok-clause-store : goal.returns-in-Ok-clause-store
returns-in-Ok-clause-store c =
    subst (SameLoans c.args.store.now) (sym c.give.ensures) (given_back c.args.store.now c.fetch.new.store c.args.want.now c.in-Ok.loan c.in-Ok.ensures.lent)

pub returns-in-Ok-clause-serves : goal.returns-in-Ok-clause-serves
returns-in-Ok-clause-serves c =
    subst (Serves (seen_of c.fetch.new.rack)) (sym c.give.ensures)
    (serves_given (seen_of c.fetch.new.rack) c.fetch.new.store c.in-Ok.loan.slot c.in-Ok.ensures.serves)
