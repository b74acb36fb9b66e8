use Rattle.std.proofs.Common.{arith}
use Rattle.btr_read.proofs.ReadsOn.{open_still}
use Rattle.btr_read.proofs.Rows.{of_row}
use Rattle.btr_read.proofs.Trials.{began_on, tried_still, tried_missed}
use Rattle.btr_read.proofs.syndromes.try_row.Goals as goal

pub try_syndromes-requires-clause-open : goal.try_syndromes-requires-clause-open
try_syndromes-requires-clause-open g c = open_still c.args.search.now.devices c.gather_both.ensures.reads c.requires.open

pub returns-in-Ok-clause-trial : goal.returns-in-Ok-clause-trial
returns-in-Ok-clause-trial g c = λ before is h. c.try_syndromes.ensures.trial before (began_on c.gather_both.ensures.reads is)
    (tried_still c.args.search.now before (g.R.Rack.seen c.args.rack.now) (g.R.Rack.seen c.gather_both.new.rack) c.args.failed 1 h c.in-Ok.ensures.account)

pub returns-in-Err-clause-trial : goal.returns-in-Err-clause-trial
returns-in-Err-clause-trial g c = λ before is h.
    let t = c.args.search.now in
    let e = c.in-Err.ensures.account in
    tried_missed t before (g.R.Rack.seen c.args.rack.now) (g.R.Rack.seen c.gather_both.new.rack) c.args.failed 1 c.in-Err.unread.slot e.0 h
    (omega arith) is.sure (of_row t c.in-Err.unread.part e.0 c.requires.order c.requires.profile c.requires.stands e.4 e.3) e.1 e.2
