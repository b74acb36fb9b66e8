use Rattle.std.proofs.Common.{rules}
use Rattle.btr_read.proofs.Serving.{serving}
use Rattle.btr_scrub_copies.proofs.Outcomes.{over_cut, over_read, over_wrote, serves_forgot}
use Rattle.btr_scrub_copies.proofs.mending.mend_bad.Goals as goal

pub returns-then-not-write-clause-mends : goal.returns-then-not-write-clause-mends
returns-then-not-write-clause-mends g c t bytes e block = over_read c.args.judged.now.bad.count (search rules)

pub write_over-requires-clause-open : goal.write_over-requires-clause-open
write_over-requires-clause-open g c = let was = serving _ _ c.requires.serves in rw c.forget_kept.ensures was.are_open

pub returns-clause-serves : goal.returns-clause-serves
returns-clause-serves g c =
    serves_forgot (g.R.Rack.seen c.args.rack.now) (g.R.Rack.seen c.write_over.new.rack) c.args.store.now c.forget_kept.new.self c.requires.serves
    c.forget_kept.ensures c.write_over.ensures.slots

pub returns-in_err-write_over-clause-serves : goal.returns-in_err-write_over-clause-serves
returns-in_err-write_over-clause-serves g c =
    serves_forgot (g.R.Rack.seen c.args.rack.now) (g.R.Rack.seen c.write_over.new.rack) c.args.store.now c.forget_kept.new.self c.requires.serves
    c.forget_kept.ensures c.write_over.ensures.slots

pub returns-clause-mends : goal.returns-clause-mends
returns-clause-mends g c t bytes e block = over_wrote c.args.judged.now.bad.count (search rules)
    ((rw c.forget_kept.ensures at c.in_ok-write_over.ensures.writes) t bytes e block)

pub returns-in_err-write_over-clause-mends : goal.returns-in_err-write_over-clause-mends
returns-in_err-write_over-clause-mends g c t bytes e block =
    over_cut c.args.judged.now.bad.count (search rules) c.in_err-write_over.field-0.0 c.from_residual.ensures.1
    ((rw c.forget_kept.ensures at c.in_err-write_over.ensures.writes) t bytes e block)
