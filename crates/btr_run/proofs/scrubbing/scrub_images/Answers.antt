use Rattle.std.proofs.Common.{Result, Ok, Err, subst}
use Rattle.btr_rack.specs.Out.{Puts}
use Rattle.btr_rack.specs.declared.error.SinkError.{SinkError}
use Rattle.btr_run.specs.Answers.{answer_of, output_answer}
use Rattle.btr_run.proofs.Coming.{answer_gives}
use Rattle.btr_run.proofs.ScrubsTold.{done_leaves, done_shown, refused_leaves, refused_shown}
use Rattle.btr_run.proofs.scrubbing.scrub_images.Goals as goal

pub returns-in_err-tally-clause-shows : goal.returns-in_err-tally-clause-shows
returns-in_err-tally-clause-shows g c =
    refused_shown c.args.write (g.R.Rack.seen c.args.rack.now) (g.R.Rack.seen c.scrub_filesystem.new.rack) c.in_err-tally.field-0.0
    (answer_of c.from_residual.result) (answer_gives c.from_residual.result c.in_err-tally.field-0.0 c.from_residual.ensures.1) c.in_err-tally.ensures.scrubs
    (g.O.Out.text c.args.out.now) (g.O.Out.account c.args.out.now) c.in_err-tally.ensures.agreed

pub returns-in_err-tally-clause-leaves : goal.returns-in_err-tally-clause-leaves
returns-in_err-tally-clause-leaves g c =
    refused_leaves c.args.write (g.R.Rack.seen c.args.rack.now) (g.R.Rack.seen c.scrub_filesystem.new.rack) c.in_err-tally.field-0.0
    (answer_of c.from_residual.result) (answer_gives c.from_residual.result c.in_err-tally.field-0.0 c.from_residual.ensures.1) c.in_err-tally.ensures.scrubs

pub returns-in_err-put_pieces-clause-shows : goal.returns-in_err-put_pieces-clause-shows
returns-in_err-put_pieces-clause-shows g c =
    let put : Result Unit SinkError = Err c.in_err-put_pieces.field-0.0 in
    done_shown c.args.write (g.R.Rack.seen c.args.rack.now) (g.R.Rack.seen c.scrub_filesystem.new.rack) c.in_ok-tally.tally c.in_ok-tally.ensures.scrubs put
    (answer_of c.from_residual-in_err-put_pieces.result)
    (answer_gives c.from_residual-in_err-put_pieces.result (output_answer c.in_err-put_pieces.field-0.0) c.from_residual-in_err-put_pieces.ensures.1)
    (g.O.Out.text c.args.out.now) (g.O.Out.text c.put_pieces.new.out) (g.O.Out.account c.args.out.now) (g.O.Out.account c.put_pieces.new.out)
    (subst (λ l. Puts (g.O.Out.text c.args.out.now) (g.O.Out.text c.put_pieces.new.out) l put) c.tally_pieces.ensures c.in_err-put_pieces.ensures.text)
    c.in_err-put_pieces.ensures.account c.in_ok-tally.ensures.agreed

pub returns-in_err-put_pieces-clause-leaves : goal.returns-in_err-put_pieces-clause-leaves
returns-in_err-put_pieces-clause-leaves g c =
    let put : Result Unit SinkError = Err c.in_err-put_pieces.field-0.0 in
    done_leaves c.args.write (g.R.Rack.seen c.args.rack.now) (g.R.Rack.seen c.scrub_filesystem.new.rack) c.in_ok-tally.tally c.in_ok-tally.ensures.scrubs put
    (answer_of c.from_residual-in_err-put_pieces.result)
    (answer_gives c.from_residual-in_err-put_pieces.result (output_answer c.in_err-put_pieces.field-0.0) c.from_residual-in_err-put_pieces.ensures.1)

pub returns-clause-shows : goal.returns-clause-shows
returns-clause-shows g c =
    let put : Result Unit SinkError = Ok tt in
    done_shown c.args.write (g.R.Rack.seen c.args.rack.now) (g.R.Rack.seen c.scrub_filesystem.new.rack) c.in_ok-tally.tally c.in_ok-tally.ensures.scrubs put
    c.answer_for.result c.answer_for.ensures (g.O.Out.text c.args.out.now) (g.O.Out.text c.put_pieces.new.out) (g.O.Out.account c.args.out.now)
    (g.O.Out.account c.put_pieces.new.out)
    (subst (λ l. Puts (g.O.Out.text c.args.out.now) (g.O.Out.text c.put_pieces.new.out) l put) c.tally_pieces.ensures c.in_ok-put_pieces.ensures.text)
    c.in_ok-put_pieces.ensures.account c.in_ok-tally.ensures.agreed

pub returns-clause-leaves : goal.returns-clause-leaves
returns-clause-leaves g c =
    let put : Result Unit SinkError = Ok tt in
    done_leaves c.args.write (g.R.Rack.seen c.args.rack.now) (g.R.Rack.seen c.scrub_filesystem.new.rack) c.in_ok-tally.tally c.in_ok-tally.ensures.scrubs put
    c.answer_for.result c.answer_for.ensures
