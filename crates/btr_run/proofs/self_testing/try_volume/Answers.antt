use Rattle.std.proofs.Common.{Result, Ok, Err, subst}
use Rattle.btr_rack.specs.Out.{Puts}
use Rattle.btr_rack.specs.declared.error.SinkError.{SinkError}
use Rattle.btr_make.specs.Shelf.{volume_of}
use Rattle.btr_run.specs.Answers.{answer_of, output_answer}
use Rattle.btr_run.specs.Faults.{stop_answer}
use Rattle.btr_run.proofs.Coming.{answer_gives}
use Rattle.btr_run.proofs.SelfTests.{of_rack, tried, unmade, unput}
use Rattle.btr_run.proofs.self_testing.try_volume.Goals as goal

pub returns-in_default : goal.returns-in_default
returns-in_default g c sink calls =
    unmade (g.M.Maker.volume c.args.maker) c.args.number sink calls (g.O.Out.text c.args.out.now) (g.O.Out.account c.args.out.now)

pub returns-in_err-put_pieces : goal.returns-in_err-put_pieces
returns-in_err-put_pieces g c sink calls =
    let fault = c.in_err-put_pieces.field-0.0 in
    let put : Result Unit SinkError = Err fault in
    let old = g.O.Out.text c.args.out.now in
    let new = g.O.Out.text c.put_pieces.new.out in
    unput (g.M.Maker.volume c.args.maker) c.args.number sink calls old new (g.O.Out.account c.args.out.now) (g.O.Out.account c.put_pieces.new.out) fault
    (subst (λ l. Puts old new l put) c.volume_pieces.ensures c.in_err-put_pieces.ensures.text) c.in_err-put_pieces.ensures.account
    (answer_of c.from_residual.result) (answer_gives c.from_residual.result (output_answer fault) c.from_residual.ensures.1)

pub returns-in_err-differing : goal.returns-in_err-differing
returns-in_err-differing g c sink calls =
    let stop = c.in_err-differing.field-0.0 in
    let put : Result Unit SinkError = Ok tt in
    let old = g.O.Out.text c.args.out.now in
    let mid = g.O.Out.text c.put_pieces.new.out in
    let volume = g.M.Maker.volume c.args.maker in
    tried volume c.args.number sink calls (volume_of c.in-Ok.rack)
    (of_rack volume c.args.number (volume_of c.in-Ok.rack) c.in-Ok.ensures.told)
    old mid (g.O.Out.text c.trial.new.out) (g.O.Out.account c.args.out.now) (g.O.Out.account c.put_pieces.new.out) (g.O.Out.account c.trial.new.out)
    (subst (λ l. Puts old mid l put) c.volume_pieces.ensures c.in_ok-put_pieces.ensures.text) c.in_ok-put_pieces.ensures.account
    (Err stop) c.in_err-differing.ensures (answer_of c.from_residual-in_err-differing.result)
    (answer_gives c.from_residual-in_err-differing.result (stop_answer stop) c.from_residual-in_err-differing.ensures.1)

pub returns : goal.returns
returns g c sink calls =
    let put : Result Unit SinkError = Ok tt in
    let old = g.O.Out.text c.args.out.now in
    let mid = g.O.Out.text c.put_pieces.new.out in
    let volume = g.M.Maker.volume c.args.maker in
    tried volume c.args.number sink calls (volume_of c.in-Ok.rack)
    (of_rack volume c.args.number (volume_of c.in-Ok.rack) c.in-Ok.ensures.told)
    old mid (g.O.Out.text c.trial.new.out) (g.O.Out.account c.args.out.now) (g.O.Out.account c.put_pieces.new.out) (g.O.Out.account c.trial.new.out)
    (subst (λ l. Puts old mid l put) c.volume_pieces.ensures c.in_ok-put_pieces.ensures.text) c.in_ok-put_pieces.ensures.account
    (Ok c.in_ok-differing.differing) c.in_ok-differing.ensures c.answer_for.result c.answer_for.ensures
