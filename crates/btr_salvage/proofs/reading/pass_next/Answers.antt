use Rattle.std.proofs.Common.{Ok, ap, ◌∙◌}
use Rattle.std.proofs.lemmas.Result.{err_from_is_err_and}
use Rattle.btr_salvage.proofs.Readings.{passing_end, passing_fault, passing_on}
use Rattle.btr_salvage.proofs.reading.pass_next.Goals as goal

pub returns-in_err-next_piece-clause-passes : goal.returns-in_err-next_piece-clause-passes
returns-in_err-next_piece-clause-passes g c whole start began l =
    let p = err_from_is_err_and c.from_residual.result c.from_residual.ensures.1 in
    rw (p.1, p.2) (passing_fault whole start began _ _ c.args.file.now c.next_piece.new.file
    (g.R.Rack.seen c.next_piece.new.rack) c.next_piece.follows.lender-at-none l c.next_piece.ensures.reads c.in_err-next_piece.field-0.0
    c.next_piece.result c.in_err-next_piece.was c.next_piece.follows.holds-at-none c.in_err-next_piece.ensures.cause)

pub returns-in-None-clause-passes : goal.returns-in-None-clause-passes
returns-in-None-clause-passes g c whole start began l = passing_end whole start began _ _ c.args.file.now c.next_piece.new.file
    (g.R.Rack.seen c.next_piece.new.rack) c.next_piece.follows.lender-at-none l c.next_piece.ensures.reads c.next_piece.result
    (c.in_ok-next_piece.was ∙ ap Ok c.in-None.is) c.next_piece.follows.holds-at-none

pub returns-in-Some-clause-passes : goal.returns-in-Some-clause-passes
returns-in-Some-clause-passes g c whole start began l = passing_on whole start began _ _ c.args.file.now c.next_piece.new.file
    (g.R.Rack.seen c.next_piece.new.rack) c.next_piece.follows.lender-at-none l c.next_piece.ensures.reads _ c.next_piece.result
    (c.in_ok-next_piece.was ∙ ap Ok c.in-Some.is) c.next_piece.follows.holds-at-none
