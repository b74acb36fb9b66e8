use Rattle.std.proofs.Common.{Ok, ap, ◌∙◌}
use Rattle.btr_restore.specs.Journey.{put}
use Rattle.btr_restore.proofs.Writings.{writes_passed, writing_end, writing_fault, writing_halt, writing_on}
use Rattle.btr_restore.proofs.writing.put_next.Goals as goal

pub returns-in-Err-clause-writes : goal.returns-in-Err-clause-writes
returns-in-Err-clause-writes g c whole x text calls l = writing_fault put whole x _ c.args.plain c.args.file.now c.next_piece.new.file
    (g.R.Rack.seen c.next_piece.new.rack) c.next_piece.follows.lender-at-none l c.next_piece.ensures.reads c.in-Err.fault c.next_piece.result
    c.in-Err.is c.next_piece.follows.holds-at-none c.in-Err.ensures.cause

pub returns-in-Ok-None-clause-writes : goal.returns-in-Ok-None-clause-writes
returns-in-Ok-None-clause-writes g c whole x text calls l = writing_end put whole x _ c.args.plain c.args.file.now c.next_piece.new.file
    (g.R.Rack.seen c.next_piece.new.rack) c.next_piece.follows.lender-at-none l c.next_piece.ensures.reads c.next_piece.result
    (c.in-Ok-None.is ∙ ap Ok c.in-Ok-None.field-0-is) c.next_piece.follows.holds-at-none

pub returns-in_ok-put_piece-in-Ok-Some-clause-writes : goal.returns-in_ok-put_piece-in-Ok-Some-clause-writes
returns-in_ok-put_piece-in-Ok-Some-clause-writes g c whole x text calls l = writing_on put whole x _ c.args.plain c.args.file.now c.next_piece.new.file
    (g.R.Rack.seen c.next_piece.new.rack) c.next_piece.follows.lender-at-none l c.next_piece.ensures.reads c.in-Ok-Some.piece c.next_piece.result
    (c.in-Ok-Some.is ∙ ap Ok c.in-Ok-Some.field-0-is) c.next_piece.follows.holds-at-none _ c.in_ok-put_piece-in-Ok-Some.field-0
    (c.in_ok-put_piece-in-Ok-Some.ensures.wrote text calls)

pub returns-in_err-put_piece-in-Ok-Some-clause-writes : goal.returns-in_err-put_piece-in-Ok-Some-clause-writes
returns-in_err-put_piece-in-Ok-Some-clause-writes g c whole x text calls l =
    writes_passed c.args.plain _ c.from_residual.ensures.1 (writing_halt put whole x _ c.args.plain c.args.file.now c.next_piece.new.file
    (g.R.Rack.seen c.next_piece.new.rack) c.next_piece.follows.lender-at-none l c.next_piece.ensures.reads c.in-Ok-Some.piece c.next_piece.result
    (c.in-Ok-Some.is ∙ ap Ok c.in-Ok-Some.field-0-is) c.next_piece.follows.holds-at-none _ c.in_err-put_piece-in-Ok-Some.field-0.0
    (c.in_err-put_piece-in-Ok-Some.ensures.wrote text calls))
