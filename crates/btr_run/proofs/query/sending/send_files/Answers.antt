use Rattle.std.proofs.Common.{◌∙◌, Ok, Err, refl, ap}
use Rattle.btr_rack.specs.Sink.{is_in_file}
use Rattle.btr_send.specs.Sending.{sending}
use Rattle.btr_run.specs.Faults.{stop_answer}
use Rattle.btr_run.specs.Queries.Restored.{skipped_in}
use Rattle.btr_run.specs.Queries.Sent.{send_row}
use Rattle.btr_run.proofs.Coming.{answer_gives}
use Rattle.btr_run.proofs.Rows.{program_done, row_unopened}
use Rattle.btr_run.proofs.query.sending.send_files.Goals as goal

pub returns-in_err-volume-clause-done : goal.returns-in_err-volume-clause-done
returns-in_err-volume-clause-done g c =
    let e = c.in_err-volume.ensures in
    row_unopened (send_row c.args.plan.now c.args.dest.now c.args.name.now) (g.R.Rack.seen c.args.rack.now) (g.R.Rack.seen c.open_filesystem.new.rack) _
    c.in_err-volume.field-0.0 _
    (answer_gives c.from_residual.result c.in_err-volume.field-0.0 c.from_residual.ensures.1) e.refusal e.content e.opened e.reads e.image e.tree e.hidden
    e.counted

pub returns-in_err-counts-clause-done : goal.returns-in_err-counts-clause-done
returns-in_err-counts-clause-done g c =
    program_done (Unit {0}) skipped_in (λ fs. sending c.args.dest.now c.args.name.now fs.sup c.args.plan.now)
    (g.R.Rack.seen c.args.rack.now) (g.R.Rack.seen c.open_filesystem.new.rack) (g.R.Rack.seen c.send.new.rack)
    c.in_ok-volume.ensures.reads c.in_ok-volume.volume c.send.new.vol _ _ _ (Err c.in_err-counts.field-0.0)
    (answer_gives c.from_residual-in_err-counts.result (stop_answer c.in_err-counts.field-0.0) c.from_residual-in_err-counts.ensures.1)
    c.in_err-counts.ensures.ran c.in_ok-volume.ensures.content c.in_ok-volume.ensures.opened

pub returns-clause-done : goal.returns-clause-done
returns-clause-done g c =
    program_done (Unit {0}) skipped_in (λ fs. sending c.args.dest.now c.args.name.now fs.sup c.args.plan.now)
    (g.R.Rack.seen c.args.rack.now) (g.R.Rack.seen c.open_filesystem.new.rack) (g.R.Rack.seen c.send.new.rack)
    c.in_ok-volume.ensures.reads c.in_ok-volume.volume c.send.new.vol _ _ _ (Ok c.in_ok-counts.counts)
    refl c.in_ok-counts.ensures.ran c.in_ok-volume.ensures.content c.in_ok-volume.ensures.opened

pub returns-in_err-volume-clause-stored : goal.returns-in_err-volume-clause-stored
returns-in_err-volume-clause-stored g c = λ undone other. g.met.T.TreeSink.settled c.args.tree.now (ap is_in_file c.requires.fresh)

pub returns-in_err-counts-clause-stored : goal.returns-in_err-counts-clause-stored
returns-in_err-counts-clause-stored g c = λ undone other.
    c.in_err-counts.ensures.stored
    (λ is. other (answer_gives c.from_residual-in_err-counts.result (stop_answer c.in_err-counts.field-0.0) c.from_residual-in_err-counts.ensures.1
    ∙ ap stop_answer is))

pub returns-clause-stored : goal.returns-clause-stored
returns-clause-stored g c = λ undone other. absurd (undone c.in_ok-counts.counts.skipped refl)
