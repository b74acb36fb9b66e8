use Rattle.std.proofs.Common.{◌≡◌, ◌∙◌, Bool, true, false, Ok, Err, refl, ap}
use Rattle.btr_rack.specs.Sink.{is_in_file}
use Rattle.btr_restore.specs.Journey.{listing}
use Rattle.btr_restore.specs.Running.{KeepsSink}
use Rattle.btr_run.specs.Faults.{stop_answer}
use Rattle.btr_run.specs.Queries.Restored.{restore_row, skipped_in}
use Rattle.btr_run.proofs.Coming.{answer_gives}
use Rattle.btr_run.proofs.Orders.{opened_in_order, unopened_in_order}
use Rattle.btr_run.proofs.Rows.{program_done, row_unopened}
use Rattle.btr_run.proofs.query.restoring.restore_files.Goals as goal

pub returns-in_err-volume-clause-done : goal.returns-in_err-volume-clause-done
returns-in_err-volume-clause-done g c =
    let e = c.in_err-volume.ensures in
    row_unopened (restore_row c.args.plan.now c.args.dest.now) (g.R.Rack.seen c.args.rack.now) (g.R.Rack.seen c.open_filesystem.new.rack) _
    c.in_err-volume.field-0.0 _
    (answer_gives c.from_residual.result c.in_err-volume.field-0.0 c.from_residual.ensures.1) e.refusal e.content e.opened e.reads e.image e.tree e.hidden
    e.counted

pub returns-in_err-counts-clause-done : goal.returns-in_err-counts-clause-done
returns-in_err-counts-clause-done g c =
    program_done (c.args.plan.now.dry ≡ false) skipped_in (λ fs. listing c.args.plan.now c.args.dest.now fs.sup)
    (g.R.Rack.seen c.args.rack.now) (g.R.Rack.seen c.open_filesystem.new.rack) (g.R.Rack.seen c.restore.new.rack)
    c.in_ok-volume.ensures.reads c.in_ok-volume.volume c.restore.new.vol _ _ _ (Err c.in_err-counts.field-0.0)
    (answer_gives c.from_residual-in_err-counts.result (stop_answer c.in_err-counts.field-0.0) c.from_residual-in_err-counts.ensures.1)
    c.in_err-counts.ensures.ran c.in_ok-volume.ensures.content c.in_ok-volume.ensures.opened

pub returns-clause-done : goal.returns-clause-done
returns-clause-done g c =
    program_done (c.args.plan.now.dry ≡ false) skipped_in (λ fs. listing c.args.plan.now c.args.dest.now fs.sup)
    (g.R.Rack.seen c.args.rack.now) (g.R.Rack.seen c.open_filesystem.new.rack) (g.R.Rack.seen c.restore.new.rack)
    c.in_ok-volume.ensures.reads c.in_ok-volume.volume c.restore.new.vol _ _ _ (Ok c.in_ok-counts.counts)
    refl c.in_ok-counts.ensures.ran c.in_ok-volume.ensures.content c.in_ok-volume.ensures.opened

pub returns-in_err-volume-clause-order : goal.returns-in_err-volume-clause-order
returns-in_err-volume-clause-order g c =
    unopened_in_order c.args.plan.now c.args.dest.now (g.R.Rack.seen c.args.rack.now) (g.R.Rack.seen c.open_filesystem.new.rack)
    (λ start. c.opened_then.ensures.listed c.args.plan.now c.args.dest.now start (g.R.Rack.seen c.args.rack.now) (g.R.Rack.seen c.open_filesystem.new.rack))
    (λ start. c.opened_then.ensures.refused c.args.plan.now c.args.dest.now start (g.R.Rack.seen c.args.rack.now) (g.R.Rack.seen c.open_filesystem.new.rack))
    (λ start. c.opened_then.ensures.halted c.args.plan.now c.args.dest.now start (g.R.Rack.seen c.args.rack.now) (g.R.Rack.seen c.open_filesystem.new.rack))
    _ c.in_err-volume.field-0.0 _ (answer_gives c.from_residual.result c.in_err-volume.field-0.0 c.from_residual.ensures.1) c.in_err-volume.ensures.opened

pub returns-in_err-counts-clause-order : goal.returns-in_err-counts-clause-order
returns-in_err-counts-clause-order g c =
    opened_in_order c.args.plan.now c.args.dest.now (g.R.Rack.seen c.args.rack.now) (g.R.Rack.seen c.restore.new.rack)
    (λ start. c.opened_then.ensures.listed c.args.plan.now c.args.dest.now start (g.R.Rack.seen c.args.rack.now) (g.R.Rack.seen c.restore.new.rack))
    (λ start. c.opened_then.ensures.refused c.args.plan.now c.args.dest.now start (g.R.Rack.seen c.args.rack.now) (g.R.Rack.seen c.restore.new.rack))
    (λ start. c.opened_then.ensures.halted c.args.plan.now c.args.dest.now start (g.R.Rack.seen c.args.rack.now) (g.R.Rack.seen c.restore.new.rack))
    (g.R.Rack.seen c.open_filesystem.new.rack) c.in_ok-volume.volume c.restore.new.vol _ _ _ (Err c.in_err-counts.field-0.0)
    (answer_gives c.from_residual-in_err-counts.result (stop_answer c.in_err-counts.field-0.0) c.from_residual-in_err-counts.ensures.1)
    c.in_ok-volume.ensures.reads c.in_ok-volume.ensures.opened c.in_err-counts.ensures.ran

pub returns-clause-order : goal.returns-clause-order
returns-clause-order g c =
    opened_in_order c.args.plan.now c.args.dest.now (g.R.Rack.seen c.args.rack.now) (g.R.Rack.seen c.restore.new.rack)
    (λ start. c.opened_then.ensures.listed c.args.plan.now c.args.dest.now start (g.R.Rack.seen c.args.rack.now) (g.R.Rack.seen c.restore.new.rack))
    (λ start. c.opened_then.ensures.refused c.args.plan.now c.args.dest.now start (g.R.Rack.seen c.args.rack.now) (g.R.Rack.seen c.restore.new.rack))
    (λ start. c.opened_then.ensures.halted c.args.plan.now c.args.dest.now start (g.R.Rack.seen c.args.rack.now) (g.R.Rack.seen c.restore.new.rack))
    (g.R.Rack.seen c.open_filesystem.new.rack) c.in_ok-volume.volume c.restore.new.vol _ _ _ (Ok c.in_ok-counts.counts) refl
    c.in_ok-volume.ensures.reads c.in_ok-volume.ensures.opened c.in_ok-counts.ensures.ran

pub returns-in_err-volume-clause-stored : goal.returns-in_err-volume-clause-stored
returns-in_err-volume-clause-stored g c = λ undone other. g.met.T.TreeSink.settled c.args.tree.now (ap is_in_file c.requires.fresh)

-- nothing waits behind a stop: in a dry run the sink is as it was, and else what waited was stored
stored_by : {T : Type 0} (waits : T → Bool) (old new : T) (dry : Bool)
    → waits old ≡ false → KeepsSink dry old new → (dry ≡ false → waits new ≡ false) → waits new ≡ false
stored_by waits old new true none keeps stored = ap waits (keeps refl) ∙ none
stored_by waits old new false none keeps stored = stored refl

pub returns-in_err-counts-clause-stored : goal.returns-in_err-counts-clause-stored
returns-in_err-counts-clause-stored g c = λ undone other.
    stored_by g.T.TreeSink.waits c.args.tree.now c.restore.new.tree c.args.plan.now.dry
    (g.met.T.TreeSink.settled c.args.tree.now (ap is_in_file c.requires.fresh)) c.in_err-counts.ensures.dry
    (λ wet. c.in_err-counts.ensures.stored wet
    (λ is. other (answer_gives c.from_residual-in_err-counts.result (stop_answer c.in_err-counts.field-0.0) c.from_residual-in_err-counts.ensures.1
    ∙ ap stop_answer is)))

pub returns-clause-stored : goal.returns-clause-stored
returns-clause-stored g c = λ undone other. absurd (undone c.in_ok-counts.counts.skipped refl)

pub returns-in_err-volume-clause-dry : goal.returns-in_err-volume-clause-dry
returns-in_err-volume-clause-dry g c = λ is. refl

pub returns-in_err-counts-clause-dry : goal.returns-in_err-counts-clause-dry
returns-in_err-counts-clause-dry g c = c.in_err-counts.ensures.dry

pub returns-clause-dry : goal.returns-clause-dry
returns-clause-dry g c = c.in_ok-counts.ensures.dry
