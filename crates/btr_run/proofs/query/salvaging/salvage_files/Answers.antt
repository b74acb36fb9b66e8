use Rattle.std.proofs.Common.{◌≡◌, ◌∙◌, ℕ, List, Result, Ok, Err, refl, ap}
use Rattle.std.specs.Option.{IfSome}
use Rattle.btr_files.specs.declared.plan.RestorePlan.{RestorePlan}
use Rattle.btr_rack.specs.Rack.{OnlyReads, Seen}
use Rattle.btr_rack.specs.Sink.{is_in_file}
use Rattle.btr_restore.specs.Running.{Outside, world}
use Rattle.btr_prog.specs.Attempts.{TriesTo}
use Rattle.btr_salvage.specs.Running.{Ran}
use Rattle.btr_salvage.specs.Salvaging.{salvage_run, salvaging}
use Rattle.btr_salvage.specs.declared.salvaged.Salvaged.{Salvaged}
use Rattle.btr_prog.proofs.Attempts.{tries_one}
use Rattle.btr_volume.specs.declared.stop.Stop.{Stop}
use Rattle.btr_volume.specs.declared.volume.Volume.{Volume}
use Rattle.btr_run.specs.Behind.{IfSteady}
use Rattle.btr_run.specs.Faults.{stop_answer}
use Rattle.btr_run.specs.Filesystem.{OpensAs, OpensFilesystem}
use Rattle.btr_run.specs.Listed.{stopped_answer}
use Rattle.btr_run.specs.Queries.Salvaged.{missed_in, salvage_row}
use Rattle.btr_run.specs.Rows.{IsRowDone}
use Rattle.btr_run.specs.declared.answer.Answer.{Answer}
use Rattle.btr_run.specs.declared.answer.Answer.TheVariants.{Done}
use Rattle.btr_run.proofs.Coming.{answer_gives}
use Rattle.btr_run.proofs.Rows.{row_done, row_unopened}
use Rattle.btr_run.proofs.query.salvaging.salvage_files.Goals as goal

-- The filesystem is open, and a subvolume was salvaged.
salvaged_done : (old mid new : Seen) (first : OnlyReads old mid) (volume after : Volume) (x y : Outside) (answer : Answer)
    (plan : RestorePlan) (dest : List ℕ) (result : Result Salvaged Stop) → answer ≡ stopped_answer missed_in result
    → Ran (salvaging plan dest volume.sup) (world mid volume x) (world new after y) result
    → IfSteady old.held old.account mid.account (λ images. OpensFilesystem images (Ok volume))
    → IfSome old.held (λ images. OpensAs images old mid (Ok volume)) → IsRowDone (salvage_row plan dest) old new x y answer
salvaged_done old mid new first volume after x y answer plan dest result is ran =
    row_done (Unit {0}) missed_in (λ fs B. salvage_run B plan dest fs.sup) (λ fs Bs. TriesTo Bs (salvaging plan dest fs.sup))
    (λ fs B r tries. tries_one (λ (n : ℕ). B) B (λ n want. refl) (salvaging plan dest fs.sup) r tries) old mid new first volume after x y answer result is
    ran.reads ran.did ran.cause ran.sink_calls ran.out_calls

pub returns-in_err-volume-clause-done : goal.returns-in_err-volume-clause-done
returns-in_err-volume-clause-done g c =
    let e = c.in_err-volume.ensures in
    row_unopened (salvage_row c.args.plan.now c.args.dest.now) (g.R.Rack.seen c.args.rack.now) (g.R.Rack.seen c.open_filesystem.new.rack) _
    c.in_err-volume.field-0.0 _
    (answer_gives c.from_residual.result c.in_err-volume.field-0.0 c.from_residual.ensures.1) e.refusal e.content e.opened e.reads e.image e.tree e.hidden
    e.counted

pub returns-in_err-salvaged-clause-done : goal.returns-in_err-salvaged-clause-done
returns-in_err-salvaged-clause-done g c =
    salvaged_done (g.R.Rack.seen c.args.rack.now) (g.R.Rack.seen c.open_filesystem.new.rack) (g.R.Rack.seen c.salvage.new.rack)
    c.in_ok-volume.ensures.reads c.in_ok-volume.volume c.salvage.new.vol _ _ _ c.args.plan.now c.args.dest.now (Err c.in_err-salvaged.field-0.0)
    (answer_gives c.from_residual-in_err-salvaged.result (stop_answer c.in_err-salvaged.field-0.0) c.from_residual-in_err-salvaged.ensures.1)
    c.in_err-salvaged.ensures.ran c.in_ok-volume.ensures.content c.in_ok-volume.ensures.opened

pub returns-clause-done : goal.returns-clause-done
returns-clause-done g c =
    salvaged_done (g.R.Rack.seen c.args.rack.now) (g.R.Rack.seen c.open_filesystem.new.rack) (g.R.Rack.seen c.salvage.new.rack)
    c.in_ok-volume.ensures.reads c.in_ok-volume.volume c.salvage.new.vol _ _ _ c.args.plan.now c.args.dest.now (Ok c.in_ok-salvaged.salvaged)
    (ap Done c.saturating_add.ensures) c.in_ok-salvaged.ensures.ran c.in_ok-volume.ensures.content c.in_ok-volume.ensures.opened

pub returns-in_err-volume-clause-stored : goal.returns-in_err-volume-clause-stored
returns-in_err-volume-clause-stored g c = λ undone other. g.met.T.TreeSink.settled c.args.tree.now (ap is_in_file c.requires.fresh)

pub returns-in_err-salvaged-clause-stored : goal.returns-in_err-salvaged-clause-stored
returns-in_err-salvaged-clause-stored g c = λ undone other.
    c.in_err-salvaged.ensures.stored
    (λ is. other (answer_gives c.from_residual-in_err-salvaged.result (stop_answer c.in_err-salvaged.field-0.0) c.from_residual-in_err-salvaged.ensures.1
    ∙ ap stop_answer is))

pub returns-clause-stored : goal.returns-clause-stored
returns-clause-stored g c = λ undone other. absurd (undone c.saturating_add.result refl)
