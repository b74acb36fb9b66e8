use Rattle.std.proofs.Common.{sym, ap, ◌∙◌, arith}
use Rattle.btr_walk.specs.Folds.{Go}
use Rattle.btr_walk.specs.Showing.{item_of}
use Rattle.btr_files.specs.declared.clearness.Survey.TheVariants.{Clear}
use Rattle.btr_files.proofs.Surveys.{step_broken, step_judged, cleared_ends}
use Rattle.btr_files.proofs.surveying.SurveyorFolderSurveyInfallible.take.Goals as goal

pub returns-then-from-self : goal.returns-then-from-self
returns-then-from-self c = step_broken c.args.self.now (item_of c.args.item.now) c.in-Ok.extent c.in-Ok.ensures.form
    (omega (arith, c.if-from-self.true, c.from.ensures))

pub returns-in-Clear : goal.returns-in-Clear
returns-in-Clear c =
    step_judged c.args.self.now (item_of c.args.item.now) c.in-Ok.extent Clear c.in-Ok.ensures.form
    (omega (arith, c.if-from-self.false, c.from.ensures)) (sym c.in-Clear.is ∙ c.judge.ensures)
    ∙ ap (λ n. Go (record { end = n })) (sym c.end-self.ensures)

pub returns-in_default-judge : goal.returns-in_default-judge
returns-in_default-judge c =
    step_judged c.args.self.now (item_of c.args.item.now) c.in-Ok.extent c.judge.result c.in-Ok.ensures.form
    (omega (arith, c.if-from-self.false, c.from.ensures)) c.judge.ensures
    ∙ cleared_ends c.judge.result _ c.in_default-judge.not-Clear
