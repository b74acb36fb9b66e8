use Rattle.std.proofs.Common.{sym, ap, ◌∙◌}
use Rattle.btr_walk.specs.Folds.{folded_over}
use Rattle.btr_walk.specs.Range.{range}
use Rattle.btr_files.specs.declared.clearness.Survey.TheVariants.{Clear}
use Rattle.btr_volume.specs.Tree.{key, last}
use Rattle.btr_files.specs.Extents.{survey}
use Rattle.btr_files.specs.Steps.{survey_step}
use Rattle.btr_files.proofs.Folding.{looked}
use Rattle.btr_files.proofs.Surveys.{survey_as}
use Rattle.btr_files.proofs.surveying.survey.Goals as goal

pub returns-clause-content : goal.returns-clause-content
returns-clause-content g c =
    let root = c.args.tree.now.place in
    let lo = c.key_of-lo.result in
    let hi = c.key_of-hi.result in
    looked _ _ _ (folded_over survey_step (λ s. Clear) (record { end = 0 }) (range lo hi root)) (survey c.args.tree.now c.args.ino) c.lookup.result
    (ap (λ k. folded_over survey_step (λ s. Clear) (record { end = 0 }) (range k hi root)) c.key_of-lo.ensures
    ∙ ap (λ k. folded_over survey_step (λ s. Clear) (record { end = 0 }) (range (key c.args.ino 108 0) k root)) c.key_of-hi.ensures
    ∙ sym (survey_as (range (key c.args.ino 108 0) (key c.args.ino 108 last) root) 0))
    c.lookup.ensures.content
