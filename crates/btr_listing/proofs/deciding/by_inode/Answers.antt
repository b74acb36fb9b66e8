use Rattle.std.proofs.Common.{sym, subst}
use Rattle.btr_prog.specs.Prog.{Return}
use Rattle.btr_files.specs.Extents.{survey}
use Rattle.btr_listing.specs.Deciding.{Fits, surveyed}
use Rattle.btr_listing.specs.Looked.{met_by}
use Rattle.btr_listing.proofs.Decidings.{survey_fits}
use Rattle.btr_listing.proofs.Looking.{looked_by, looked_else, looked_halt, looked_if, looked_last, looked_passed, looked_value}
use Rattle.btr_listing.proofs.Numbers.{is_least, is_less}
use Rattle.btr_listing.proofs.deciding.by_inode.Goals as goal

pub returns-then-inode-gt-MOST_BYTES-clause-looked : goal.returns-then-inode-gt-MOST_BYTES-clause-looked
returns-then-inode-gt-MOST_BYTES-clause-looked g c =
    looked_if _ _ _ (is_less _ _ c.if-inode-gt-MOST_BYTES.true) (looked_value _ c.requires.ready)

pub returns-in_err-found-clause-looked : goal.returns-in_err-found-clause-looked
returns-in_err-found-clause-looked g c =
    let p = survey c.args.entry.now.tree c.args.entry.now.row.location.objectid in
    looked_passed _ c.from_residual.ensures.1
    (looked_else _ _ _ (is_least _ _ c.if-inode-gt-MOST_BYTES.false)
    (looked_halt p (λ s found. Return (surveyed c.args.inode found)) c.in_err-found.field-0.0
    (looked_by _ _ c.requires.ready c.survey.ensures.serves c.survey.ensures.reads c.survey.ensures.volume
    c.survey.ensures.cause c.survey.ensures.content) (c.in_err-found.was {u = tt})))

pub returns-clause-looked : goal.returns-clause-looked
returns-clause-looked g c =
    let p = survey c.args.entry.now.tree c.args.entry.now.row.location.objectid in
    looked_else _ _ _ (is_least _ _ c.if-inode-gt-MOST_BYTES.false)
    (looked_last p (surveyed c.args.inode) c.in_ok-found.found c.by_survey.result
    (looked_by _ _ c.requires.ready c.survey.ensures.serves c.survey.ensures.reads c.survey.ensures.volume
    c.survey.ensures.cause c.survey.ensures.content)
    (c.in_ok-found.was {u = tt}) c.by_survey.ensures)

pub returns-clause-fits : goal.returns-clause-fits
returns-clause-fits g c rules =
    let met = met_by c.args.entry.now in
    subst (Fits rules met) (sym c.by_survey.ensures) (survey_fits rules met c.requires.good c.args.inode c.in_ok-found.found)
