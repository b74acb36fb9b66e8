use Rattle.std.proofs.Common.{inl, Ok, Err, sym, ap, ◌∙◌, subst}
use Rattle.std.proofs.lemmas.Result.{err_from_is_err_and}
use Rattle.std.specs.Option.{IfSome}
use Rattle.btr_run.specs.Agreeing.{ScrubsAgreed}
use Rattle.btr_run.specs.Unopened.{AreAgreed, IsOrUnopened}
use Rattle.btr_run.specs.Outcomes.{refused}
use Rattle.btr_run.specs.Repaired.{Scrubs}
use Rattle.btr_run.specs.Scrubbed.{scrub_in, scrub_outcome}
use Rattle.btr_run.proofs.Agreements.{unopened_to}
use Rattle.btr_read.proofs.Fetched.{map_some}
use Rattle.btr_run.proofs.Mended.{scrubs_agreed}
use Rattle.btr_run.proofs.Mendings.{not_opened, outcome_by}
use Rattle.btr_run.proofs.ScrubsDone.{scrubs_so}
use Rattle.btr_run.proofs.scrubbing.scrub_filesystem.Goals as goal

pub returns-in_err-volume-clause-scrubs : goal.returns-in_err-volume-clause-scrubs
returns-in_err-volume-clause-scrubs g c =
    let old = g.R.Rack.seen c.args.rack.now in
    let new = g.R.Rack.seen c.open_filesystem.new.rack in
    let p = err_from_is_err_and c.from_residual.result c.from_residual.ensures.1 in
    let e = c.in_err-volume.ensures in
    rw p.1 (not_opened c.args.write old new c.in_err-volume.field-0.0 p.0 p.2 e.refusal e.reads e.image e.tree e.hidden e.counted e.content)

pub returns-in_err-scrub-clause-scrubs : goal.returns-in_err-scrub-clause-scrubs
returns-in_err-scrub-clause-scrubs g c =
    let old = g.R.Rack.seen c.args.rack.now in
    let mid = g.R.Rack.seen c.open_filesystem.new.rack in
    let new = g.R.Rack.seen c.scrub.new.rack in
    let opens = c.in_ok-volume.ensures in
    let p = err_from_is_err_and c.from_residual-in_err-scrub.result c.from_residual-in_err-scrub.ensures.1 in
    rw p.1 (subst (λ a. Scrubs c.args.write old new (Err a)) (sym p.2)
    (scrubs_so c.args.write old mid opens.reads c.in_ok-volume.volume opens.content opens.opened c.listed_writes.ensures c.listed_counts.ensures
    c.in_err-scrub.ensures.table new (Err c.in_err-scrub.field-0.0) c.in_err-scrub.ensures.missing c.in_err-scrub.ensures.scrubs c.in_err-scrub.ensures.safe))

pub returns-clause-scrubs : goal.returns-clause-scrubs
returns-clause-scrubs g c =
    let old = g.R.Rack.seen c.args.rack.now in
    let mid = g.R.Rack.seen c.open_filesystem.new.rack in
    let new = g.R.Rack.seen c.scrub.new.rack in
    let opens = c.in_ok-volume.ensures in
    scrubs_so c.args.write old mid opens.reads c.in_ok-volume.volume opens.content opens.opened c.listed_writes.ensures c.listed_counts.ensures
    c.in_ok-scrub.ensures.table new (Ok c.in_ok-scrub.field-0) c.in_ok-scrub.ensures.missing c.in_ok-scrub.ensures.scrubs c.in_ok-scrub.ensures.safe

pub returns-in_err-volume-clause-agreed : goal.returns-in_err-volume-clause-agreed
returns-in_err-volume-clause-agreed g c =
    let old = g.R.Rack.seen c.args.rack.now in
    let new = g.R.Rack.seen c.open_filesystem.new.rack in
    let p = err_from_is_err_and c.from_residual.result c.from_residual.ensures.1 in
    rw p.1 (subst (λ a. IfSome old.held (λ images. AreAgreed images → ScrubsAgreed c.args.write images (Err a))) (sym p.2)
    (map_some old.held (λ images. AreAgreed images → IsOrUnopened images (scrub_outcome c.args.write images) (refused c.in_err-volume.field-0.0))
    (λ images. AreAgreed images → ScrubsAgreed c.args.write images (Err c.in_err-volume.field-0.0)) (λ images so agreed. inl (so agreed))
    (unopened_to (scrub_outcome c.args.write) (λ images a e. outcome_by c.args.write images
    ∙ ap (scrub_in c.args.write images) e) old new c.in_err-volume.field-0.0
    c.in_err-volume.ensures.opened)))

pub returns-in_err-scrub-clause-agreed : goal.returns-in_err-scrub-clause-agreed
returns-in_err-scrub-clause-agreed g c =
    let old = g.R.Rack.seen c.args.rack.now in
    let mid = g.R.Rack.seen c.open_filesystem.new.rack in
    let new = g.R.Rack.seen c.scrub.new.rack in
    let opens = c.in_ok-volume.ensures in
    let p = err_from_is_err_and c.from_residual-in_err-scrub.result c.from_residual-in_err-scrub.ensures.1 in
    rw p.1 (subst (λ a. IfSome old.held (λ images. AreAgreed images → ScrubsAgreed c.args.write images (Err a))) (sym p.2)
    (scrubs_agreed c.args.write old mid new opens.reads c.in_ok-volume.volume opens.opened (Err c.in_err-scrub.field-0.0) c.in_err-scrub.ensures.scrubbed
    c.in_err-scrub.ensures.missing c.in_err-scrub.ensures.scrubs))

pub returns-clause-agreed : goal.returns-clause-agreed
returns-clause-agreed g c =
    let old = g.R.Rack.seen c.args.rack.now in
    let mid = g.R.Rack.seen c.open_filesystem.new.rack in
    let new = g.R.Rack.seen c.scrub.new.rack in
    let opens = c.in_ok-volume.ensures in
    scrubs_agreed c.args.write old mid new opens.reads c.in_ok-volume.volume opens.opened (Ok c.in_ok-scrub.field-0) c.in_ok-scrub.ensures.scrubbed
    c.in_ok-scrub.ensures.missing c.in_ok-scrub.ensures.scrubs
