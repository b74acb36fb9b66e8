use Rattle.btr_scrub_copies.specs.declared.finding.Bad.{Bad}
use Rattle.btr_scrub_copies.proofs.Copied.{copies_stand, same_loans_then}
use Rattle.btr_scrub_copies.proofs.Freshness.{stale_counts, stale_written}
use Rattle.btr_scrub_copies.proofs.Outcomes.{repairs_failed, repairs_flagged}
use Rattle.std.proofs.Common.{sym, ◌∙◌}
use Rattle.btr_scrub_copies.proofs.Common.{flagged, stays_same}
use Rattle.btr_scrub_copies.proofs.freshening.mend_stale.Goals as goal

pub returns-in_err-bad-clause-mends : goal.returns-in_err-bad-clause-mends
returns-in_err-bad-clause-mends g c t e =
    repairs_failed c.in_err-bad.ensures.reads Bad c.in_err-bad.field-0.0 c.from_residual.ensures.1 (c.in_err-bad.ensures.account t e)

pub mend_bad-requires-clause-live : goal.mend_bad-requires-clause-live
mend_bad-requires-clause-live g c = stays_same _ _ _ c.in_ok-bad.ensures.same c.requires.live

pub returns-clause-loans : goal.returns-clause-loans
returns-clause-loans g c = same_loans_then _ _ _ c.in_ok-bad.ensures.same c.mend_bad.ensures.loans

pub returns-clause-mends : goal.returns-clause-mends
returns-clause-mends g c t e = repairs_flagged (record { block = c.args.sector.now.block; bad = c.in_ok-bad.bad }) c.in_ok-bad.ensures.reads
    (c.in_ok-bad.ensures.account t e) c.in_ok-bad.ensures.same c.requires.live e c.mend_bad.ensures.mends (λ bytes images block told.
    let failing = flagged c.args.sector.now.failing.now in
    let n = c.args.sector.now.block.copies in
    let has = c.requires.copies t e in
    let stand = copies_stand c.args.store.now.layout c.args.sector.now.block.want.now t n c.requires.copied e has in
    let fresh = sym (c.requires.fresh t images e told) ∙ block in
    let stale = c.in_ok-bad.ensures.stale t images e told bytes block in
    (stale_written images failing t n has bytes fresh stale, stale_counts images failing t n has bytes fresh stale stand c.args.write))
