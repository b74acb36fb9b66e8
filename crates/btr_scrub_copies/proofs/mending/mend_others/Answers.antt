use Rattle.btr_scrub_copies.specs.declared.finding.Bad.{Bad}
use Rattle.btr_scrub_copies.proofs.Copied.{copies_stand, same_loans_then}
use Rattle.btr_scrub_copies.proofs.Firsts.{counts_are, writes_are}
use Rattle.btr_scrub_copies.proofs.Outcomes.{repairs_failed, repairs_flagged}
use Rattle.std.proofs.Common.{sym, ◌∙◌}
use Rattle.btr_scrub_copies.proofs.Common.{stays_same}
use Rattle.btr_scrub_copies.proofs.mending.mend_others.Goals as goal

pub returns-in_err-bad-clause-mends : goal.returns-in_err-bad-clause-mends
returns-in_err-bad-clause-mends g c t e =
    repairs_failed c.in_err-bad.ensures.reads Bad c.in_err-bad.field-0.0 c.from_residual.ensures.1 (c.in_err-bad.ensures.account t e)

pub mend_bad-requires-clause-live : goal.mend_bad-requires-clause-live
mend_bad-requires-clause-live g c = stays_same _ _ _ c.in_ok-bad.ensures.same c.requires.live

pub returns-clause-loans : goal.returns-clause-loans
returns-clause-loans g c = same_loans_then _ _ _ c.in_ok-bad.ensures.same c.mend_bad.ensures.loans

pub returns-clause-mends : goal.returns-clause-mends
returns-clause-mends g c t e = repairs_flagged (record { block = c.args.block.now; bad = c.in_ok-bad.bad }) c.in_ok-bad.ensures.reads
    (c.in_ok-bad.ensures.account t e) c.in_ok-bad.ensures.same c.requires.live e c.mend_bad.ensures.mends (λ bytes images block told.
    let first = c.requires.first t images e told in
    let n = c.args.block.now.copies in
    let has = c.requires.copies t e in
    let stand = copies_stand c.args.store.now.layout c.args.block.now.want.now t n c.requires.copied e has in
    let accepts = first.0.accepts ∙ sym first.1 ∙ block in
    let bad = c.in_ok-bad.ensures.bad t images e told in
    (writes_are images t n has stand bytes accepts bad, counts_are images t n has stand bytes accepts bad c.args.write))
