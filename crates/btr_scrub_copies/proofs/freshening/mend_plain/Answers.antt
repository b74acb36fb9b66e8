use Rattle.std.proofs.Common.{◌≡◌, false, Option, refl, sym, ap, ◌∙◌, rules}
use Rattle.btr_scrub_copies.proofs.Common.{Layout, Lent, flagged, none_failed, reads_none, same_held, serves_given, sought}
use Rattle.btr_scrub_copies.proofs.Freshness.{none_fresh, none_stale, unstale_counts, unstale_writes}
use Rattle.btr_scrub_copies.proofs.Outcomes.{given_behind, repairs_behind, repairs_failed, repairs_read}
use Rattle.btr_scrub_copies.proofs.freshening.mend_plain.Goals as goal

pub returns-then-not-lies_behind-clause-mends : goal.returns-then-not-lies_behind-clause-mends
returns-then-not-lies_behind-clause-mends g c t e =
    let failing = flagged c.args.failing.now in
    let not_behind : c.lies_behind.result ≡ false = search rules in
    repairs_read (reads_none _) (none_failed _) (λ images told.
    let none = none_stale images failing t (sym (c.lies_behind.ensures t e) ∙ not_behind) in
    (unstale_writes images failing t none c.args.write, unstale_counts images failing t none c.args.write))

pub mend_stale-mended-requires-clause-fresh : goal.mend_stale-mended-requires-clause-fresh
mend_stale-mended-requires-clause-fresh g c t images e told =
    let lent = rw c.in-Some.is at c.in_ok-lend_fresh.ensures.lent in
    rw c.in-Some.is at (c.in_ok-lend_fresh.ensures.found t images (sym (ap (λ (l : Layout). sought l c.args.want.now) lent.layout) ∙ e)
    (sym (same_held c.in_ok-lend_fresh.ensures.reads) ∙ told))

pub returns-in_err-lend_fresh-clause-mends : goal.returns-in_err-lend_fresh-clause-mends
returns-in_err-lend_fresh-clause-mends g c t e =
    repairs_failed c.in_err-lend_fresh.ensures.reads (Option Lent) c.in_err-lend_fresh.field-0.0 c.from_residual.ensures.1
    (c.in_err-lend_fresh.ensures.account t e)

pub returns-in-None-clause-mends : goal.returns-in-None-clause-mends
returns-in-None-clause-mends g c t e =
    let failing = flagged c.args.failing.now in
    repairs_read c.in_ok-lend_fresh.ensures.reads (c.in_ok-lend_fresh.ensures.account t e) (λ images told.
    let none = none_fresh images failing t (sym (rw c.in-None.is at (c.in_ok-lend_fresh.ensures.found t images e told))) in
    (unstale_writes images failing t none c.args.write, unstale_counts images failing t none c.args.write))

pub returns-in-Some-clause-serves : goal.returns-in-Some-clause-serves
returns-in-Some-clause-serves g c = rw c.give.ensures (serves_given _ _ _ c.mend_stale-mended.ensures.serves)

pub returns-in-Some-clause-loans : goal.returns-in-Some-clause-loans
returns-in-Some-clause-loans g c =
    rw c.give.ensures (given_behind _ _ _ _ _ (rw c.in-Some.is at c.in_ok-lend_fresh.ensures.lent) c.mend_stale-mended.ensures.loans)

pub returns-in-Some-clause-mends : goal.returns-in-Some-clause-mends
returns-in-Some-clause-mends g c t e =
    let lent = rw c.in-Some.is at c.in_ok-lend_fresh.ensures.lent in
    repairs_behind c.in_ok-lend_fresh.ensures.reads (c.in_ok-lend_fresh.ensures.account t e)
    (c.mend_stale-mended.ensures.mends t (ap (λ (l : Layout). sought l c.args.want.now) lent.layout ∙ e)) (λ images told. (refl, refl))
