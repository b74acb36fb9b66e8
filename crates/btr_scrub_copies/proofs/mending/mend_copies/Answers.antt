use Rattle.std.proofs.Common.{Option, refl, sym, ap, ◌∙◌}
use Rattle.btr_scrub_copies.proofs.Common.{Layout, same_held, serves_given, sought}
use Rattle.btr_scrub_copies.specs.declared.finding.First.{First}
use Rattle.btr_scrub_copies.proofs.Copied.{copies_stand}
use Rattle.btr_scrub_copies.proofs.Firsts.{counted_lost, none_written}
use Rattle.btr_scrub_copies.proofs.Outcomes.{given_behind, repairs_behind, repairs_failed, repairs_read}
use Rattle.btr_scrub_copies.proofs.mending.mend_copies.Goals as goal

pub mend_others-mended-requires-clause-first : goal.mend_others-mended-requires-clause-first
mend_others-mended-requires-clause-first g c t images e told =
    let lent = rw c.in-Some.is at c.in_ok-first_good.ensures.lent in
    rw c.in-Some.is at (c.in_ok-first_good.ensures.found t images (sym (ap (λ (l : Layout). sought l c.args.want.now) lent.layout) ∙ e)
    (sym (same_held c.in_ok-first_good.ensures.reads) ∙ told))

pub returns-in_err-first_good-clause-mends : goal.returns-in_err-first_good-clause-mends
returns-in_err-first_good-clause-mends g c t e =
    repairs_failed c.in_err-first_good.ensures.reads (Option First) c.in_err-first_good.field-0.0 c.from_residual.ensures.1
    (c.in_err-first_good.ensures.account t e)

pub returns-in-None-clause-mends : goal.returns-in-None-clause-mends
returns-in-None-clause-mends g c t e =
    let n = c.copies_of-copies.result in
    let has = c.copies_of-copies.ensures.copies t e in
    let stand = copies_stand c.args.store.now.layout c.args.want.now t n c.requires.copied e has in
    repairs_read c.in_ok-first_good.ensures.reads (c.in_ok-first_good.ensures.account t e) (λ images told.
    let none = rw c.in-None.is at (c.in_ok-first_good.ensures.found t images e told) in
    (none_written images t n has stand none c.args.write, counted_lost images t n has stand none c.args.write))

pub returns-in-Some-clause-serves : goal.returns-in-Some-clause-serves
returns-in-Some-clause-serves g c = rw c.give.ensures (serves_given _ _ _ c.mend_others-mended.ensures.serves)

pub returns-in-Some-clause-loans : goal.returns-in-Some-clause-loans
returns-in-Some-clause-loans g c =
    rw c.give.ensures (given_behind _ _ _ _ _ (rw c.in-Some.is at c.in_ok-first_good.ensures.lent) c.mend_others-mended.ensures.loans)

pub returns-in-Some-clause-mends : goal.returns-in-Some-clause-mends
returns-in-Some-clause-mends g c t e =
    let lent = rw c.in-Some.is at c.in_ok-first_good.ensures.lent in
    repairs_behind c.in_ok-first_good.ensures.reads (c.in_ok-first_good.ensures.account t e)
    (c.mend_others-mended.ensures.mends t (ap (λ (l : Layout). sought l c.args.want.now) lent.layout ∙ e)) (λ images told. (refl, refl))
