use Rattle.std.proofs.Common.{sym, ap, ◌∙◌}
use Rattle.btr_scrub.proofs.Common.{is_plain, sought_of}
use Rattle.btr_scrub.proofs.copied.mend_want.Goals as goal

pub returns-then-is_plain-clause-mends : goal.returns-then-is_plain-clause-mends
returns-then-is_plain-clause-mends g c t e =
    rw (ap is_plain (sought_of c.args.store.now.layout c.args.want.now t e).want_is ∙ sym c.is_plain.ensures ∙ c.if-is_plain.true)
    (c.mend_plain.ensures.mends t e)

pub returns-else-is_plain-clause-mends : goal.returns-else-is_plain-clause-mends
returns-else-is_plain-clause-mends g c t e =
    rw (ap is_plain (sought_of c.args.store.now.layout c.args.want.now t e).want_is ∙ sym c.is_plain.ensures ∙ c.if-is_plain.false)
    (c.mend_copies.ensures.mends t e)
