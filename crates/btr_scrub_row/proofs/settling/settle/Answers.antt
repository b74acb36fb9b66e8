use Rattle.std.proofs.Common.{sym, ap, ◌∙◌}
use Rattle.btr_scrub_row.proofs.Common.{is_plain, sought_of}
use Rattle.btr_scrub_row.proofs.Settled.{settled_accepted, settled_plain}
use Rattle.btr_scrub_row.proofs.settling.settle.Goals as goal

pub returns-then-is_plain : goal.returns-then-is_plain
returns-then-is_plain c = λ images row t e lies knows h.
    let of = sought_of c.args.view.now.store.now.layout c.args.want.now t e in
    settled_plain images row t lies.sited.parity c.is_stale-stale.new.block c.is_stale-stale.result
    (ap is_plain of.want_is ∙ sym c.is_plain.ensures ∙ c.if-is_plain.true) (c.is_stale-stale.ensures images row t e lies knows h)

pub returns-in-Some : goal.returns-in-Some
returns-in-Some c = λ images row t e lies knows h.
    let of = sought_of c.args.view.now.store.now.layout c.args.want.now t e in
    settled_accepted images row t lies.sited.parity c.accept.new.block c.in-Some.good
    (ap is_plain of.want_is ∙ sym c.is_plain.ensures ∙ c.if-is_plain.false) (c.in-Some.ensures images t e h)
