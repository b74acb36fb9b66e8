use Rattle.std.proofs.Common.{◌+◌, length, sym, ap, ◌∙◌}
use Rattle.btr_scrub_row.proofs.Common.{P, parities, parity_writes}
use Rattle.btr_scrub_row.proofs.Applied.{only_p, sum_p, sum_pq}
use Rattle.btr_scrub_row.proofs.applying.count_parities.Goals as goal

pub returns-in-Raid6 : goal.returns-in-Raid6
returns-in-Raid6 c = λ images row of is.
    let layout = c.args.store.now.layout in
    ap (λ n. n + c.count_wrong.result) (c.count_wrong-p.ensures.count layout images row of is)
    ∙ ap (λ n. length (parity_writes images layout row P) + n) (c.count_wrong.ensures.count layout images row of is)
    ∙ sum_pq images layout row (ap parities (sym of.shape.profile ∙ c.in-Raid6.is))

pub returns-in_default : goal.returns-in_default
returns-in_default c = λ images row of is.
    let layout = c.args.store.now.layout in
    c.count_wrong-p.ensures.count layout images row of is ∙ sum_p images layout row
    (only_p row of.is.parity (λ six. c.in_default.not-Raid6 (of.shape.profile ∙ six)))
