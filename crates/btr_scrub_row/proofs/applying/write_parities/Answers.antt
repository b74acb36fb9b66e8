use Rattle.std.proofs.Common.{[], ◌∷◌, sym, ◌∙◌, ap}
use Rattle.btr_scrub_row.proofs.Common.{Images, IsOfRow, P, Q, does_passed, parities, parity_writes}
use Rattle.btr_scrub_copies.proofs.Doing.{does_halt, does_then}
use Rattle.btr_scrub_row.proofs.Applied.{only_p, p_first, told-cons}
use Rattle.btr_scrub_row.proofs.Wrote.{can_still, flat_told-one, tells_still}
use Rattle.btr_scrub_row.proofs.applying.write_parities.Goals as goal

pub returns-in_err-write_parity-clause-writes : goal.returns-in_err-write_parity-clause-writes
returns-in_err-write_parity-clause-writes g c told row of tells =
    let F = λ (images : Images). parity_writes images c.args.store.now.layout row in
    let rest = p_first row of.is.parity in
    does_passed c.from_residual.ensures.1 (rw (rest.1, told-cons F P rest.0 told)
    (does_halt (IsOfRow c.args.store.now.layout row) (Unit {0}) (Unit {0}) _ _ _ _ _ _ _ (c.in_err-write_parity.ensures.writes told row of tells)))

pub write_parity-requires-in-Raid6-clause-can : goal.write_parity-requires-in-Raid6-clause-can
write_parity-requires-in-Raid6-clause-can g c = can_still c.write_parity.ensures.slots c.write_parity.auto.marks c.requires.can

pub returns-in-Raid6-clause-writes : goal.returns-in-Raid6-clause-writes
returns-in-Raid6-clause-writes g c told row of tells =
    let F = λ (images : Images). parity_writes images c.args.store.now.layout row in
    let first = c.in_ok-write_parity.ensures.writes told row of tells in
    rw (ap parities (sym of.shape.profile ∙ c.in-Raid6.is), told-cons F P (Q ∷ []) told, flat_told-one F told Q)
    (does_then (IsOfRow c.args.store.now.layout row) _ _ _ _ _ _ _ _ _ _ _ _ first
    (c.write_parity-in-Raid6.ensures.writes told row of (tells_still first tells)))

pub returns-in_default-clause-writes : goal.returns-in_default-clause-writes
returns-in_default-clause-writes g c told row of tells =
    rw (
      only_p row of.is.parity (λ six. c.in_default.not-Raid6 (of.shape.profile ∙ six)),
      flat_told-one (λ images. parity_writes images c.args.store.now.layout row) told P,
    )
    (c.in_ok-write_parity.ensures.writes told row of tells)
