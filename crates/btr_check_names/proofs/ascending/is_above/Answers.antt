use Rattle.std.proofs.Common.{sym, ap, ◌∙◌}
use Rattle.std.specs.Ordering.{is_lt}
use Rattle.btr_check_names.specs.Pairs.{claim_cmp}
use Rattle.btr_check_names.proofs.Slotted.{all_below}
use Rattle.btr_check_names.proofs.ascending.is_above.Goals as goal

pub returns-in-Some : goal.returns-in-Some
returns-in-Some c above =
    let last = c.in-Some.last.now in
    let by_claim = ap (λ k. is_lt (claim_cmp k c.args.claim.now)) c.claim.ensures in
    all_below c.args.slots.now c.args.claim.now last c.requires c.in-Some.ensures.item.1 (sym by_claim ∙ ap is_lt (sym c.cmp.ensures) ∙ sym c.is_lt.ensures
    ∙ above)
