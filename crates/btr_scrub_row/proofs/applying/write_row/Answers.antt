use Rattle.std.proofs.Common.{length, Ok, sym, ap, ◌∙◌}
use Rattle.btr_scrub_row.proofs.Common.{IsOfRow}
use Rattle.btr_scrub_copies.proofs.Turning.{if_held, turns_done, turns_failed, turns_first, turns_passed}
use Rattle.btr_scrub_row.proofs.Applied.{one_turn, tells_more}
use Rattle.btr_scrub_row.proofs.Wrote.{can_still, tells_still}
use Rattle.btr_scrub_row.proofs.applying.write_row.Goals as goal

pub sync_if-requires : goal.sync_if-requires
sync_if-requires g c = c.write_rebuilt.auto.marks ∙ c.requires.slots ∙ sym (ap length c.write_rebuilt.ensures.slots)

pub write_parities-requires-clause-can : goal.write_parities-requires-clause-can
write_parities-requires-clause-can g c =
    can_still (c.in_ok-sync_if.ensures.slots ∙ c.write_rebuilt.ensures.slots) (c.sync_if.auto.marks ∙ c.write_rebuilt.auto.marks) c.requires.can

pub write_parities-requires-clause-room : goal.write_parities-requires-clause-room
write_parities-requires-clause-room g c = λ row of. c.write_rebuilt.ensures.room (length row.chunk.stripes) (c.requires.room row of)

pub returns-clause-writes : goal.returns-clause-writes
returns-clause-writes g c told row wanted tells =
    let both = c.has_both-both.result in
    let first = c.in_ok-write_rebuilt.ensures.writes told row wanted tells in
    let same = if_held both _ _ _ _ (Ok tt) c.in_ok-sync_if.ensures.syncs in
    let now = tells_more (λ images is. c.write_rebuilt.ensures.prepared images row is) tells in
    turns_done (IsOfRow c.args.store.now.layout row) _ _ first both
    (c.write_parities.ensures.writes told row wanted.of (record { known = now.known; untold = λ none. same ∙ (tells_still first now).untold none }))
    c.in_ok-sync_if.ensures.syncs
    (λ no. one_turn c.args.store.now.layout row _ _ told tells.known (λ images is. c.has_both-both.ensures no images row wanted.of is))

pub returns-in_err-write_rebuilt-clause-writes : goal.returns-in_err-write_rebuilt-clause-writes
returns-in_err-write_rebuilt-clause-writes g c told row wanted tells = turns_passed c.from_residual.ensures.1
    (turns_first (IsOfRow c.args.store.now.layout row) _ _ (c.in_err-write_rebuilt.ensures.writes told row wanted tells))

pub returns-in_err-sync_if-clause-writes : goal.returns-in_err-sync_if-clause-writes
returns-in_err-sync_if-clause-writes g c told row wanted tells = turns_passed c.from_residual-in_err-sync_if.ensures.1
    (turns_failed (IsOfRow c.args.store.now.layout row) _ _ (c.in_ok-write_rebuilt.ensures.writes told row wanted tells) c.has_both-both.result
    c.in_err-sync_if.ensures.syncs)
