use Rattle.std.proofs.Common.{refl, sym, ap, ◌∙◌, is_some, count_by, not}
use Rattle.std.proofs.lemmas.Bool.{false≢true}
use Rattle.btr_pool.proofs.Bits.{none_free, lent_when_free}
use Rattle.btr_pool.proofs.ledger.Ledger.lend.Goals as goal

pub returns-in_err-slot-clause-full : goal.returns-in_err-slot-clause-full
returns-in_err-slot-clause-full c =
    let none = none_free c.self.inside.count c.self.inside.free c.self.invariant.within in
    (λ _. sym (ap (count_by not) c.self.view_is) ∙ none.0 (c.in_err-slot.ensures.none.0 refl), λ _. ap is_some c.from_residual.ensures)

pub returns-clause-full : goal.returns-clause-full
returns-clause-full c =
    let none = none_free c.self.inside.count c.self.inside.free c.self.invariant.within in
    (λ never. absurd (false≢true (sym never)), λ full. c.in_ok-slot.ensures.none.1 (none.1 (ap (count_by not) c.self.view_is ∙ full)))

pub returns-clause-was_free : goal.returns-clause-was_free
returns-clause-was_free c =
    let ledger = c.self.inside in
    let lent = lent_when_free ledger.count ledger.free c.in_ok-slot.slot c.args.self.now c.self.view_is c.self.invariant.within c.self.invariant.few
    c.in_ok-slot.ensures.within c.in_ok-slot.ensures.one in
    lent.was_free

pub returns-clause-lent : goal.returns-clause-lent
returns-clause-lent c =
    let ledger = c.self.inside in
    let lent = lent_when_free ledger.count ledger.free c.in_ok-slot.slot c.args.self.now c.self.view_is c.self.invariant.within c.self.invariant.few
    c.in_ok-slot.ensures.within c.in_ok-slot.ensures.one in
    lent.after
