use Rattle.std.proofs.Common.{◌≡◌, true, get_or, refl, sym, ◌∙◌, inl, inr}
use Rattle.std.proofs.lemmas.Bool.{false≢true}
use Rattle.btr_pool.proofs.Bits.{lent_when_free, lent_otherwise, bit_when_set, bit_when_clear}
use Rattle.btr_pool.proofs.ledger.Ledger.is_free.Goals as goal
use Rattle.btr_pool.proofs.ledger.Ledger.is_free.Goals.{then-slot-ge64-via-then-slot-ge64, then-slot-ge64-via-else-slot-ge64+then-self-slot-eq0}

pub returns-then-slot-ge64 : goal.returns-then-slot-ge64
returns-then-slot-ge64 c =
    let ledger = c.self.inside in
    let lent : get_or c.args.self.now c.args.slot true ≡ true =
    lent_otherwise ledger.count ledger.free c.args.slot c.args.self.now c.self.view_is c.self.invariant.few (elim c.then-slot-ge64.branch [
      | then-slot-ge64-via-then-slot-ge64 w ↦ inl w.if-slot-ge64.true
      | then-slot-ge64-via-else-slot-ge64+then-self-slot-eq0 w ↦ inr (bit_when_clear ledger.free c.args.slot w.if-slot-ge64.false w.if-self-slot-eq0.true)
    ]) in
    (λ never. absurd (false≢true never), λ was_free. absurd (false≢true (sym was_free ∙ lent)))

pub returns : goal.returns
returns c =
    let ledger = c.self.inside in
    let lent = lent_when_free ledger.count ledger.free c.args.slot c.args.self.now c.self.view_is c.self.invariant.within c.self.invariant.few
    c.if-slot-ge64.false (bit_when_set ledger.free c.args.slot c.if-slot-ge64.false c.if-self-slot-eq0.false) in
    (λ _. lent.was_free, λ _. refl)
