use Rattle.std.proofs.Common.{get_or, set, None, IsSome, subst, sym, ap, ap₂, ◌∙◌}
use Rattle.btr_pool.specs.Slots.{IsLive, loans_of}
use Rattle.btr_pool.proofs.Loans.{loans_of-with_free}
use Rattle.btr_read.specs.Store.{with_loan, kept_in}
use Rattle.btr_read.proofs.Loans.{live_of, blocks}
use Rattle.btr_read.proofs.store.Store.give.Goals as goal

pub give-requires : goal.give-requires
give-requires c =
    let loans = ap (λ s. s.loans) c.self.view_is in
    let slot = ap (λ l. l.slot) c.loan.view_is in
    let live = subst (λ l. IsSome (get_or l c.args.loan.slot None)) (sym loans) c.requires.live in
    live_of c.self.inside.pool c.loan.inside.slot c.self.invariant.store.whole
    (subst (λ k. IsSome (get_or (loans_of c.self.inside.pool) k None)) (sym slot) live)

pub returns : goal.returns
returns c =
    let pool = c.self.inside.pool in
    let live : IsLive pool c.loan.inside.slot =
    let loans = ap (λ s. s.loans) c.self.view_is in
    let slot = ap (λ l. l.slot) c.loan.view_is in
    let live = subst (λ l. IsSome (get_or l c.args.loan.slot None)) (sym loans) c.requires.live in
    live_of pool c.loan.inside.slot c.self.invariant.store.whole (subst (λ k. IsSome (get_or (loans_of pool) k None)) (sym slot) live)
    in
    ap₂ (blocks c.self.inside.chunks c.self.inside.devices.items c.self.inside.setting)
    (ap loans_of c.give.ensures ∙ loans_of-with_free pool c.loan.inside.slot live
    ∙ ap (λ k. set (loans_of pool) k None) (ap (λ l. l.slot) c.loan.view_is))
    (ap (λ p. kept_in c.self.inside.setting c.self.inside.kept.wants p.bytes) c.give.ensures)
    ∙ ap (λ s. with_loan s c.args.loan.slot None) c.self.view_is
