use Rattle.std.proofs.Common.{take, get_or, Some, None, IsSome, subst, sym, ap, ◌∙◌}
use Rattle.std.specs.Option.{option_map}
use Rattle.btr_pool.specs.Slots.{IsLive, loans_of}
use Rattle.btr_read.specs.Store.{block_of}
use Rattle.btr_read.proofs.Loans.{live_of, loan_is}
use Rattle.btr_read.proofs.store.Store.bytes.Goals as goal

pub bytes-requires : goal.bytes-requires
bytes-requires c =
    let loans = ap (λ s. s.loans) c.self.view_is in
    let slot = ap (λ l. l.slot) c.loan.view_is in
    let live = subst (λ l. IsSome (get_or l c.args.loan.now.slot None)) (sym loans) c.requires.live in
    live_of c.self.inside.pool c.loan.inside.slot c.self.invariant.store.whole
    (subst (λ k. IsSome (get_or (loans_of c.self.inside.pool) k None)) (sym slot) live)

pub returns-clause-value : goal.returns-clause-value
returns-clause-value c =
    let pool = c.self.inside.pool in
    let slot = c.loan.inside.slot in
    let len = c.loan.inside.len in
    let held : IsSome (get_or (loans_of pool) slot None) =
    subst (λ k. IsSome (get_or (loans_of pool) k None)) (sym (ap (λ l. l.slot) c.loan.view_is))
    (subst (λ l. IsSome (get_or l c.args.loan.now.slot None)) (sym (ap (λ s. s.loans) c.self.view_is)) c.requires.live)
    in
    let live : IsLive pool slot = live_of pool slot c.self.invariant.store.whole held in
    ap (λ s. block_of s c.args.loan.now) (sym c.self.view_is)
    ∙ ap (λ l. option_map (take l.len) (get_or (loans_of pool) l.slot None)) (sym c.loan.view_is)
    ∙ ap (option_map (take len)) (loan_is pool slot c.self.invariant.store.whole live)
    ∙ ap (λ b. Some (take len b)) (sym c.bytes.ensures.value)
