use Rattle.std.proofs.Common.{◌≡◌, ◌++◌, length, ap, sym, subst, ◌∙◌, arith}
use Rattle.std.specs.FinMap.{from_entries, insert}
use Rattle.btr_check_names.specs.Slots.{IsLaid, IsNext, listed}
use Rattle.btr_check_names.proofs.Slotted.{laid_more, waits_more}
use Rattle.btr_check_names.proofs.ascending.Ascending.push.Goals as goal

pub invariant_of-self-2 : goal.invariant_of-self-2
invariant_of-self-2 c =
    let slots = c.self.inside.slots.items in
    let names = c.self.inside.names.items in
    let name = c.args.name.now in
    let at : c.len.result ≡ length names = omega (arith, c.len.ensures, c.self.inside.names.ok) in
    let next = subst (λ l. IsNext l c.args.claim.now (length name)) c.deref.ensures.value c.in-Some.ensures.fits in
    let is = c.in-Some.ensures.slot ∙ (λ i. record { claim = c.args.claim.now; is_first = c.args.is_first; at = at i; len = length name }) in
    let done = c.in_ok-put.ensures.ok in
    subst (λ l. IsLaid l c.put.new.slots.items) (sym done.1) (subst (IsLaid (names ++ name)) (sym done.0)
    (laid_more names slots c.self.invariant c.args.claim.now c.args.is_first name c.in-Some.slot is next))

pub returns-clause-taken : goal.returns-clause-taken
returns-clause-taken c =
    let slots = c.self.inside.slots.items in
    let names = c.self.inside.names.items in
    let name = c.args.name.now in
    let at : c.len.result ≡ length names = omega (arith, c.len.ensures, c.self.inside.names.ok) in
    let next = subst (λ l. IsNext l c.args.claim.now (length name)) c.deref.ensures.value c.in-Some.ensures.fits in
    let is = c.in-Some.ensures.slot ∙ (λ i. record { claim = c.args.claim.now; is_first = c.args.is_first; at = at i; len = length name }) in
    let done = c.in_ok-put.ensures.ok in
    (λ i. from_entries (listed (done.1 i) (done.0 i)))
    ∙ waits_more names slots c.self.invariant c.args.claim.now c.args.is_first name c.in-Some.slot is next
    ∙ ap (λ m. insert m c.args.claim.now (record { is_first = c.args.is_first; name = name })) c.self.view_is
