use Rattle.std.proofs.Common.{◌++◌, ◌∷◌, [], Ok, sym, subst}
use Rattle.btr_super.specs.Slot.{IsSoFar}
use Rattle.btr_super.proofs.Copies.{sofar_same, sofar_newer, Beats}
use Rattle.btr_super.proofs.slot.newer.Goals as goal

pub returns-then-newest-s : goal.returns-then-newest-s
returns-then-newest-s c = λ found so. sofar_newer found c.args.seen.newest c.args.s c.args.seen.kind
    (subst (λ o. Beats o c.args.s) (sym c.in-Some.is) c.if-newest-s.true) so

pub returns-else-newest-s : goal.returns-else-newest-s
returns-else-newest-s c = λ found so.
    subst (λ o. IsSoFar (found ++ Ok c.args.s ∷ []) (record { newest = o; kind = c.args.seen.kind })) (sym c.in-Some.is)
    (sofar_same found c.in-Some.newest c.args.s c.args.seen.kind c.if-newest-s.false
    (subst (λ o. IsSoFar found (record { newest = o; kind = c.args.seen.kind })) c.in-Some.is so))

pub returns-in-None : goal.returns-in-None
returns-in-None c = λ found so. sofar_newer found c.args.seen.newest c.args.s c.args.seen.kind (subst (λ o. Beats o c.args.s) (sym c.in-None.is) tt) so
