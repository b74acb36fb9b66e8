use Rattle.std.proofs.Common.{◌∙◌, ◌++◌, ◌∷◌, [], Err, sym, subst, ap}
use Rattle.btr_super.specs.Slot.{IsSoFar, kind_then}
use Rattle.btr_super.proofs.Copies.{sofar_refused}
use Rattle.btr_super.proofs.slot.refused.Goals as goal

pub returns : goal.returns
returns c = λ found so.
    subst (λ k. IsSoFar (found ++ Err c.args.fault ∷ []) (record { newest = c.args.seen.newest; kind = k }))
    (sym (c.first_of.ensures ∙ ap (kind_then c.args.seen.kind) c.kind_of.ensures))
    (sofar_refused found c.args.seen.newest c.args.seen.kind c.args.fault so)
