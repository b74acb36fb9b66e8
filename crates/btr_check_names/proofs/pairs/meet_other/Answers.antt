use Rattle.std.proofs.Common.{ap, sym, ◌∙◌}
use Rattle.std.specs.FinMap.{get, insert}
use Rattle.btr_check_names.specs.Pairs.{Half, fits, met_left}
use Rattle.btr_check_names.proofs.Joining.{gone_now, none_let_go}
use Rattle.btr_check_names.proofs.pairs.meet_other.Goals as goal

pub wait-requires : goal.wait-requires
wait-requires c = ap (λ m. get m c.args.claim) c.in_ok-fits.ensures.left ∙ gone_now c.args.waiting.now c.args.claim

pub returns-clause-left : goal.returns-clause-left
returns-clause-left c =
    let old = c.args.waiting.now in
    let k = c.args.claim in
    let first = c.args.is_first in
    let name = c.args.name.now in
    let none = none_let_go old k (λ (h : Half). fits h first name) (sym c.in_default.is ∙ c.in_ok-fits.ensures.found) in
    c.in_ok-wait.ensures.ok ∙ ap (λ m. insert m k (record { is_first = first; name = name })) (c.in_ok-fits.ensures.left ∙ none.1)
    ∙ ap (λ o. met_left old o k first name) (sym none.0)
