use Rattle.std.proofs.Common.{ap, ◌∙◌}
use Rattle.std.specs.FinMap.{find}
use Rattle.std.specs.Option.{option_map}
use Rattle.btr_check_names.specs.Pairs.{Half, claim_cmp, fits}
use Rattle.btr_check_names.specs.Slots.{listed}
use Rattle.btr_check_names.proofs.Slotted.{found_in}
use Rattle.btr_check_names.proofs.ascending.Ascending.meet.Goals as goal

pub returns-in_ok-tidy-clause-found : goal.returns-in_ok-tidy-clause-found
returns-in_ok-tidy-clause-found c =
    c.let_go-fit.ensures.found ∙ ap (option_map (λ (h : Half). fits h c.args.is_first c.args.name.now))
    ((λ i. find claim_cmp c.args.claim.now (listed (c.deref.ensures.value i) (c.deref_mut.ensures.value i)))
    ∙ found_in c.self.inside.names.items c.self.inside.slots.items c.args.claim.now c.args.self.now c.self.view_is)

pub returns-else-is_some-clause-found : goal.returns-else-is_some-clause-found
returns-else-is_some-clause-found c =
    c.let_go-fit.ensures.found ∙ ap (option_map (λ (h : Half). fits h c.args.is_first c.args.name.now))
    ((λ i. find claim_cmp c.args.claim.now (listed (c.deref.ensures.value i) (c.deref_mut.ensures.value i)))
    ∙ found_in c.self.inside.names.items c.self.inside.slots.items c.args.claim.now c.args.self.now c.self.view_is)
