use Rattle.std.proofs.Common.{◌∙◌, ap, None}
use Rattle.btr_super.proofs.Copies.{answered}
use Rattle.btr_super.specs.Slot.{chosen}
use Rattle.btr_super.proofs.slot.answer.Goals as goal

pub returns-in-Some-default-clause-answer : goal.returns-in-Some-default-clause-answer
returns-in-Some-default-clause-answer c = λ found so. answered found c.args.seen.newest c.args.seen.kind so
    ∙ ap (λ o. chosen o c.args.seen.kind) c.in-Some-default.is-0

pub returns-in-None-Some-clause-answer : goal.returns-in-None-Some-clause-answer
returns-in-None-Some-clause-answer c = λ found so. answered found c.args.seen.newest c.args.seen.kind so
    ∙ ap (λ o. chosen o c.args.seen.kind) c.in-None-Some.is-0 ∙ ap (chosen None) c.in-None-Some.is-1

pub returns-in-None-None-clause-answer : goal.returns-in-None-None-clause-answer
returns-in-None-None-clause-answer c = λ found so. answered found c.args.seen.newest c.args.seen.kind so
    ∙ ap (λ o. chosen o c.args.seen.kind) c.in-None-None.is-0 ∙ ap (chosen None) c.in-None-None.is-1
