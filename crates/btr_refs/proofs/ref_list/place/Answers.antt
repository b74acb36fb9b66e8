use Rattle.std.proofs.Common.{rules}
use Rattle.std.proofs.lemmas.List.Sorted.{answers_always}
use Rattle.btr_refs.specs.declared.counted.Counted.{Counted}
use Rattle.btr_refs.proofs.Counting.{ref_exact}
use Rattle.btr_refs.proofs.Listing.{searched}
use Rattle.btr_refs.proofs.ref_list.place.Goals as goal

pub returns-in-Ok-clause-found : goal.returns-in-Ok-clause-found
returns-in-Ok-clause-found c =
    let equal = c.in-Ok.ensures.position (λ (one : Counted). one.key) (answers_always _ _ _ (λ f a r g called. search rules)) in
    record { below = c.in-Ok.ensures.bound; is = λ d. ref_exact _ _ (equal d) }

pub returns-in-Err-clause-absent : goal.returns-in-Err-clause-absent
returns-in-Err-clause-absent c =
    let parted = c.in-Err.ensures.position (λ (one : Counted). one.key) (answers_always _ _ _ (λ f a r g called. search rules)) in
    searched c.args.refs.now c.args.key.now c.requires c.in-Err.field-0 parted
