use Rattle.std.proofs.Common.{◌∙◌, ap, sum_by, sym, arith}
use Rattle.std.proofs.lemmas.List.{take_all}
use Rattle.btr_refs.proofs.Listing.{total_of, weight}
use Rattle.btr_refs.proofs.comparing.total_at.Goals as goal

pub returns : goal.returns
returns c =
    let addr = c.args.addr in
    let refs = c.refs_at-one-items.result.now in
    c.loop-one.invariant ∙ ap (sum_by (weight addr)) (take_all c.loop-one.one-index refs (omega (arith, c.loop-one-test.false))) ∙ sym (total_of addr refs)
    ∙ c.refs_at-one-items.ensures
