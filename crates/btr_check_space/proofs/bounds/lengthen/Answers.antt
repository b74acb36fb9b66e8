use Rattle.std.proofs.Common.{◌≡◌, ◌+◌, get_or, slice_set, sym, subst, arith}
use Rattle.std.proofs.lemmas.Grind.{common_steps}
use Rattle.btr_check_space.specs.Bounds.{Lengthened}
use Rattle.btr_check_space.proofs.Between.{lengthened}
use Rattle.btr_check_space.proofs.bounds.lengthen.Goals as goal

pub returns-in-Some-clause-sums : goal.returns-in-Some-clause-sums
returns-in-Some-clause-sums c =
    let lengths = c.args.lengths.now in
    let place = c.args.place in
    let sum : c.in-Some.sum ≡ get_or lengths place 0 + c.args.len = grind (arith, common_steps) in
    subst (λ n. Lengthened place c.args.len lengths (slice_set lengths place n)) (sym sum) (lengthened lengths place c.args.len)
