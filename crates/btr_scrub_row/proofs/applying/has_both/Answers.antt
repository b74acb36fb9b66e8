use Rattle.std.proofs.Common.{◌≡◌, sym, ◌∙◌, inl, inr, arith}
use Rattle.std.proofs.lemmas.Bool.{ltb-false}
use Rattle.btr_scrub_row.proofs.Applied.{no_parities, no_writes}
use Rattle.btr_scrub_row.proofs.applying.has_both.Goals as goal

pub returns-then-judged-gt0 : goal.returns-then-judged-gt0
returns-then-judged-gt0 c = λ no images row of is.
    let count = c.count_parities.result in
    let none : count ≡ 0 = omega (arith, ltb-false 0 count no) in
    inr (no_parities images c.args.store.now.layout row (sym (c.count_parities.ensures images row of is) ∙ none))

pub returns-else-judged-gt0 : goal.returns-else-judged-gt0
returns-else-judged-gt0 c = λ no images row of is.
    let none : c.args.judged.now.rebuilt ≡ 0 = omega (arith, c.if-judged-gt0.false) in
    inl (sym (no_writes images c.args.store.now.layout row c.args.judged.now c.args.buffer.now is none))
