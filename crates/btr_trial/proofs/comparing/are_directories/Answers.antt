use Rattle.std.proofs.Common.{◌∙◌, ◌+◌, ◌-◌, sym, ap, arith}
use Rattle.btr_trial.specs.Stated.{directories, same_rows}
use Rattle.btr_trial.proofs.Comparisons.{first_left, none_left}
use Rattle.btr_trial.proofs.comparing.are_directories.Goals as goal

pub returns-in-None : goal.returns-in-None
returns-in-None c =
    let i = c.loop-i.i in
    let count = c.args.number - i in
    sym (c.loop-i.invariant ∙ ap (same_rows c.loop-i.left.now) (first_left i count (omega (arith, c.loop-i-test.true)))
    ∙ c.in-None.ensures (directories (i + 1) (count - 1)))

pub loop-i-preserved : goal.loop-i-preserved
loop-i-preserved c =
    let i = c.loop-i.i in
    let count = c.args.number - i in
    c.loop-i.invariant ∙ ap (same_rows c.loop-i.left.now) (first_left i count (omega (arith, c.loop-i-test.true)))
    ∙ c.in-Some.ensures (directories (i + 1) (count - 1))
    ∙ ap (λ n. same_rows c.in-Some.rest.now (directories (i + 1) n)) (omega arith)

pub returns : goal.returns
returns c = c.is_empty.ensures ∙ sym (c.loop-i.invariant ∙ none_left c.loop-i.left.now c.args.number c.loop-i.i (omega (arith, c.loop-i-test.false)))
