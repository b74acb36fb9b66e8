use Rattle.std.proofs.Common.{◌+◌, ◌<◌, ◌≤◌, ◌++◌, [], length, take, drop, get_or, set, sym, ap, subst, append-nil, ◌∙◌, arith}
use Rattle.std.proofs.lemmas.List.{drop_all, get_or-set_other, length-set, take_all}
use Rattle.btr_findings.specs.Runs.{each_once, no_run, without}
use Rattle.btr_findings.specs.Sectors.{IsRunWithin}
use Rattle.btr_findings.proofs.Onces.{once_more, reaching_within}
use Rattle.btr_findings.proofs.findings.take_once.Goals as goal

pub without-requires-clause-run : goal.without-requires-clause-run
without-requires-clause-run c = subst IsRunWithin (sym (c.loop-i.invariant.rest c.loop-i.i no_run (omega arith)))
    (c.requires c.loop-i.i no_run c.loop-i-test.true).within

pub loop-i-preserved : goal.loop-i-preserved
loop-i-preserved c =
    let i = c.loop-i.i in
    let list = c.loop-i.runs in
    let last = c.loop-i.last in
    let was = c.loop-i.invariant in
    let run = get_or list i no_run in
    let below : i < length list = omega (arith, was.long, c.loop-i-test.true) in
    let here : IsRunWithin run = subst IsRunWithin (sym (was.rest i no_run (omega arith))) (c.requires i no_run c.loop-i-test.true).within in
    record {
      within = subst IsRunWithin (sym c.reaching-last.ensures) (reaching_within last run was.within here);
      long = length-set list i c.without.result ∙ was.long;
      rest = λ k d behind. get_or-set_other list i k c.without.result d (λ same. absurd (omega (arith, same, behind))) ∙ was.rest k d (omega (arith, behind));
      all =
          ap (λ one. take (i + 1) (set list i one) ++ each_once c.reaching-last.result (drop (i + 1) (set list i one))) c.without.ensures
          ∙ ap (λ one. take (i + 1) (set list i (without last run)) ++ each_once one (drop (i + 1) (set list i (without last run)))) c.reaching-last.ensures
          ∙ once_more last no_run list i below ∙ was.all;
    }

pub returns : goal.returns
returns c =
    let i = c.loop-i.i in
    let list = c.loop-i.runs in
    let none : length list ≤ i = omega (arith, c.loop-i.invariant.long, c.loop-i-test.false) in
    sym (append-nil list)
    ∙ ap (λ l. l ++ each_once c.loop-i.last []) (sym (take_all i list none))
    ∙ ap (λ l. take i list ++ each_once c.loop-i.last l) (sym (drop_all i list none))
    ∙ c.loop-i.invariant.all
