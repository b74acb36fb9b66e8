use Rattle.std.proofs.Common.{◌≡◌, ◌+◌, ◌<◌, ◌^◌, length, take, get_or, ap, arith, rules}
use Rattle.std.proofs.lemmas.List.{take_all}
use Rattle.btr_findings.specs.Runs.{no_run}
use Rattle.btr_findings.specs.Sectors.{runs_findings}
use Rattle.btr_findings.proofs.Taking.{count_more}
use Rattle.btr_findings.proofs.findings.are_few.Goals as goal

pub loop-run-preserved : goal.loop-run-preserved
loop-run-preserved c =
    let runs = c.args.runs.now in
    let i = c.loop-run.run-index in
    let more : c.in-Some.more ≡ c.loop-run.count + (get_or runs i no_run).count = search rules in
    let few : c.in-Some.more < 2 ^ 64 = search rules in
    (omega (arith, more, c.loop-run.invariant.0, count_more runs i no_run c.loop-run-test.true), few)

pub returns : goal.returns
returns c =
    let runs = c.args.runs.now in
    let i = c.loop-run.run-index in
    let all : length (runs_findings (take i runs)) ≡ length (runs_findings runs) = ap (λ l. length (runs_findings l)) (take_all i runs c.loop-run-test.false) in
    omega (arith, all, c.loop-run.invariant.0, c.loop-run.invariant.1)
