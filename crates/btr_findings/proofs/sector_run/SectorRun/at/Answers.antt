use Rattle.std.proofs.Common.{◌≡◌, ◌+◌, ◌/◌, ◌≤◌, ◌^◌, arith, rules}
use Rattle.btr_findings.proofs.SectorRuns.{run_at}
use Rattle.btr_findings.proofs.sector_run.SectorRun.at.Goals as goal

pub returns : goal.returns
returns c =
    let first : c.in_ok-first.first ≡ c.args.start / 4096 = search rules in
    let end : c.in_ok-end.end ≡ c.in_ok-first.first + c.args.count = search rules in
    let below : c.in_ok-first.first + c.args.count ≤ 2 ^ 52 = omega (arith, end, c.if-end.false) in
    run_at c.args.rule c.args.start c.in_ok-first.first c.args.count first c.if-start-ne0.false below
