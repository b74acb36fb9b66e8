use Rattle.std.proofs.Common.{◌≡◌, ◌+◌, ◌*◌, ℕ, ap, subst, ◌∙◌, arith}
use Rattle.btr_findings.specs.Findings.{Adds, shown_sum}
use Rattle.btr_findings.specs.Sectors.{sector_finding, sector_findings}
use Rattle.btr_findings.proofs.Setting.{sectors_more}
use Rattle.btr_findings.proofs.found.put_each.Goals as goal

pub loop-i-preserved : goal.loop-i-preserved
loop-i-preserved c =
    let addr : c.shown.result ≡ shown_sum (c.args.start + c.loop-i.i * 4096) = omega (arith, c.shown.ensures, c.saturating_add-addr.ensures, c.from.ensures) in
    let one : c.finding.result ≡ sector_finding c.args.rule (shown_sum (c.args.start + c.loop-i.i * 4096)) =
    c.finding.ensures ∙ ap (sector_finding c.args.rule) addr in
    sectors_more c.args.rule c.args.start c.loop-i.i c.finding.result c.args.found.now c.loop-i.found c.insert.new.found one c.loop-i.invariant
    c.in_ok-insert.ensures

pub returns : goal.returns
returns c =
    let all : c.loop-i.i ≡ c.args.count = omega (arith, c.loop-i-test.false, c.loop-i.auto.i-end) in
    subst (λ (n : ℕ). Adds (sector_findings c.args.rule c.args.start n) c.args.found.now c.loop-i.found) all c.loop-i.invariant
