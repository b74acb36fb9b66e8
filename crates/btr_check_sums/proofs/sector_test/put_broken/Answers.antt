use Rattle.std.proofs.Common.{◌≡◌, ℕ, ◌+◌, ◌*◌, Bool, filter_map, ap, subst, arith}
use Rattle.btr_findings.specs.Findings.{Adds}
use Rattle.btr_findings.specs.Sectors.{sectors}
use Rattle.btr_check_sums.specs.Broken.{broken, broken_if}
use Rattle.btr_check_sums.proofs.Breaking.{broken_more}
use Rattle.btr_check_sums.proofs.sector_test.put_broken.Goals as goal

pub loop-done-preserved : goal.loop-done-preserved
loop-done-preserved g c =
    let keeps : ℕ → Bool = g.T.SectorTest.keeps c.args.test.now in
    let start = c.args.start in
    let done = c.loop-done.done in
    let more = c.sectors_before-more.result in
    let held = c.reach-reach.result.held in
    let here : start + c.from.result * 4096 ≡ start + done * 4096 = ap (λ n. start + n * 4096) c.from.ensures in
    let added : Adds (broken_if held c.args.rule (start + done * 4096) more) c.loop-done.found c.put_if.new.found =
    subst (λ (n : ℕ). Adds (broken_if held c.args.rule n more) c.loop-done.found c.put_if.new.found) here c.in_ok-put_if.ensures in (
      omega (arith, c.loop-done-test.true, c.sectors_before-more.ensures.most),
      broken_more c.args.rule keeps start done more held c.args.found.now c.loop-done.found c.put_if.new.found
          (λ i below. c.reach-reach.ensures.same (start + done * 4096 + i * 4096) (omega (arith, here))
          (omega (arith, here, c.sectors_before-more.ensures.before i below)))
          c.loop-done.invariant.1 added,
    )

pub returns : goal.returns
returns g c =
    let keeps : ℕ → Bool = g.T.SectorTest.keeps c.args.test.now in
    let all : c.loop-done.done ≡ c.args.count = omega (arith, c.loop-done-test.false, c.loop-done.invariant.0) in
    subst (λ (n : ℕ). Adds (filter_map (broken c.args.rule keeps) (sectors c.args.start n)) c.args.found.now c.loop-done.found) all c.loop-done.invariant.1
