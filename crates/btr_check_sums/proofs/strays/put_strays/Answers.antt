use Rattle.std.proofs.Common.{◌≤◌, length, take, flat_map, filter_map, ap, ◌∙◌}
use Rattle.std.proofs.lemmas.List.{take_all}
use Rattle.btr_items.specs.declared.sum_run.SumRun.{SumRun}
use Rattle.btr_findings.proofs.Adding.{adds_as, adds_more_of}
use Rattle.btr_check_sums.specs.Sums.{sum_stray, run_sectors, summed}
use Rattle.btr_check_sums.proofs.Sectors.{rows_of}
use Rattle.btr_check_sums.proofs.strays.put_strays.Goals as goal

abbrev nothing : SumRun
nothing = record { start = 0; count = 0 }

pub loop-run-preserved : goal.loop-run-preserved
loop-run-preserved c =
    let extents = c.args.extents.now in
    adds_more_of (λ (run : SumRun). filter_map (sum_stray extents) (run_sectors run)) c.args.runs.now c.loop-run.run-index nothing c.args.found.now
    c.loop-run.found c.put_run.new.found c.loop-run-test.true
    c.loop-run.invariant (c.in_ok-put_run.ensures extents c.in_ok-ranges.ensures)

pub returns : goal.returns
returns c =
    let runs = c.args.runs.now in
    let rule = sum_stray c.args.extents.now in
    let i = c.loop-run.run-index in
    let long : length runs ≤ i = c.loop-run-test.false in
    adds_as (flat_map (λ (run : SumRun). filter_map rule (run_sectors run)) (take i runs)) (filter_map rule (summed runs)) c.args.found.now c.loop-run.found
    (ap (flat_map (λ (run : SumRun). filter_map rule (run_sectors run))) (take_all i runs long) ∙ rows_of rule run_sectors runs)
    c.loop-run.invariant
