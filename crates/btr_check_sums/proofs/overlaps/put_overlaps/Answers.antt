use Rattle.std.proofs.Common.{◌≤◌, length, take, flat_map, filter_map, ap, ◌∙◌}
use Rattle.std.proofs.lemmas.List.{take_all}
use Rattle.btr_items.specs.declared.sum_run.SumRun.{SumRun}
use Rattle.btr_findings.proofs.Adding.{adds_as}
use Rattle.btr_check_sums.specs.Sums.{sum_overlap, run_sectors, summed}
use Rattle.btr_check_sums.proofs.Sectors.{rows_of}
use Rattle.btr_check_sums.proofs.overlaps.put_overlaps.Goals as goal

pub returns : goal.returns
returns c =
    let runs = c.args.runs.now in
    let rule = sum_overlap c.args.runs.now in
    let i = c.loop-run.run-index in
    let long : length runs ≤ i = c.loop-run-test.false in
    adds_as (flat_map (λ (run : SumRun). filter_map rule (run_sectors run)) (take i runs)) (filter_map rule (summed runs)) c.args.found.now c.loop-run.found
    (ap (flat_map (λ (run : SumRun). filter_map rule (run_sectors run))) (take_all i runs long) ∙ rows_of rule run_sectors runs)
    c.loop-run.invariant
