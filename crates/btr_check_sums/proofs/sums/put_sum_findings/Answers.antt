use Rattle.std.proofs.Common.{filter_map}
use Rattle.std.proofs.lemmas.Result.{on_ok_weaker}
use Rattle.btr_findings.proofs.Adding.{adds_then}
use Rattle.btr_check_sums.specs.Sums.{sum_overlap, sum_stray, summed}
use Rattle.btr_check_sums.proofs.sums.put_sum_findings.Goals as goal

pub returns : goal.returns
returns c =
    let runs = c.args.runs.now in
    let overlaps = filter_map (sum_overlap runs) (summed runs) in
    let strays = filter_map (sum_stray c.args.extents.now) (summed runs) in
    on_ok_weaker c.put_strays.result (λ more. adds_then overlaps strays c.args.found.now c.put_overlaps.new.found c.put_strays.new.found
    c.in_ok-put_overlaps.ensures more) c.put_strays.ensures
