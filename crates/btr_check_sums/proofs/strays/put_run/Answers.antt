use Rattle.std.proofs.Common.{◌≡◌, ℕ, Bool, filter_map, ap, ◌∙◌}
use Rattle.std.proofs.lemmas.Result.{on_ok_weaker}
use Rattle.btr_findings.specs.declared.sector_rule.SectorRule.TheVariants.{Stray}
use Rattle.btr_findings.specs.Sectors.{sectors}
use Rattle.btr_findings.proofs.Adding.{adds_as}
use Rattle.btr_check_space.specs.AddressRanges.{is_held_from}
use Rattle.btr_check_sums.specs.Broken.{broken}
use Rattle.btr_check_sums.specs.Sums.{run_sectors, sum_stray}
use Rattle.btr_check_sums.proofs.Covered.{data_held}
use Rattle.btr_check_sums.proofs.strays.put_run.Goals as goal

pub returns : goal.returns
returns c = λ extents same.
    let run = c.args.run.now in
    let ranges = c.args.ranges.now in
    let rule = broken Stray (is_held_from 4096 ranges) in
    let same_findings : filter_map rule (sectors c.from-start.result run.count) ≡ filter_map (sum_stray extents) (run_sectors run) =
    ap (λ n. filter_map rule (sectors n run.count)) c.from-start.ensures
    ∙ ap (λ (keeps : ℕ → Bool). filter_map (broken Stray keeps) (run_sectors run)) (λ i sector. data_held sector extents ranges same i) in
    on_ok_weaker c.put_broken.result
    (λ more. adds_as (filter_map rule (sectors c.from-start.result run.count)) (filter_map (sum_stray extents) (run_sectors run)) c.args.found.now
    c.put_broken.new.found same_findings more)
    c.put_broken.ensures
