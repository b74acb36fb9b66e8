use Rattle.std.proofs.Common.{◌≡◌, ℕ, ◌+◌, Bool, filter_map, leb, ap, ◌∙◌}
use Rattle.std.proofs.lemmas.Result.{on_ok_weaker}
use Rattle.btr_findings.specs.declared.sector_rule.SectorRule.TheVariants.{Overlap}
use Rattle.btr_findings.specs.Sectors.{sectors}
use Rattle.btr_findings.proofs.Adding.{adds_as}
use Rattle.btr_check_sums.specs.Broken.{broken}
use Rattle.btr_check_sums.specs.Ranks.{rank}
use Rattle.btr_check_sums.specs.Sums.{run_sectors, sum_overlap}
use Rattle.btr_check_sums.proofs.Counts.{summed_once}
use Rattle.btr_check_sums.proofs.overlaps.put_run.Goals as goal

pub returns : goal.returns
returns c = λ runs bounds.
    let run = c.args.run.now in
    let starts = c.args.starts.now in
    let ends = c.args.ends.now in
    let rule = broken Overlap (λ sector. leb (rank starts sector) (rank ends sector + 1)) in
    let same_findings : filter_map rule (sectors c.from-start.result run.count) ≡ filter_map (sum_overlap runs) (run_sectors run) =
    ap (λ n. filter_map rule (sectors n run.count)) c.from-start.ensures
    ∙ ap (λ (keeps : ℕ → Bool). filter_map (broken Overlap keeps) (run_sectors run)) (λ i sector. summed_once sector runs starts ends bounds i) in
    on_ok_weaker c.put_broken.result
    (λ more. adds_as (filter_map rule (sectors c.from-start.result run.count)) (filter_map (sum_overlap runs) (run_sectors run)) c.args.found.now
    c.put_broken.new.found same_findings more)
    c.put_broken.ensures
