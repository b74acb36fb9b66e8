use Rattle.std.proofs.Common.{◌≡◌, ℕ, ◌+◌, ◌/◌, Bool, filter_map, ap, ◌∙◌, arith}
use Rattle.std.proofs.lemmas.Result.{on_ok_weaker}
use Rattle.btr_findings.specs.declared.sector_rule.SectorRule.TheVariants.{Missing}
use Rattle.btr_findings.specs.Sectors.{sectors}
use Rattle.btr_findings.proofs.Adding.{adds_as}
use Rattle.btr_check_space.specs.AddressRanges.{is_held_from}
use Rattle.btr_check_sums.specs.Broken.{broken}
use Rattle.btr_check_sums.specs.Sums.{len_in_chunk, used_missing, used_sectors}
use Rattle.btr_check_sums.proofs.Covered.{covered}
use Rattle.btr_check_sums.proofs.missing.put_range.Goals as goal

pub returns : goal.returns
returns c = λ runs same.
    let range = c.args.range.now in
    let tree = c.args.tree in
    let sums = c.args.places.now.sums.now in
    let chunks = c.args.places.now.chunks.now in
    let rule = broken (Missing tree range.inode) (is_held_from 1 sums) in
    let start : c.from.result + c.from-2.result ≡ range.addr + range.skip = omega (arith, c.from.ensures, c.from-2.ensures) in
    let count : c.len_in_chunk-count.result / 4096 ≡ len_in_chunk chunks range / 4096 = ap (λ (n : ℕ). n / 4096) c.len_in_chunk-count.ensures in
    let same_findings : filter_map rule (sectors (c.from.result + c.from-2.result) (c.len_in_chunk-count.result / 4096)) ≡ used_missing chunks runs tree range =
    ap (λ n. filter_map rule (sectors n (c.len_in_chunk-count.result / 4096))) start
    ∙ ap (λ n. filter_map rule (sectors (range.addr + range.skip) n)) count
    ∙ ap (λ (keeps : ℕ → Bool). filter_map (broken (Missing tree range.inode) keeps) (used_sectors chunks range))
    (λ i sector. covered sector runs sums same i) in
    on_ok_weaker c.put_broken.result
    (λ more. adds_as (filter_map rule (sectors (c.from.result + c.from-2.result) (c.len_in_chunk-count.result / 4096)))
    (used_missing chunks runs tree range) c.args.found.now c.put_broken.new.found same_findings more)
    c.put_broken.ensures
