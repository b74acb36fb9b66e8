use Rattle.std.proofs.Common.{◌≡◌, ◌+◌, ◌*◌, ◌∷◌, [], sym, ap, ◌∙◌, arith}
use Rattle.std.proofs.lemmas.Result.{on_ok_weaker}
use Rattle.std.specs.Option.{option_to_list}
use Rattle.btr_findings.specs.declared.sector_rule.SectorRule.TheVariants.{Lost}
use Rattle.btr_findings.specs.declared.kind.Kind.TheVariants as kind
use Rattle.btr_findings.specs.Findings.{found, shown_sum, unless}
use Rattle.btr_findings.specs.Sectors.{sector_findings}
use Rattle.btr_findings.proofs.Adding.{adds_as}
use Rattle.btr_check.proofs.readable.put_lost.Goals as goal

pub returns : goal.returns
returns c =
    let sector = c.args.sector in
    let addr : shown_sum (c.from.result + 0 * 4096) ≡ sector = omega (arith, c.from.ensures, c.ranges.sector) in
    let one : sector_findings Lost c.from.result 1 ≡ found kind.DataLost (sector ∷ []) ∷ [] = ap (λ n. found kind.DataLost (n ∷ []) ∷ []) addr in
    let lost : sector_findings Lost c.from.result 1 ≡ option_to_list (unless c.args.readable (found kind.DataLost (sector ∷ []))) = one
    ∙ ap (λ b. option_to_list (unless b (found kind.DataLost (sector ∷ [])))) (sym c.if-readable.false) in
    on_ok_weaker c.put_sectors.result (λ more. adds_as (sector_findings Lost c.from.result 1)
    (option_to_list (unless c.args.readable (found kind.DataLost (sector ∷ [])))) c.args.found.now c.put_sectors.new.found lost more) c.put_sectors.ensures
