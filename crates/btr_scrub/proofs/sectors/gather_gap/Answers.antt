use Rattle.std.proofs.Common.{◌+◌, ◌-◌, ◌^◌, ◌∙◌, ap}
use Rattle.std.specs.Prelude.{min}
use Rattle.btr_scrub.proofs.Gaps.{lists_gap}
use Rattle.btr_scrub.proofs.sectors.gather_gap.Goals as goal

pub returns : goal.returns
returns c =
    lists_gap c.push_plains.result c.args.gathered.now (record { list = c.push_plains.new.self; unchecked = c.saturating_add-gathered.result })
    c.args.addr c.args.count c.requires.some c.push_plains.ensures
    (c.saturating_add-gathered.ensures ∙ ap (λ n. min (c.args.gathered.now.unchecked + n) (2 ^ 64 - 1)) c.from.ensures)
