use Rattle.std.proofs.Common.{Ok, subst, arith}
use Rattle.btr_volume.specs.Looking.{Judges}
use Rattle.btr_files.specs.Aheads.{item_reached}
use Rattle.btr_files.specs.Sums.{sum_found}
use Rattle.btr_files.proofs.GapSums.{gap_read}
use Rattle.btr_files.proofs.sums.summed.Goals as goal

pub returns-in-None-clause-gap : goal.returns-in-None-clause-gap
returns-in-None-clause-gap c =
    gap_read c.args.kind c.args.addr c.sectors_below.result c.max.result c.args.reach.now c.sectors_below.ensures
    (λ i some lt. grind (arith, some, lt, c.max.ensures))
    (subst (λ o. Judges (sum_found c.args.kind c.args.addr (item_reached c.args.reach.now)) (Ok o)) c.in-None.is c.in_ok-sum.ensures)
