use Rattle.std.proofs.Common.{sym, ap, ◌∙◌}
use Rattle.btr_scrub.proofs.Common.{holds}
use Rattle.btr_scrub.proofs.InRows.{has_row}
use Rattle.btr_scrub.proofs.Positions.{find_at}
use Rattle.btr_scrub.proofs.rowed.collect_row.Goals as goal

pub unreachable-requires-in_default-row_in : goal.unreachable-requires-in_default-row_in
unreachable-requires-in_default-row_in c =
    let chunk = c.in-Some.chunk.now in
    let f = find_at (λ k. holds k c.addr.result) c.chunks.result.now chunk (sym c.in-Some.ensures.chunk) in
    has_row chunk c.addr-2.result (ap (holds chunk) (c.addr-2.ensures ∙ sym c.addr.ensures) ∙ f.2) (sym c.in_default-row_in.ensures)
