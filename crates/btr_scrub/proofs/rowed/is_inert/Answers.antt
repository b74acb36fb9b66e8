use Rattle.std.proofs.Common.{◌≡◌, true, sym, ap, ◌∙◌}
use Rattle.btr_scrub.proofs.Common.{Chunk, all_at, flagged, has_doubtful, is_plain, not-true, same_Some, sought_of}
use Rattle.btr_scrub.proofs.InertRows.{sought_of_row}
use Rattle.btr_scrub.proofs.Lists.{all_from}
use Rattle.btr_scrub.proofs.rowed.is_inert.Goals as goal

pub returns-then-are_plain : goal.returns-then-are_plain
returns-then-are_plain c none r of fails =
    let layout = c.args.store.now.layout in
    let devices = layout.devices in
    let chunk : Chunk = c.in-Some.chunk.now in
    let same = same_Some chunk r.chunk ((rw c.chunks.ensures at c.in-Some.ensures.chunk) ∙ of.stripe.chunk) in
    let plain = c.are_plain.ensures c.if-are_plain.true in
    record {
      plain = all_from (λ t. is_plain t.want ≡ true) r.blocks (λ t i.
          let w = sought_of_row layout c.args.wants.now r.blocks of.blocks t i in
          ap is_plain (sought_of layout w.0 t w.2).want_is ∙ all_at (λ w. is_plain w ≡ true) c.args.wants.now w.0 plain w.1);
      sure = ap (λ f. has_doubtful devices f r.chunk) fails ∙ ap (has_doubtful devices (flagged c.args.failing.now)) (sym same)
          ∙ sym c.has_doubtful.ensures ∙ not-true c.has_doubtful.result none;
    }
