use Rattle.std.proofs.Common.{◌∙◌, sym, ap, arith}
use Rattle.btr_scrub.proofs.Common.{chunk_at}
use Rattle.btr_scrub.proofs.Placed.{placed_in}
use Rattle.btr_scrub.proofs.judging.placed_until.Goals as goal

pub returns : goal.returns
returns c = λ i lt. placed_in c.args.store.now.layout c.requires c.args.addr c.in-Some.chunk.now
    (sym (c.in-Some.ensures.chunk ∙ ap (λ cs. chunk_at cs c.args.addr) c.chunks.ensures)) (grind (arith, c.if-not-is_multiple_of.ensures)) i
    (omega (arith, lt, c.saturating_sub.ensures))
