use Rattle.std.proofs.Common.{is_none, not, sym, ap, ◌∙◌}
use Rattle.btr_scrub.proofs.Common.{chunk_at}
use Rattle.btr_scrub.proofs.Sieving.{passes_inert}
use Rattle.btr_scrub.proofs.sieve.pass_inert.Goals as goal

pub returns-then-not-has_older : goal.returns-then-not-has_older
returns-then-not-has_older c =
    let layout = c.args.store.now.layout in
    passes_inert layout c.requires.table c.args.want.now c.in-Some.chunk.now c.args.blocks.now c.pass_plain.new.self
    (c.in-Some.ensures.chunk ∙ ap (λ cs. chunk_at cs c.addr.result) c.chunks.ensures ∙ ap (chunk_at layout.chunks) c.addr.ensures)
    (ap is_none (sym c.mirrors.ensures) ∙ ap not (sym c.is_some.ensures ∙ c.if-is_some.true))
    (sym c.has_older.ensures ∙ c.if-not-has_older.true) c.pass_plain.ensures
