use Rattle.std.proofs.Common.{sym, ◌∙◌}
use Rattle.btr_chunk.proofs.Tables.{same-there, same-absent}
use Rattle.btr_chunk.proofs.index.has_same.Goals as goal

pub returns-in-Some : goal.returns-in-Some
returns-in-Some c =
    c.is_same.ensures ∙ same-there c.args.chunks.now c.args.chunk.now c.in-Some.there.now c.requires.chunks c.requires.ordered (sym c.in-Some.ensures.value)

pub returns-in-None : goal.returns-in-None
returns-in-None c = sym (same-absent c.args.chunks.now c.args.chunk.now c.requires.chunks c.requires.ordered (sym c.in-None.ensures.value))
