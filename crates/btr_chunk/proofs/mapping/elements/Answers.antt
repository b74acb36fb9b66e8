use Rattle.std.proofs.Common.{◌-◌, ◌∙◌, sym, arith}
use Rattle.btr_chunk.proofs.Rule.{position-rows, reaches-rows}
use Rattle.btr_chunk.proofs.mapping.elements.Goals as goal

pub returns-clause-position : goal.returns-clause-position
returns-clause-position c =
    let chunk = c.args.chunk.now in
    rw (c.data_count-data.ensures.value, c.len.ensures) (position-rows chunk (c.args.addr - chunk.start) c.requires
    (sym c.is_striped.ensures ∙ c.if-not-is_striped.false) (omega arith))

pub returns-clause-reach : goal.returns-clause-reach
returns-clause-reach c =
    let chunk = c.args.chunk.now in
    let within = c.if-len-rest.false in
    rw (c.data_count-data.ensures.value, c.len.ensures) (reaches-rows chunk (c.args.addr - chunk.start) c.args.len c.requires
    (sym c.is_striped.ensures ∙ c.if-not-is_striped.false) (omega arith) (omega arith))
