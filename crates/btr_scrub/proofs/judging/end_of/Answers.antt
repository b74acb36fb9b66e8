use Rattle.std.proofs.Common.{Err, sym, ap, ◌∙◌, arith}
use Rattle.btr_scrub.proofs.Common.{chunk_at, facts}
use Rattle.btr_scrub.proofs.Placing.{crosses_there, ends_inside, no_chunk, not_in_chunk}
use Rattle.btr_scrub.proofs.judging.end_of.Goals as goal

pub returns-in_default : goal.returns-in_default
returns-in_default c =
    let layout = c.args.store.now.layout in
    no_chunk layout c.args.from c.args.want.now c.addr-addr.result c.addr-addr.ensures
    (c.in_default.ensures.chunk ∙ ap (λ cs. chunk_at cs c.addr-addr.result) c.chunks.ensures)

pub returns-in-Err-Unmapped : goal.returns-in-Err-Unmapped
returns-in-Err-Unmapped c =
    let layout = c.args.store.now.layout in
    not_in_chunk layout c.args.from c.args.want.now c.addr-addr.result c.addr-addr.ensures c.in-Some.chunk.now c.len_of-len.result
    (c.in-Some.ensures.chunk ∙ ap (λ cs. chunk_at cs c.addr-addr.result) c.chunks.ensures)
    (c.len_of-len.ensures layout.setting (sym c.requires)) (ap Err (sym c.in-Err-Unmapped.field-0-is) ∙ c.in-Err-Unmapped.ensures.value)

pub returns-in-Err-Crosses : goal.returns-in-Err-Crosses
returns-in-Err-Crosses c =
    let layout = c.args.store.now.layout in
    crosses_there layout c.args.from c.args.want.now c.addr-addr.result c.addr-addr.ensures c.in-Some.chunk.now c.len_of-len.result
    (c.in-Some.ensures.chunk ∙ ap (λ cs. chunk_at cs c.addr-addr.result) c.chunks.ensures)
    (c.len_of-len.ensures layout.setting (sym c.requires)) (ap Err (sym c.in-Err-Crosses.field-0-is) ∙ c.in-Err-Crosses.ensures.value)

pub overflow_add-result : goal.overflow_add-result
overflow_add-result c =
    let chunk = c.in-Some.chunk.now in
    let ends = ends_inside chunk c.addr-addr.result c.len_of-len.result c.in-Ok.field-0 (sym c.in-Ok.ensures.value) in
    omega (arith, ends, (facts chunk c.in-Some.ensures.sound).in_range)
