use Rattle.std.proofs.Common.{arith}
use Rattle.btr_scrub.proofs.PlainRows.{passes_to}
use Rattle.btr_scrub.proofs.rowed.pass_to.Goals as goal

pub returns : goal.returns
returns c = passes_to c.args.chunk.now c.args.start c.pass_from-end.result c.in_ok-_row._row _ c.args.blocks.now c.again-ahead.result
    c.pass_from-end.new.self c.again-ahead.ensures c.pass_from-end.ensures (omega (arith, c.if-end-start.false)) c.in_ok-_row.ensures
    (omega (arith, c.if-count-eq0.false, c.saturating_sub-count.ensures, c.pass_from-end.ensures.ends))
    (omega (arith, c.saturating_sub-count.ensures, c.pass_from-end.ensures.ends)) c.pass_from-end.type_inv
