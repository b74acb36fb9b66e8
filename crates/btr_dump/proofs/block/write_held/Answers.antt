use Rattle.std.proofs.Common.{◌≤◌, Err, length, sym, subst, arith}
use Rattle.btr_prog.specs.Prog.{exec}
use Rattle.btr_walk.specs.Reading.{unread_by}
use Rattle.btr_dump.specs.Pieces.{held_block, held_in}
use Rattle.btr_dump.specs.Showing.{ShowsText}
use Rattle.btr_dump.proofs.Blocks.{held_cut, held_long}
use Rattle.btr_dump.proofs.block.write_held.Goals as goal

pub returns-in-Err-write_block-clause-text : goal.returns-in-Err-write_block-clause-text
returns-in-Err-write_block-clause-text g c = λ layout before now seen B.
    let block = c.args.block.now in
    let long : 101 ≤ length block = omega arith in
    subst (λ e. ShowsText (unread_by layout before now) seen (exec B (held_block c.args.kind c.args.addr block (held_in block)))
    (g.O.Out.text c.args.out.now) (g.O.Out.text c.write_block.new.out) c.args.text.now c.write_block.new.text (Err e)) (sym c.stop_of.ensures)
    (held_cut layout before now seen B c.args.kind c.args.addr block (held_in block) c.in-Ok.field-0 (g.O.Out.text c.args.out.now)
    (g.O.Out.text c.write_block.new.out) c.args.text.now c.write_block.new.text c.in-Err-write_block.refusal
    (held_long block c.in-Ok.field-0 long c.in-Ok.ensures.answer) c.in-Err-write_block.ensures.text)
