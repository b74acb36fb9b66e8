use Rattle.btr_walk.specs.Reading.{unread_by}
use Rattle.btr_walk.specs.Showing.{item_of}
use Rattle.btr_text.specs.Pieces.{text_of}
use Rattle.btr_dump.proofs.Rooting.{none_written, broken_written, root_written}
use Rattle.btr_dump.proofs.lines.write_item.Goals as goal

pub returns-then-found-clause-text : goal.returns-then-found-clause-text
returns-then-found-clause-text g c = λ layout before now seen B.
    none_written (unread_by layout before now) seen B (item_of c.args.found.now) (g.O.Out.text c.args.out.now) c.args.text.now c.if-found.true

pub returns-in-Err-clause-text : goal.returns-in-Err-clause-text
returns-in-Err-clause-text g c = λ layout before now seen B.
    broken_written (unread_by layout before now) seen B (item_of c.args.found.now) (g.O.Out.text c.args.out.now) c.args.text.now c.if-found.false
    c.in-Err.field-0 c.in-Err.ensures

pub returns-in-Ok-clause-text : goal.returns-in-Ok-clause-text
returns-in-Ok-clause-text g c = λ layout before now seen B.
    root_written (unread_by layout before now) seen B (item_of c.args.found.now) (text_of c.root_line-line.result) (g.O.Out.text c.args.out.now)
    (g.O.Out.text c.write_line.new.out) c.args.text.now c.write_line.new.text c.write_line.result c.if-found.false c.in-Ok.root c.in-Ok.ensures
    c.root_line-line.ensures (c.write_line.ensures.text layout before now seen B)
