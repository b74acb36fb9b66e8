use Rattle.std.proofs.Common.{◌∙◌, ap}
use Rattle.btr_text.proofs.Writing.{writes_from}
use Rattle.btr_text.proofs.buffer.TextBuffer.add.Goals as goal

pub returns-in-Err-clause-text : goal.returns-in-Err-clause-text
returns-in-Err-clause-text g c =
    writes_from (g.O.Out.text c.args.out.now) (g.O.Out.text c.add_behind.new.out) c.try_extend_from_slice.new.self.items c.args.self.now
    c.add_behind.new.self c.args.bytes.now c.add_behind.result
    (ap (λ v. v.items) c.in-Err.ensures.err ∙ c.self.view_is) c.add_behind.ensures.text
