use Rattle.std.proofs.Common.{◌∙◌, ap}
use Rattle.btr_text.proofs.Writing.{cut_flushing, writes_at_once, cut_writes}
use Rattle.btr_text.proofs.buffer.TextBuffer.add_behind.Goals as goal

pub returns-in_err-flush-clause-text : goal.returns-in_err-flush-clause-text
returns-in_err-flush-clause-text g c =
    let f = c.in_err-flush.ensures in
    cut_writes c.from_residual.result c.from_residual.ensures.0
    (cut_flushing (g.O.Out.text c.args.out.now) (g.O.Out.text c.flush.new.out) c.args.self.now c.flush.new.self c.args.bytes.now f.text.0 f.text.1 f.empty)

pub returns-clause-text : goal.returns-clause-text
returns-clause-text g c =
    let f = c.in_ok-flush.ensures in
    writes_at_once (g.O.Out.text c.args.out.now) (g.O.Out.text c.flush.new.out) (g.O.Out.text c.put.new.self) c.args.self.now
    c.try_extend_from_slice.new.self.items c.args.bytes.now c.put.result f.text
    (ap (λ v. v.items) c.in-Err.ensures.err ∙ c.self.view_is ∙ f.empty) c.put.ensures.text
