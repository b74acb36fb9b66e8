use Rattle.btr_text.proofs.Writing.{wrote_put, cut_puts}
use Rattle.btr_text.proofs.put.put_pieces.Goals as goal

pub returns-in_err-push_all-clause-text : goal.returns-in_err-push_all-clause-text
returns-in_err-push_all-clause-text g c = cut_puts c.from_residual.result c.from_residual.ensures.0 c.new-buffer.ensures c.in_err-push_all.ensures.text

pub returns-clause-text : goal.returns-clause-text
returns-clause-text g c = wrote_put (g.O.Out.text c.flush.new.out) c.flush.result c.new-buffer.ensures c.in_ok-push_all.ensures.text c.flush.ensures.text
