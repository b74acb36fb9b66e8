use Rattle.std.proofs.Common.{ℕ, List, ◌∙◌, subst}
use Rattle.btr_prog.specs.Prog.{Return}
use Rattle.btr_restore.specs.Running.{Wrote, outside}
use Rattle.btr_restore.proofs.Rans.{wrote_memory}
use Rattle.btr_send.specs.Sending.{tells}
use Rattle.btr_send.proofs.Encoding.{filled_some}
use Rattle.btr_send.proofs.commands.put_end.Goals as goal

pub returns-in-Ok-clause-wrote : goal.returns-in-Ok-clause-wrote
returns-in-Ok-clause-wrote g c text calls =
    subst (λ (b : List ℕ). Wrote (tells b (Return tt)) (outside (g.T.TreeSink.sink c.args.tree.now) (g.T.TreeSink.account c.args.tree.now) text calls)
    (outside (g.T.TreeSink.sink c.put_bytes.new.tree) (g.T.TreeSink.account c.put_bytes.new.tree) text calls) c.put_bytes.result) (c.as_bytes.ensures
    ∙ c.in-Ok.ensures)
    (c.put_bytes.ensures.wrote text calls)

pub returns-in-Err-clause-wrote : goal.returns-in-Err-clause-wrote
returns-in-Err-clause-wrote g c text calls = wrote_memory _ _

pub put_bytes-requires-clause-some : goal.put_bytes-requires-clause-some
put_bytes-requires-clause-some g c = filled_some _ _ _ (c.as_bytes.ensures ∙ c.in-Ok.ensures)
