use Rattle.std.proofs.Common.{ℕ, List, Ok, Err, drop, subst, take}
use Rattle.btr_prog.specs.Prog.{Return}
use Rattle.btr_volume.specs.Lookup.{Program}
use Rattle.btr_listing.specs.Step.{Bytes, Step}
use Rattle.btr_restore.specs.Running.{Wrote, outside}
use Rattle.btr_restore.proofs.Rans.{wrote_passed}
use Rattle.btr_send.specs.Command.{write}
use Rattle.btr_send.specs.Sending.{behind, tells, writes}
use Rattle.btr_send.proofs.Putting.{step_halt, step_then, writes_last, writes_more}
use Rattle.btr_send.proofs.commands.+put_writes.Goals as goal

pub returns-then-part-le4096-clause-wrote : goal.returns-then-part-le4096-clause-wrote
returns-then-part-le4096-clause-wrote g t c text calls =
    subst (λ (p : Program Step (Unit {0})). Wrote p (outside (g.T.TreeSink.sink c.args.tree.now) (g.T.TreeSink.account c.args.tree.now) text calls) (outside
    (g.T.TreeSink.sink c.put_write.new.tree) (g.T.TreeSink.account c.put_write.new.tree) text calls) c.put_write.result)
    (writes_last c.args.path.now c.args.offset c.args.part.now c.requires.some c.if-part-le4096.true) (c.put_write.ensures.wrote text calls)

pub returns-clause-wrote : goal.returns-clause-wrote
returns-clause-wrote g t c text calls =
    let x = outside (g.T.TreeSink.sink c.args.tree.now) (g.T.TreeSink.account c.args.tree.now) text calls in
    let y = outside (g.T.TreeSink.sink c.put_write-2.new.tree) (g.T.TreeSink.account c.put_write-2.new.tree) text calls in
    let z = outside (g.T.TreeSink.sink c.put_writes.new.tree) (g.T.TreeSink.account c.put_writes.new.tree) text calls in
    subst (λ (p : Program Step (Unit {0})). Wrote p x z c.put_writes.result) (writes_more c.args.path.now c.args.offset c.args.part.now c.if-part-le4096.false)
    (step_then (Bytes (write c.args.path.now c.args.offset (take 4096 c.args.part.now))) (writes c.args.path.now (behind c.args.offset 4096)
    (drop 4096 c.args.part.now)) x y z c.put_writes.result
    (subst (λ (b : List ℕ). Wrote (tells (write c.args.path.now c.args.offset b) (Return tt)) x y (Ok tt)) c.split_at.ensures.front
    (c.in_ok-put_write.ensures.wrote text calls))
    (subst (λ (n : ℕ). Wrote (writes c.args.path.now n (drop 4096 c.args.part.now)) y z c.put_writes.result) c.behind.ensures
    (subst (λ (b : List ℕ). Wrote (writes c.args.path.now c.behind.result b) y z c.put_writes.result) c.split_at.ensures.back
    (c.put_writes.ensures.wrote text calls))))

pub returns-in_err-put_write-clause-wrote : goal.returns-in_err-put_write-clause-wrote
returns-in_err-put_write-clause-wrote g t c text calls =
    let x = outside (g.T.TreeSink.sink c.args.tree.now) (g.T.TreeSink.account c.args.tree.now) text calls in
    let y = outside (g.T.TreeSink.sink c.put_write-2.new.tree) (g.T.TreeSink.account c.put_write-2.new.tree) text calls in
    wrote_passed _ c.from_residual.ensures.1
    (subst (λ (p : Program Step (Unit {0})). Wrote p x y (Err c.in_err-put_write.field-0.0))
    (writes_more c.args.path.now c.args.offset c.args.part.now c.if-part-le4096.false)
    (step_halt (Bytes (write c.args.path.now c.args.offset (take 4096 c.args.part.now))) (writes c.args.path.now (behind c.args.offset 4096)
    (drop 4096 c.args.part.now)) x y c.in_err-put_write.field-0.0
    (subst (λ (b : List ℕ). Wrote (tells (write c.args.path.now c.args.offset b) (Return tt)) x y (Err c.in_err-put_write.field-0.0)) c.split_at.ensures.front
    (c.in_err-put_write.ensures.wrote text calls))))
