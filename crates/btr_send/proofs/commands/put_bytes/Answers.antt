use Rattle.std.proofs.Common.{refl, take}
use Rattle.btr_prog.specs.Prog.{Return}
use Rattle.btr_listing.specs.Step.{Bytes}
use Rattle.btr_restore.specs.Restoring.{Emits}
use Rattle.btr_restore.proofs.Emitting.{as_sink}
use Rattle.btr_restore.proofs.Rans.{emits_part, wrote_refused, wrote_step}
use Rattle.btr_send.specs.Sending.{tells}
use Rattle.btr_send.proofs.commands.put_bytes.Goals as goal

pub returns-in-Ok-clause-wrote : goal.returns-in-Ok-clause-wrote
returns-in-Ok-clause-wrote g c text calls = wrote_step (Bytes c.args.bytes.now) tt refl c.in-Ok.ensures.step c.in-Ok.ensures.account

pub returns-in-Err-clause-wrote : goal.returns-in-Err-clause-wrote
returns-in-Err-clause-wrote g c text calls =
    let cut = c.in-Err.ensures.step in
    wrote_refused c.in-Err.error c.sink_stop.ensures c.in-Err.ensures.account
    (as_sink (λ answer. Emits (tells c.args.bytes.now (Return tt)) (g.T.TreeSink.sink c.args.tree.now) (g.T.TreeSink.sink c.put.new.self) text text answer) _
    c.in-Err.error c.sink_stop.ensures
    (emits_part (Bytes c.args.bytes.now) _ _ text (Bytes (take cut.0 c.args.bytes.now)) cut.0 (Return tt) refl refl cut.1))
