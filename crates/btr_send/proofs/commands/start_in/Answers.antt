use Rattle.std.proofs.Common.{refl}
use Rattle.btr_listing.specs.Step.{Start}
use Rattle.btr_restore.proofs.Rans.{wrote_refused, wrote_step}
use Rattle.btr_send.proofs.Putting.{emits_nowhere}
use Rattle.btr_send.proofs.commands.start_in.Goals as goal

pub returns-in-Ok-clause-wrote : goal.returns-in-Ok-clause-wrote
returns-in-Ok-clause-wrote g c text calls = wrote_step (Start c.args.dest.now) tt refl c.in-Ok.ensures.step c.in-Ok.ensures.account

pub returns-in-Err-clause-wrote : goal.returns-in-Err-clause-wrote
returns-in-Err-clause-wrote g c text calls =
    wrote_refused c.in-Err.error c.sink_stop.ensures c.in-Err.ensures.account
    (emits_nowhere _ _ _ text _ c.in-Err.error c.sink_stop.ensures c.in-Err.ensures.step)
