use Rattle.std.proofs.Common.{refl}
use Rattle.btr_listing.specs.Step.{Done}
use Rattle.btr_restore.proofs.Rans.{wrote_refused, wrote_step}
use Rattle.btr_send.proofs.Putting.{emits_nowhere}
use Rattle.btr_send.proofs.commands.finish_file.Goals as goal

pub returns-in-Ok : goal.returns-in-Ok
returns-in-Ok g c text calls = wrote_step Done tt refl c.in-Ok.ensures.step c.in-Ok.ensures.account

pub returns-in-Err : goal.returns-in-Err
returns-in-Err g c text calls =
    wrote_refused c.in-Err.error c.sink_stop.ensures c.in-Err.ensures.account
    (emits_nowhere _ _ _ text _ c.in-Err.error c.sink_stop.ensures c.in-Err.ensures.step)
