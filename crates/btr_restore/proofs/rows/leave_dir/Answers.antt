use Rattle.std.proofs.Common.{refl}
use Rattle.btr_restore.proofs.Emitting.{row_dry, row_whole, row_broke}
use Rattle.btr_restore.proofs.Rans.{wrote_refused}
use Rattle.btr_restore.proofs.rows.leave_dir.Goals as goal

pub returns-then-plan-clause-wrote : goal.returns-then-plan-clause-wrote
returns-then-plan-clause-wrote g c text calls = record { did = row_dry _ _ refl _ text c.if-plan.true; sink_calls = refl; out_calls = refl; stops = tt }

pub returns-in-Ok-clause-wrote : goal.returns-in-Ok-clause-wrote
returns-in-Ok-clause-wrote g c text calls =
    record { did = row_whole _ _ refl _ text _ c.if-plan.false c.in-Ok.ensures.step; sink_calls = c.in-Ok.ensures.account; out_calls = refl; stops = tt }

pub returns-in-Err-clause-wrote : goal.returns-in-Err-clause-wrote
returns-in-Err-clause-wrote g c text calls =
    wrote_refused c.in-Err.error c.sink_stop.ensures c.in-Err.ensures.account
    (row_broke _ _ refl _ text _ _ c.in-Err.error c.if-plan.false c.sink_stop.ensures c.in-Err.ensures.step)
