use Rattle.std.proofs.Common.{refl, sym}
use Rattle.btr_restore.proofs.Emitting.{untold, told_whole, told_broke}
use Rattle.btr_restore.proofs.Stopping.{sinks_of_out, outs_of_out, out_stops}
use Rattle.btr_restore.proofs.telling.tell_unverified.Goals as goal

pub returns-then-not-plain : goal.returns-then-not-plain
returns-then-not-plain g c sink calls = record { did = untold _ _ sink _ (sym c.if-not-plain.true); sink_calls = refl; out_calls = refl; stops = tt }

pub returns-in-Ok : goal.returns-in-Ok
returns-in-Ok g c sink calls =
    record { did = told_whole _ _ sink _ _ (sym c.if-not-plain.false) c.in-Ok.ensures.text; sink_calls = refl; out_calls = c.in-Ok.ensures.account; stops = tt }

pub returns-in-Err : goal.returns-in-Err
returns-in-Err g c sink calls = record {
  did = told_broke _ _ sink _ _ _ c.in-Err.error (sym c.if-not-plain.false) c.out_stop.ensures c.in-Err.ensures.text;
  sink_calls = sinks_of_out (Unit {0}) calls _ c.in-Err.error c.out_stop.ensures;
  out_calls = outs_of_out (Unit {0}) (Unit {0}) _ _ _ c.in-Err.error c.out_stop.ensures c.in-Err.ensures.account;
  stops = out_stops (Unit {0}) _ c.in-Err.error c.out_stop.ensures;
}
