use Rattle.std.proofs.Common.{refl}
use Rattle.btr_restore.specs.Journey.{Treated}
use Rattle.btr_restore.proofs.Emitting.{left_out, left_broke}
use Rattle.btr_restore.proofs.Stopping.{sinks_of_out, outs_of_out, out_stops}
use Rattle.btr_restore.proofs.telling.leave_out.Goals as goal

pub returns-in-Ok-clause-wrote : goal.returns-in-Ok-clause-wrote
returns-in-Ok-clause-wrote g c sink calls =
    record {
      did = left_out _ c.args.counts.now sink _ _ c.more-counts.result c.more-counts.ensures c.in-Ok.ensures.text;
      sink_calls = refl;
      out_calls = c.in-Ok.ensures.account;
      stops = tt;
    }

pub returns-in-Err-clause-wrote : goal.returns-in-Err-clause-wrote
returns-in-Err-clause-wrote g c sink calls = record {
  did = left_broke _ c.args.counts.now sink _ _ _ c.in-Err.error c.out_stop.ensures c.in-Err.ensures.text;
  sink_calls = sinks_of_out Treated calls _ c.in-Err.error c.out_stop.ensures;
  out_calls = outs_of_out (Unit {0}) Treated _ _ _ c.in-Err.error c.out_stop.ensures c.in-Err.ensures.account;
  stops = out_stops Treated _ c.in-Err.error c.out_stop.ensures;
}
