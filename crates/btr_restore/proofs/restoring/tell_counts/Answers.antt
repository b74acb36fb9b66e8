use Rattle.std.proofs.Common.{refl}
use Rattle.btr_files.specs.declared.counts.Counts.{Counts}
use Rattle.btr_prog.specs.Prog.{Emit, Return}
use Rattle.btr_listing.specs.Lines.{counts_line}
use Rattle.btr_restore.specs.Restoring.{Emits}
use Rattle.btr_listing.specs.Step.{Line}
use Rattle.btr_restore.proofs.Emitting.{as_out, breaks_line, emits_line}
use Rattle.btr_restore.proofs.Stopping.{out_stops, outs_of_out, sinks_of_out}
use Rattle.btr_restore.proofs.restoring.tell_counts.Goals as goal

pub returns-in-Ok : goal.returns-in-Ok
returns-in-Ok g c sink calls =
    record {
      did = emits_line (counts_line c.args.counts.now) c.args.counts.now sink _ _ c.in-Ok.ensures.text;
      sink_calls = refl;
      out_calls = c.in-Ok.ensures.account;
      stops = tt;
    }

pub returns-in-Err : goal.returns-in-Err
returns-in-Err g c sink calls = record {
  did = as_out (λ answer. Emits (Emit (Line (counts_line c.args.counts.now)) (Return c.args.counts.now)) sink sink (g.O.Out.text c.args.out.now)
      (g.O.Out.text c.put_counts.new.out) answer) _ c.in-Err.error c.out_stop.ensures
      (breaks_line (counts_line c.args.counts.now) (Return c.args.counts.now) sink _ _ c.in-Err.ensures.text);
  sink_calls = sinks_of_out Counts calls _ c.in-Err.error c.out_stop.ensures;
  out_calls = outs_of_out (Unit {0}) Counts _ _ _ c.in-Err.error c.out_stop.ensures c.in-Err.ensures.account;
  stops = out_stops Counts _ c.in-Err.error c.out_stop.ensures;
}
