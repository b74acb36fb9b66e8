-- What waits in a sink is stored before a stop is answered.
use Rattle.std.proofs.Common.{◌≡◌, ℕ, List, Option, Err, sym, subst}
use Rattle.btr_rack.specs.Out.{CallAccount}
use Rattle.btr_rack.specs.Rack.{Seen}
use Rattle.btr_rack.specs.Sink.{Sink}
use Rattle.btr_volume.specs.declared.stop.Stop.{Stop as TheStop}
use Rattle.btr_volume.specs.declared.volume.Volume.{Volume}
use Rattle.btr_restore.specs.Restoring.{Settles}
use Rattle.btr_volume.specs.Stops.{stop_halt}
use Rattle.btr_restore.specs.Running.{World, outside, world}
use Rattle.btr_restore.proofs.Storing.{at_settled, did_broken, out_before, sink_behind}
use Rattle.btr_prog.specs.Attempts.{TriesTo}
use Rattle.btr_salvage.specs.Running.{Ran}
use Rattle.btr_salvage.specs.Salvaging.{Attempt}

-- a call did the steps of a program, and what waited was stored before its stop is answered
pub ran_settled : {A : Type 0} (p : Attempt A) (x : World) (rack : Seen) (vol : Volume) (sink : Sink) (before after : CallAccount)
    (text : Option (List ℕ)) (out_calls : CallAccount) (s result : TheStop) (sink' : Sink) → sink' ≡ sink → Settles s before after result
    → Ran p x (world rack vol (outside sink before text out_calls)) (Err s) → Ran p x (world rack vol (outside sink' after text out_calls)) (Err result)
ran_settled {A} p x rack vol sink before after text out_calls s result sink' same settles h =
    subst (λ (k : Sink). Ran p x (world rack vol (outside k after text out_calls)) (Err result)) (sym same)
    (at_settled (λ calls t. Ran p x (world rack vol (outside sink calls text out_calls)) (Err t)) before after (λ t other f r. record {
      reads = r.reads;
      volume = r.volume;
      ready = r.ready;
      did = did_broken (λ Bs. TriesTo Bs p) (Err (stop_halt t)) r.did;
      cause = tt;
      sink_calls = sink_behind A x.out.sink_calls before after t other r.sink_calls f;
      out_calls = out_before A x.out.out_calls out_calls t r.out_calls;
    }) s result settles h)
