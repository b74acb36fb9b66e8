-- Lines that are put and counted.
use Rattle.std.proofs.Common.{◌≡◌, ℕ, List, Option, Result, Ok, Err, refl, sym, subst}
use Rattle.std.specs.Prelude.{take}
use Rattle.btr_prog.specs.Prog.{Emit, Return}
use Rattle.btr_rack.specs.Out.{Adds, CallAccount, Counts}
use Rattle.btr_rack.specs.Sink.{Sink}
use Rattle.btr_rack.specs.declared.error.SinkError.{SinkError}
use Rattle.btr_volume.specs.declared.stop.Stop.{Stop as TheStop}
use Rattle.btr_listing.specs.Lines.{more}
use Rattle.btr_listing.specs.Step.{Line}
use Rattle.btr_restore.specs.Restoring.{Emits}
use Rattle.btr_volume.specs.Stops.{stops_out}
use Rattle.btr_restore.specs.Running.{Wrote, outside}
use Rattle.btr_restore.proofs.Emitting.{as_out, breaks_line, emits_line}
use Rattle.btr_restore.proofs.Stopping.{out_stops, outs_of_out, sinks_of_out}
use Rattle.btr_salvage.specs.declared.salvaged.Salvaged.{Salvaged}
use Rattle.btr_salvage.specs.Lines.{salvaged, with_broken}

module _ {A : Type 0} (text : List ℕ) (sink : Sink) (sink_calls : CallAccount) (told told' : Option (List ℕ)) (calls calls' : CallAccount) where
  -- what a call did that puts the line, with an answer
  abbrev EmitsLine : A → Result A TheStop → Type 0
  EmitsLine a r = Wrote (Emit (Line text) (Return a)) (outside sink sink_calls told calls) (outside sink sink_calls told' calls') r

  -- a line was put
  pub wrote_line : (a : A) → Adds told told' text → calls' ≡ calls → EmitsLine a (Ok a)
  wrote_line a h k = record { did = emits_line text a sink told told' h; sink_calls = refl; out_calls = k; stops = tt }

  -- it was not put wholly
  pub broke_line : (T : Type 0) (a : A) (s : TheStop) (e : SinkError) → s ≡ stops_out e → ((n : ℕ) × Adds told told' (take n text))
      → Counts {T = T} calls calls' (Err e) → EmitsLine a (Err s)
  broke_line T a s e is h k = record {
    did = as_out (λ answer. Emits (Emit (Line text) (Return a)) sink sink told told' answer) s e is (breaks_line text (Return a) sink told told' h);
    sink_calls = sinks_of_out A sink_calls s e is;
    out_calls = outs_of_out T A calls calls' s e is k;
    stops = out_stops A s e is;
  }

  -- it was put and counted
  pub wrote_count : (f : Salvaged → A) (so_far : Salvaged) (n : ℕ) → n ≡ more so_far.broken → Adds told told' text → calls' ≡ calls
      → EmitsLine (f (with_broken so_far)) (Ok (f (salvaged so_far.counts n)))
  wrote_count f so_far n is h k = subst (λ m. EmitsLine (f (with_broken so_far)) (Ok (f (salvaged so_far.counts m)))) (sym is)
      (wrote_line (f (with_broken so_far)) h k)
