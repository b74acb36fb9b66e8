-- Calls of the sink one after another.
use Rattle.std.proofs.Common.{◌≡◌, ℕ, ◌+◌, ◌-◌, ◌/◌, ◌<◌, ◌≤◌, zero, suc, List, [], length, take, drop, Option, Result, Ok, Err, sym, ap, ◌∙◌, arith}
use Rattle.std.proofs.Common.{length-drop}
use Rattle.std.proofs.lemmas.List.{take_all}
use Rattle.btr_prog.specs.Prog.{Return, Emit}
use Rattle.btr_prog.proofs.Choices.{goes_nowhere}
use Rattle.btr_rack.specs.Rack.{Seen}
use Rattle.btr_rack.specs.Sink.{Sink}
use Rattle.btr_rack.specs.declared.error.SinkError.{SinkError}
use Rattle.btr_walk.specs.Reading.{unread_by}
use Rattle.btr_volume.specs.Lookup.{Program}
use Rattle.btr_volume.specs.declared.stop.Stop.{Stop as TheStop}
use Rattle.btr_volume.specs.declared.volume.Volume.{Volume}
use Rattle.btr_listing.specs.Step.{Step, part}
use Rattle.btr_restore.specs.Restoring.{Emits}
use Rattle.btr_volume.specs.Stops.{stop_halt, stops_sink}
use Rattle.btr_volume.specs.Readable.{CanRead}
use Rattle.btr_restore.specs.Running.{Outside, World, world, Wrote, Ran}
use Rattle.btr_restore.proofs.Emitting.{as_sink, text_none}
use Rattle.btr_restore.proofs.Rans.{ran_then, ran_wrote, wrote_halt, wrote_then}
use Rattle.btr_send.specs.Command.{write}
use Rattle.btr_send.specs.Sending.{behind, cuts, tells, writes}

-- a call of the sink that was refused, and did nothing
pub emits_nowhere : {A : Type 0} (p : Program Step A) (s s' : Sink) (told : Option (List ℕ)) (stop : TheStop) (error : SinkError)
    → stop ≡ stops_sink error → s' ≡ s → Emits p s s' told told (Err (stop_halt stop))
emits_nowhere p s s' told stop error is same = as_sink (λ answer. Emits p s s' told told answer) stop error is (record {
  done = [];
  sink = same;
  text = text_none told;
  goes = λ layout old new Bs. goes_nowhere Bs (unread_by layout old new) part [] 0 p;
})

-- a step, and then the rest
module _ {C : Type 0} (step : Step) (rest : Program Step C) (x y : Outside) where
  -- the step alone
  abbrev alone : Program Step (Unit {0})
  alone = Emit step (Return tt)

  -- the step was done, and then the rest
  pub step_then : (z : Outside) (r : Result C TheStop) → Wrote alone x y (Ok tt) → Wrote rest y z r → Wrote (Emit step rest) x z r
  step_then z r h g = wrote_then alone (λ u. rest) x y z tt r h g

  -- a step that was refused leaves the rest undone
  pub step_halt : (s : TheStop) → Wrote alone x y (Err s) → Wrote (Emit step rest) x y (Err s)
  step_halt s h = wrote_halt alone (λ u. rest) x y y s h

  -- the step was done, and then a rest that reads too
  pub step_ran : (rack : Seen) (vol : Volume) (z : World) (r : Result C TheStop) → CanRead 6 rack vol → Wrote alone x y (Ok tt)
      → Ran rest (world rack vol y) z r → Ran (Emit step rest) (world rack vol x) z r
  step_ran rack vol z r ready w h =
      ran_then alone (λ u. rest) (world rack vol x) (world rack vol y) z tt r (ran_wrote alone rack vol x y (Ok tt) ready w) h

-- how many writes there are
count_last : (n : ℕ) → 0 < n → n ≤ 4096 → (n + 4095) / 4096 ≡ suc zero
count_last n some few = omega arith

-- more than 4096 bytes take one write more than those behind the first 4096
count_more : (n m : ℕ) → 4096 < n → m ≡ n - 4096 → (n + 4095) / 4096 ≡ suc ((m + 4095) / 4096)
count_more n m many e = omega arith

module _ (path : List ℕ) (offset : ℕ) (bytes : List ℕ) where
  -- the last write of some bytes
  pub writes_last : 0 < length bytes → length bytes ≤ 4096 → tells (write path offset bytes) (Return tt) ≡ writes path offset bytes
  writes_last some few =
      ap (λ (b : List ℕ). tells (write path offset b) (Return tt)) (sym (take_all 4096 bytes few))
      ∙ ap (λ (n : ℕ). cuts n path offset bytes) (sym (count_last (length bytes) some few))

  -- one write before others
  pub writes_more : 4096 < length bytes
      → tells (write path offset (take 4096 bytes)) (writes path (behind offset 4096) (drop 4096 bytes)) ≡ writes path offset bytes
  writes_more many = ap (λ (n : ℕ). cuts n path offset bytes) (sym (count_more (length bytes) (length (drop 4096 bytes)) many (length-drop 4096 bytes)))
