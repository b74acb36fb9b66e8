use Rattle.std.proofs.Common.{◌≤◌, ◌-◌, ◌+◌, length, take}
use Rattle.btr_rack.specs.declared.raw_call.RawCall.TheVariants.{Stored}
use Rattle.btr_rack.specs.History.{Moves}
use Rattle.btr_rack.proofs.transfer.store.Given as goal

abbrev pub invariant-loop-done : goal.invariant-loop-done
invariant-loop-done l = record {
  inside : l.done ≤ length l.bytes;
  few : l.again ≤ 16;
  moves : Moves Stored l.off l.initial.raw.history l.again l.raw.history (take l.done l.bytes);
}

abbrev pub decreases-loop-done : goal.decreases-loop-done
decreases-loop-done l = (length l.bytes - l.done) + (16 - l.again)
