use Rattle.std.proofs.Common.{◌≤◌, ◌-◌, ◌+◌, length, take}
use Rattle.btr_rack.specs.declared.raw_call.RawCall.TheVariants.{Read}
use Rattle.btr_rack.specs.History.{Moves}
use Rattle.btr_rack.proofs.transfer.fill.Given as goal

abbrev pub invariant-loop-done : goal.invariant-loop-done
invariant-loop-done l = record {
  inside : l.done ≤ length l.buf;
  few : l.again ≤ 16;
  moves : Moves Read l.off l.initial.raw.history l.again l.raw.history (take l.done l.buf);
}

abbrev pub decreases-loop-done : goal.decreases-loop-done
decreases-loop-done l = (length l.initial.buf - l.done) + (16 - l.again)
