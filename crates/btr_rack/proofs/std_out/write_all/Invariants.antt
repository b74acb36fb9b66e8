use Rattle.std.proofs.Common.{◌≡◌, ◌≤◌, ◌+◌, ◌-◌, ◌*◌, ◌++◌, length, take}
use Rattle.btr_rack.specs.StdOut.{text_of}
use Rattle.btr_rack.proofs.std_out.write_all.Given as goal

abbrev pub invariant-loop-done : goal.invariant-loop-done
invariant-loop-done g l = record {
  done : l.done ≤ length l.bytes;
  tries : l.tries ≤ 16;
  text : text_of l.raw.history ≡ text_of l.initial.raw.history ++ take l.done l.bytes;
}

abbrev pub decreases-loop-done : goal.decreases-loop-done
decreases-loop-done g l = 17 * (length l.initial.bytes - l.done) + (16 - l.tries)
