use Rattle.std.proofs.Common.{◌≡◌, ℕ, ◌-◌, ◌<◌, length, get_or}
use Rattle.btr_make.proofs.spoiling.turned.Given as goal

abbrev pub invariant-loop-i : goal.invariant-loop-i
invariant-loop-i l = record {
  whole : length l.byte-items ≡ 4096;
  turned : (k : ℕ) → k < l.i → get_or l.byte-items k 0 ≡ 255 - get_or l.page k 0;
}
