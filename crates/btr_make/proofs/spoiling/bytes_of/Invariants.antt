use Rattle.std.proofs.Common.{◌≡◌, ℕ, ◌+◌, ◌<◌, length, get_or}
use Rattle.std.specs.Option.{unwrap_or, option_and_then}
use Rattle.std.specs.List.{slice_get}
use Rattle.btr_rack.specs.Memory.{named}
use Rattle.btr_make.proofs.spoiling.bytes_of.Given as goal

abbrev pub invariant-loop-i : goal.invariant-loop-i
invariant-loop-i l = record {
  whole : length l.byte-items ≡ 4096;
  read : (k : ℕ) → k < l.i → get_or l.byte-items k 0 ≡ unwrap_or (option_and_then (λ bytes. slice_get bytes (l.off + k)) (named l.rack l.name)) 0;
}
