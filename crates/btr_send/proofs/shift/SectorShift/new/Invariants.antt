use Rattle.std.proofs.Common.{◌≡◌, ℕ, ◌<◌, ◌^◌, length, slice_index}
use Rattle.btr_base.specs.Crc.{shifted_by}
use Rattle.btr_send.proofs.shift.SectorShift.new.Given as goal

-- the words so far
abbrev pub invariant-loop-bit : goal.invariant-loop-bit
invariant-loop-bit l = record {
  sized : length l.words ≡ 32;
  shifted : (i : ℕ) → i < l.bit → slice_index l.words i ≡ shifted_by 32768 (2 ^ i);
}
