use Rattle.std.proofs.Common.{◌≡◌, ◌%◌, ◌^◌}
use Rattle.btr_base.specs.Crc.{shifted_by}
use Rattle.btr_send.proofs.shift.SectorShift.append_zeros.Given as goal

-- the bits so far went through the zeros
abbrev pub invariant-loop-bit : goal.invariant-loop-bit
invariant-loop-bit l = l.sum ≡ shifted_by 32768 (l.reg % 2 ^ l.bit)
