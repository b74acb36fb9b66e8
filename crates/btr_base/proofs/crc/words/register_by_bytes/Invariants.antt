use Rattle.std.proofs.Common.{◌≡◌, ◌<◌, ◌^◌, drop}
use Rattle.btr_base.specs.Crc.{register}
use Rattle.btr_base.proofs.crc.words.register_by_bytes.Given as goal

-- the register of what is left is that of all
abbrev pub invariant-loop-byte : goal.invariant-loop-byte
invariant-loop-byte l = (l.reg < 2 ^ 32) × (register l.reg (drop l.byte-index l.bytes) ≡ register l.fn.start l.bytes)
