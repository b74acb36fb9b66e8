use Rattle.std.proofs.Common.{◌≡◌, ℕ, ◌<◌, ◌^◌, length, get_or}
use Rattle.btr_base.specs.Crc.{register}
use Rattle.btr_base.proofs.crc.words.register_by_words.Given as goal

-- the register of what is left is that of all
abbrev pub invariant-loop-rest : goal.invariant-loop-rest
invariant-loop-rest l = record {
  register_lt : l.reg < 2 ^ 32;
  are_bytes : (i : ℕ) → get_or l.rest i 0 < 2 ^ 8;
  same : register l.reg l.rest ≡ register l.fn.start l.fn.bytes;
}

abbrev pub decreases-loop-rest : goal.decreases-loop-rest
decreases-loop-rest l = length l.rest
