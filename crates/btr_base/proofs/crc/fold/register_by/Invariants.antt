use Rattle.std.proofs.Common.{◌≡◌, ℕ, ◌^◌, ◌<◌, ◌≤◌, take, length, get_or}
use Rattle.btr_base.specs.Crc.{register}
use Rattle.btr_base.specs.Fold.{register_behind}
use Rattle.btr_base.proofs.crc.fold.register_by.Given as goal

-- the register behind the bytes that were dropped is that of all
abbrev pub invariant-loop-rest : goal.invariant-loop-rest
invariant-loop-rest l = record {
  wide : 576 ≤ length l.rest;
  are_bytes : (i : ℕ) → get_or l.rest i 0 < 2 ^ 8;
  same : register l.fn.start l.fn.bytes ≡ register_behind (take 561 l.dropped) l.rest;
}

abbrev pub decreases-loop-rest : goal.decreases-loop-rest
decreases-loop-rest l = length l.rest
