use Rattle.std.proofs.Common.{◌≡◌, ℕ, ◌<◌, length, get_or}
use Rattle.btr_base.proofs.crc.fold.forget.Given as goal

-- the bytes so far are zeros
abbrev pub invariant-loop-k : goal.invariant-loop-k
invariant-loop-k l = record {
  sized : length l.dropped ≡ 4972;
  zeros : (i : ℕ) → i < l.k → get_or l.dropped i 0 ≡ 0;
}
