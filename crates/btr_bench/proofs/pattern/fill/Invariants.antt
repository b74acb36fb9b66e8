use Rattle.std.proofs.Common.{◌≡◌, ℕ, ◌+◌, ◌*◌, ◌%◌, ◌<◌, get_or}
use Rattle.btr_bench.proofs.pattern.fill.Given as goal

-- the places so far have their bytes, and the next byte is that of the next place
abbrev pub invariant-loop-place : goal.invariant-loop-place
invariant-loop-place l = record {
  filled : (i : ℕ) → i < l.place-index → get_or l.piece i 0 ≡ (7 * i + 3) % 256;
  next : l.byte ≡ (7 * l.place-index + 3) % 256;
}
