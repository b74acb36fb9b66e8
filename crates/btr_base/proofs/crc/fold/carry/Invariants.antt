use Rattle.std.proofs.Common.{◌≡◌, ℕ, ◌+◌, ◌<◌, ◌≤◌, length, get_or}
use Rattle.btr_base.proofs.crc.fold.carry.Given as goal

-- the places so far have the last bytes, and the others are as before
abbrev pub invariant-loop-k : goal.invariant-loop-k
invariant-loop-k l = record {
  sized : length l.dropped ≡ 4972;
  moved : (i : ℕ) → i < l.k → get_or l.dropped i 0 ≡ get_or l.initial.dropped (4096 + i) 0;
  others : (i : ℕ) → l.k ≤ i → get_or l.dropped i 0 ≡ get_or l.initial.dropped i 0;
}
