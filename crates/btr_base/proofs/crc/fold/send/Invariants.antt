use Rattle.std.proofs.Common.{◌≡◌, ℕ, ◌+◌, ◌*◌, ◌^◌, ◌<◌, length, take, get_or}
use Rattle.btr_base.specs.Fold.{received}
use Rattle.btr_base.proofs.crc.fold.send.Given as goal

-- the blocks so far are as they are when they are dropped, behind the bytes that were dropped before
abbrev pub invariant-loop-k : goal.invariant-loop-k
invariant-loop-k l = record {
  sized : length l.dropped ≡ 4972;
  kept : take 561 l.dropped ≡ take 561 l.initial.dropped;
  sent : (j : ℕ) → j < 64 * l.k → get_or l.dropped (j + 561) 0 ≡ received l.dropped l.bytes j;
  fits : (i : ℕ) → get_or l.dropped i 0 < 2 ^ 8;
}
