use Rattle.std.proofs.Common.{◌≡◌, ℕ, ◌*◌, ◌<◌, length, get_or}
use Rattle.btr_parity.specs.Field.{product}
use Rattle.btr_parity.proofs.multiples.table.Given as goal

abbrev pub invariant-loop-k : goal.invariant-loop-k
invariant-loop-k l = (length l.entries ≡ 16) × ((k : ℕ) → k < l.k → get_or l.entries k 0 ≡ product l.factor (l.step * k))
