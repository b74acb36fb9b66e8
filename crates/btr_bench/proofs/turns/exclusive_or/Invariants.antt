use Rattle.std.proofs.Common.{ℕ, ◌-◌, bit_xor}
use Rattle.btr_bench.specs.Turns.{TurnsGive}
use Rattle.btr_bench.proofs.turns.exclusive_or.Given as goal

-- whatever the turns that are left give, all turns give with the results so far
abbrev pub invariant-loop-turn : goal.invariant-loop-turn
invariant-loop-turn l =
    (rest : ℕ) → TurnsGive l.fn.kernel l.piece l.kept l.turn (l.times - l.turn) rest
    → TurnsGive l.fn.kernel l.fn.piece l.fn.kept 0 l.times (bit_xor l.all rest)
