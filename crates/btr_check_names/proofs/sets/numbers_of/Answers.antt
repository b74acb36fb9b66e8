use Rattle.std.proofs.Common.{ℕ, ◌==◌, get_or}
use Rattle.std.specs.Ordering.{nat_cmp}
use Rattle.btr_check_names.proofs.Looking.{set_next, same_number}
use Rattle.btr_check_names.proofs.sets.numbers_of.Goals as goal

pub loop-number-preserved : goal.loop-number-preserved
loop-number-preserved c =
    set_next nat_cmp (λ (one other : ℕ). one == other) c.loop-number.set c.insert.new.self (get_or c.args.numbers.now c.loop-number.number-index 0)
    c.args.numbers.now c.loop-number.number-index 0 c.loop-number-test.true c.in-Ok.ensures.updates.0
    (same_number (get_or c.args.numbers.now c.loop-number.number-index 0)) c.loop-number.invariant
