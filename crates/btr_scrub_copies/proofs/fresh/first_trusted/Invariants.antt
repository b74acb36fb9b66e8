use Rattle.std.proofs.Common.{◌≡◌, ℕ, ◌<◌, true, Ok}
use Rattle.btr_scrub_copies.proofs.Common.{Mirror, Target, flagged, is_on_doubtful, sought}
use Rattle.btr_scrub_copies.proofs.fresh.first_trusted.Given as goal

abbrev pub invariant-loop-mirror : goal.invariant-loop-mirror
invariant-loop-mirror l = (t : Target) (k : ℕ) → sought l.store.layout l.block.want.now ≡ Ok t → k < l.mirror
    → is_on_doubtful (flagged l.failing) t (Mirror k) ≡ true
