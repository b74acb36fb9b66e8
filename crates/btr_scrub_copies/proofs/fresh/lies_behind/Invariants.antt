use Rattle.std.proofs.Common.{◌≡◌, ℕ, ◌<◌, false, Ok}
use Rattle.btr_scrub_copies.proofs.Common.{Mirror, Target, flagged, is_on_behind, sought}
use Rattle.btr_scrub_copies.proofs.fresh.lies_behind.Given as goal

abbrev pub invariant-loop-mirror : goal.invariant-loop-mirror
invariant-loop-mirror l = (t : Target) (k : ℕ) → sought l.store.layout l.block.want.now ≡ Ok t → k < l.mirror
    → is_on_behind (flagged l.failing) t (Mirror k) ≡ false
