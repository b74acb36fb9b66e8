use Rattle.std.proofs.Common.{◌≡◌, ℕ, ◌<◌, Some, false, slice_get}
use Rattle.btr_scrub_row.proofs.Common.{Stripe, flagged, is_doubtful}
use Rattle.btr_scrub_row.proofs.doubts.has_doubtful.Given as goal

abbrev pub invariant-loop-i : goal.invariant-loop-i
invariant-loop-i l = (j : ℕ) (stripe : Stripe) → j < l.i → slice_get l.chunk.stripes j ≡ Some stripe
    → is_doubtful l.store.layout.devices (flagged l.failing) stripe.devid ≡ false
