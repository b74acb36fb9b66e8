use Rattle.std.proofs.Common.{◌≡◌, ℕ, ◌<◌, Some, false, slice_get}
use Rattle.btr_scrub.proofs.Common.{Stripe, flagged}
use Rattle.btr_scrub_copies.specs.Fresh.{is_behind}
use Rattle.btr_scrub.proofs.copied.has_behind.Given as goal

abbrev pub invariant-loop-i : goal.invariant-loop-i
invariant-loop-i l = (j : ℕ) (stripe : Stripe) → j < l.i → slice_get l.chunk.stripes j ≡ Some stripe
    → is_behind l.store.layout.devices (flagged l.failing) stripe.devid ≡ false
