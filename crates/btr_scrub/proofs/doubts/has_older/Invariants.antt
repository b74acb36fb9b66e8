use Rattle.std.proofs.Common.{◌≡◌, ℕ, ◌<◌, Some, false, slice_get}
use Rattle.btr_chunk.specs.declared.stripe.Stripe.{Stripe}
use Rattle.btr_scrub.specs.Judged.{is_older}
use Rattle.btr_scrub.proofs.doubts.has_older.Given as goal

abbrev pub invariant-loop-i : goal.invariant-loop-i
invariant-loop-i l = (j : ℕ) (stripe : Stripe) → j < l.i → slice_get l.chunk.stripes j ≡ Some stripe → is_older l.store.layout.devices stripe.devid ≡ false
