use Rattle.std.proofs.Common.{◌≡◌, ℕ, ◌<◌, Some, slice_get}
use Rattle.btr_chunk.specs.declared.stripe.Stripe.{Stripe}
use Rattle.btr_chunk.specs.Chunk.{stripe_length}
use Rattle.btr_chunk.specs.Extents.{extent_of, NoneMeets}
use Rattle.btr_chunk.proofs.index.shares_range.Given as goal

abbrev pub invariant-loop-i : goal.invariant-loop-i
invariant-loop-i l = (j : ℕ) (s : Stripe) → j < l.i → slice_get l.chunk.stripes j ≡ Some s → NoneMeets (extent_of l.extents) (stripe_length l.chunk) s
