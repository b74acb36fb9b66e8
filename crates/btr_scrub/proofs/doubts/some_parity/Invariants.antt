use Rattle.std.proofs.Common.{◌≡◌, ℕ, ◌<◌, Some, false, is_none, slice_get}
use Rattle.btr_scrub.proofs.Common.{Chunk, mirrors}
use Rattle.btr_scrub.proofs.doubts.some_parity.Given as goal

abbrev pub invariant-loop-i : goal.invariant-loop-i
invariant-loop-i l = (j : ℕ) (chunk : Chunk) → j < l.i → slice_get l.store.layout.chunks j ≡ Some chunk → is_none (mirrors chunk) ≡ false
