use Rattle.std.proofs.Common.{◌≡◌, ℕ, ◌<◌, Some, false, slice_get}
use Rattle.btr_scrub.proofs.Common.{Chunk, has_older}
use Rattle.btr_scrub.proofs.doubts.some_older.Given as goal

abbrev pub invariant-loop-i : goal.invariant-loop-i
invariant-loop-i l = (j : ℕ) (chunk : Chunk) → j < l.i → slice_get l.store.layout.chunks j ≡ Some chunk → has_older l.store.layout.devices chunk ≡ false
