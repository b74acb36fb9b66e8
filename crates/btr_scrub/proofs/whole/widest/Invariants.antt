use Rattle.std.proofs.Common.{◌≡◌, ℕ, ◌<◌, ◌≤◌, Some, None, length, slice_get}
use Rattle.btr_scrub.proofs.Common.{Chunk, mirrors}
use Rattle.btr_scrub.proofs.whole.widest.Given as goal

abbrev pub invariant-loop-i : goal.invariant-loop-i
invariant-loop-i l = record {
  few : l.most ≤ 64;
  wide : (j : ℕ) (chunk : Chunk) → j < l.i → slice_get l.store.layout.chunks j ≡ Some chunk → mirrors chunk ≡ None → length chunk.stripes ≤ l.most;
}
