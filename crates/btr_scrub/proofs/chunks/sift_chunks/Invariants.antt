use Rattle.std.proofs.Common.{◌≡◌, ◌≤◌, Some, drop, false, slice_get}
use Rattle.btr_scrub.proofs.Common.{CanMend, CanSift, Chunk, Gathered, HasKeptOf, HasPassed, SameVolume, kind_in, scene}
use Rattle.btr_scrub.specs.Units as units
use Rattle.btr_scrub.proofs.chunks.sift_chunks.Given as goal

abbrev pub invariant-loop-i : goal.invariant-loop-i
invariant-loop-i g l = record {
  ready : CanMend false (g.R.Rack.seen l.rack) l.vol.store l.marks;
  volume : SameVolume l.fn.vol l.vol;
  can : CanSift l.fn.vol.store.layout l.sieve.sifted;
  behind : (chunk : Chunk) → slice_get l.fn.vol.store.layout.chunks l.i ≡ Some chunk → l.sieve.end ≤ chunk.start;
  kind : l.sieve.sifted.kept.kind ≡ kind_in l.fn.vol.sup;
  reaches : (whole : Gathered) → HasKeptOf l.fn.vol.store.layout (g.R.Rack.seen l.fn.rack).held whole l.fn.sieve
      → (mid : Gathered) × HasPassed (units.in_chunks l.fn.vol.sup l.trees.sums l.trees.extents l.fn.vol.store.layout.chunks)
      (units.in_chunks l.fn.vol.sup l.trees.sums l.trees.extents (drop l.i l.fn.vol.store.layout.chunks))
      (scene (g.R.Rack.seen l.fn.rack) l.fn.vol whole) (scene (g.R.Rack.seen l.rack) l.vol mid)
      × HasKeptOf l.vol.store.layout (g.R.Rack.seen l.rack).held mid l.sieve;
}
