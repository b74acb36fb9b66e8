use Rattle.std.proofs.Common.{◌≡◌, ℕ, ◌<◌, ◌&&◌, not, false, is_some}
use Rattle.btr_chunk.specs.declared.place.Part.TheVariants.{Slice}
use Rattle.btr_read.specs.Candidates.{reads_slice, range_of}
use Rattle.btr_read.proofs.search.Search.slices_stand.Given as goal

abbrev pub invariant-loop-slice : goal.invariant-loop-slice
invariant-loop-slice l = (s : ℕ) → s < l.slice → (reads_slice l.self.at.index l.candidate s && not (is_some (range_of l.self (Slice s)))) ≡ false
