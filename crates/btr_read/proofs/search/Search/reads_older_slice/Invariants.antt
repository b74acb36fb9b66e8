use Rattle.std.proofs.Common.{◌≡◌, ℕ, ◌<◌, ◌&&◌, false}
use Rattle.btr_chunk.specs.declared.place.Part.TheVariants.{Slice}
use Rattle.btr_read.specs.Candidates.{reads_slice, is_on_older}
use Rattle.btr_read.proofs.search.Search.reads_older_slice.Given as goal

abbrev pub invariant-loop-slice : goal.invariant-loop-slice
invariant-loop-slice l = (s : ℕ) → s < l.slice → (reads_slice l.self.at.index l.candidate s && is_on_older l.self (Slice s)) ≡ false
