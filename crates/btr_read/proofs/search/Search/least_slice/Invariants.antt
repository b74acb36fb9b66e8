use Rattle.std.proofs.Common.{◌≡◌}
use Rattle.btr_read.specs.Candidates.{slices_read}
use Rattle.btr_read.specs.Comparing.{least_of}
use Rattle.btr_read.proofs.search.Search.least_slice.Given as goal

abbrev pub invariant-loop-slice : goal.invariant-loop-slice
invariant-loop-slice l = l.least ≡ least_of l.self l.fn.least (slices_read l.slice l.self.at.index l.candidate)
