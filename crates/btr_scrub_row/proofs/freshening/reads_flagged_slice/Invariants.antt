use Rattle.std.proofs.Common.{◌≡◌, ℕ, ◌<◌, ◌&&◌, false}
use Rattle.btr_scrub_row.proofs.Common.{flag_of, reads_slice}
use Rattle.btr_scrub_row.proofs.freshening.reads_flagged_slice.Given as goal

abbrev pub invariant-loop-slice : goal.invariant-loop-slice
invariant-loop-slice l = (s : ℕ) → s < l.slice → (reads_slice l.piece.index l.candidate s && flag_of l.flags s) ≡ false
