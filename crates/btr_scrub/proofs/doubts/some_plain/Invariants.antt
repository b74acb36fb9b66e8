use Rattle.std.proofs.Common.{◌≡◌, length}
use Rattle.btr_scrub.proofs.Common.{is_plain, list_any}
use Rattle.btr_scrub.proofs.doubts.some_plain.Given as goal

abbrev pub invariant-loop-want : goal.invariant-loop-want
invariant-loop-want l = list_any is_plain l.fn.blocks ≡ list_any is_plain l.blocks

abbrev pub decreases-loop-want : goal.decreases-loop-want
decreases-loop-want l = length l.blocks
