use Rattle.std.proofs.Common.{◌≡◌, ℕ, ◌<◌, ◌≤◌, ◌+◌, ◌-◌, length, get_or}
use Rattle.btr_rack.specs.Image.{kept_byte}
use Rattle.btr_rack.proofs.image.read_pages.Given as goal

abbrev pub invariant-loop-done : goal.invariant-loop-done
invariant-loop-done l = (l.done ≤ length l.buf) × ((k : ℕ) → k < l.done → get_or l.buf k 0 ≡ kept_byte l.pages.entries (l.off + k))

abbrev pub decreases-loop-done : goal.decreases-loop-done
decreases-loop-done l = length l.initial.buf - l.done
