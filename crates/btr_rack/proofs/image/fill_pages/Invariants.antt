use Rattle.std.proofs.Common.{◌≡◌, ℕ, ◌-◌, ◌≤◌, replicate}
use Rattle.btr_rack.specs.Image.{kept_byte, patched}
use Rattle.btr_rack.proofs.image.fill_pages.Given as goal

abbrev pub invariant-loop-done : goal.invariant-loop-done
invariant-loop-done l = (l.done ≤ l.len) × ((i : ℕ) → kept_byte l.pages.entries i ≡ patched (kept_byte l.fn.pages.entries i) l.off (replicate l.done l.byte) i)

abbrev pub decreases-loop-done : goal.decreases-loop-done
decreases-loop-done l = l.len - l.done
