use Rattle.std.proofs.Common.{◌≡◌, ℕ, ◌-◌, ◌≤◌, length, take}
use Rattle.btr_rack.specs.Image.{kept_byte, patched}
use Rattle.btr_rack.proofs.image.write_pages.Given as goal

abbrev pub invariant-loop-done : goal.invariant-loop-done
invariant-loop-done l =
    (l.done ≤ length l.bytes) × ((i : ℕ) → kept_byte l.pages.entries i ≡ patched (kept_byte l.fn.pages.entries i) l.off (take l.done l.bytes) i)

abbrev pub decreases-loop-done : goal.decreases-loop-done
decreases-loop-done l = length l.bytes - l.done
