use Rattle.std.proofs.Common.{◌≡◌, drop, length, take}
use Rattle.btr_scrub.proofs.pages.Pages.copy_out.Given as goal

abbrev pub invariant-loop-i : goal.invariant-loop-i
invariant-loop-i g l = (length l.out ≡ length l.fn.out) × (take l.i l.out ≡ take l.i (drop l.fn.at l.fn.self))
