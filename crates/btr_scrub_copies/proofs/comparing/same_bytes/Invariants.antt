use Rattle.std.proofs.Common.{◌≡◌, ◌&&◌, drop}
use Rattle.btr_scrub_copies.proofs.Common.{bytes_eq}
use Rattle.btr_scrub_copies.proofs.comparing.same_bytes.Given as goal

abbrev pub invariant-loop-i : goal.invariant-loop-i
invariant-loop-i l = bytes_eq l.some l.others ≡ (l.same && bytes_eq (drop l.i l.some) (drop l.i l.others))
