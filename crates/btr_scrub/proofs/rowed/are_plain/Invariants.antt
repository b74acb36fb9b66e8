use Rattle.std.proofs.Common.{◌≡◌, ℕ, ◌<◌, true, get_or}
use Rattle.btr_scrub.proofs.Common.{Want, is_plain}
use Rattle.btr_scrub.proofs.rowed.are_plain.Given as goal

abbrev pub invariant-loop-want : goal.invariant-loop-want
invariant-loop-want l = (k : ℕ) (d : Want) → k < l.want-index → is_plain (get_or l.wants k d) ≡ true
