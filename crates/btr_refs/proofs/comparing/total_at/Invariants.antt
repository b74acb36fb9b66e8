use Rattle.std.proofs.Common.{◌≡◌, sum_by, take}
use Rattle.btr_refs.proofs.Listing.{weight}
use Rattle.btr_refs.proofs.comparing.total_at.Given as goal

-- those so far
abbrev pub invariant-loop-one : goal.invariant-loop-one
invariant-loop-one l = l.total ≡ sum_by (weight l.addr) (take l.one-index l.one-items)
