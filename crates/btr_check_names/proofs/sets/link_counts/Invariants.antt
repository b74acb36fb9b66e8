use Rattle.std.proofs.Common.{◌≡◌, ◌+◌, ℕ}
use Rattle.btr_check_names.specs.Names.{links_of}
use Rattle.btr_check_names.specs.Sets.{sum_in}
use Rattle.btr_check_names.proofs.sets.link_counts.Given as goal

-- what was added, and what is left to be added, is all
abbrev pub invariant-loop-link : goal.invariant-loop-link
invariant-loop-link l = (number : ℕ) → sum_in l.sums number + links_of l.link-iterator number ≡ links_of l.refs number
