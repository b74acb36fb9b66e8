use Rattle.std.proofs.Common.{◌≡◌, ◌+◌, ℕ}
use Rattle.btr_check_names.specs.Names.{names_size}
use Rattle.btr_check_names.specs.Sets.{sum_in}
use Rattle.btr_check_names.proofs.sets.name_sizes.Given as goal

-- what was added, and what is left to be added, is all
abbrev pub invariant-loop-entry : goal.invariant-loop-entry
invariant-loop-entry l = (number : ℕ) → sum_in l.sums number + names_size l.entry-iterator number ≡ names_size l.entries number
