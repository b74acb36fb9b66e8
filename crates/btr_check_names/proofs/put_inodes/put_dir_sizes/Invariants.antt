use Rattle.std.proofs.Common.{◌≡◌, ◌||◌, take}
use Rattle.std.specs.List.{list_any}
use Rattle.btr_findings.specs.Findings.{is_row, has}
use Rattle.btr_findings.specs.declared.finding.Finding.{Finding}
use Rattle.btr_check_names.specs.Names.{dir_size}
use Rattle.btr_check_names.proofs.put_inodes.put_dir_sizes.Given as goal

-- what was found on those so far
abbrev pub invariant-loop-at : goal.invariant-loop-at
invariant-loop-at l = (one : Finding) → has l.found one ≡ (list_any (is_row (dir_size l.tree l.orphans l.indexed) one) (take l.at-index l.inodes) ||
    has l.fn.found one)
