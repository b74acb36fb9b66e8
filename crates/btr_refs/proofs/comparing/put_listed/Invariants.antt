use Rattle.std.proofs.Common.{◌≡◌, ◌||◌, take}
use Rattle.std.specs.List.{list_any}
use Rattle.btr_findings.specs.declared.finding.Finding.{Finding}
use Rattle.btr_findings.specs.Findings.{is_row, has}
use Rattle.btr_refs.specs.Counts.{RefCounts}
use Rattle.btr_refs.specs.declared.counted.Counted.{Counted}
use Rattle.btr_refs.specs.Differences.{ref_count}
use Rattle.btr_refs.specs.Listed.{AreTallied, entries_of, tallied}
use Rattle.btr_refs.proofs.comparing.put_listed.Given as goal

-- the rows of the references so far
abbrev pub invariant-loop-i : goal.invariant-loop-i
invariant-loop-i l = (others : RefCounts) → AreTallied l.refs l.times others → (one : Finding) → has l.found one
    ≡ (list_any (is_row (λ (ref : Counted). ref_count (tallied l.refs l.times others) (entries_of l.refs) ref.key) one) (take l.i l.refs) || has l.fn.found one)
