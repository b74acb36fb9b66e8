use Rattle.std.proofs.Common.{◌≡◌, ◌||◌, take}
use Rattle.std.specs.List.{list_any}
use Rattle.btr_findings.specs.declared.finding.Finding.{Finding}
use Rattle.btr_findings.specs.Findings.{is_row, has}
use Rattle.btr_refs.specs.Differences.{ref_total}
use Rattle.btr_refs.specs.Listed.{entries_of}
use Rattle.btr_refs.proofs.comparing.put_ref_totals.Given as goal

-- the rows of the extents so far
abbrev pub invariant-loop-extent : goal.invariant-loop-extent
invariant-loop-extent l = (one : Finding) → has l.found one ≡
    (list_any (is_row (ref_total (entries_of l.refs)) one) (take l.extent-index l.extents) || has l.fn.found one)
