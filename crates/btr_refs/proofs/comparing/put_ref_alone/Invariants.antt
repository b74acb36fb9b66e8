use Rattle.std.proofs.Common.{◌≡◌, ◌||◌, take}
use Rattle.std.specs.List.{list_any}
use Rattle.btr_findings.specs.declared.finding.Finding.{Finding}
use Rattle.btr_findings.specs.Findings.{is_row, has}
use Rattle.btr_refs.specs.declared.counted.Counted.{Counted}
use Rattle.btr_refs.specs.Differences.{ref_alone}
use Rattle.btr_refs.specs.Listed.{entries_of}
use Rattle.btr_refs.proofs.comparing.put_ref_alone.Given as goal

-- the rows of the references so far
abbrev pub invariant-loop-one : goal.invariant-loop-one
invariant-loop-one l = (one : Finding) → has l.found one
    ≡ (list_any (is_row (λ (ref : Counted). ref_alone l.extents (entries_of l.refs) ref.key) one) (take l.one-index l.refs) || has l.fn.found one)
