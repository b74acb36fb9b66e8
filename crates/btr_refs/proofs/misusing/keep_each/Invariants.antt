use Rattle.std.proofs.Common.{◌≡◌, flat_map, take}
use Rattle.btr_refs.specs.Misusing.{misused_at, with_findings}
use Rattle.btr_refs.proofs.misusing.keep_each.Given as goal

-- what is wrong with those so far
abbrev pub invariant-loop-extent : goal.invariant-loop-extent
invariant-loop-extent l = l.findings.keys
    ≡ with_findings l.fn.findings.keys (flat_map (misused_at l.nodesize l.addr l.used) (take l.extent-index l.extents))
