use Rattle.std.proofs.Common.{◌≡◌, [], take}
use Rattle.btr_refs.specs.Counts.{counted_all}
use Rattle.btr_refs.proofs.ref_list.summed.Given as goal

-- those so far
abbrev pub invariant-loop-one : goal.invariant-loop-one
invariant-loop-one l = l.counts.entries ≡ counted_all [] (take l.one-index l.refs)
