use Rattle.std.proofs.Common.{◌≡◌, ◌++◌}
use Rattle.btr_refs.specs.Listed.{entries_of}
use Rattle.btr_refs.proofs.ref_list.listed.Given as goal

-- those so far, and those that are left, are all
abbrev pub invariant-loop-key : goal.invariant-loop-key
invariant-loop-key l = entries_of l.refs.items ++ l.key-iterator ≡ l.fn.counts.entries
