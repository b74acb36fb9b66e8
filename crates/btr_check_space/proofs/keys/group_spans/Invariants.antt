use Rattle.std.proofs.Common.{take}
use Rattle.btr_check_space.specs.Orders.{KeysOf, span_cmp, group_span}
use Rattle.btr_check_space.proofs.keys.group_spans.Given as goal

-- the keys so far
abbrev pub invariant-loop-group : goal.invariant-loop-group
invariant-loop-group l = KeysOf span_cmp group_span (take l.group-index l.groups) l.set
