use Rattle.std.proofs.Common.{take}
use Rattle.btr_check_space.specs.Orders.{KeysOf, range_cmp, span_range}
use Rattle.btr_check_space.proofs.keys.span_ranges.Given as goal

-- the keys so far
abbrev pub invariant-loop-span : goal.invariant-loop-span
invariant-loop-span l = KeysOf range_cmp span_range (take l.span-index l.spans) l.set
