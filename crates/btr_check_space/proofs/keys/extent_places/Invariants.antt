use Rattle.std.proofs.Common.{take}
use Rattle.btr_check_space.specs.Orders.{KeysOf, place_cmp, extent_place}
use Rattle.btr_check_space.proofs.keys.extent_places.Given as goal

-- the keys so far
abbrev pub invariant-loop-range : goal.invariant-loop-range
invariant-loop-range l = KeysOf place_cmp extent_place (take l.range-index l.ranges) l.set
