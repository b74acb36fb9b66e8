use Rattle.std.proofs.Common.{◌≡◌, flat_map, take}
use Rattle.btr_check_space.specs.Bounds.{ends_of}
use Rattle.btr_check_space.proofs.bounds.bounds_of.Given as goal

-- the bounds of the block groups so far
abbrev pub invariant-loop-group : goal.invariant-loop-group
invariant-loop-group l = l.bounds.items ≡ flat_map ends_of (take l.group-index l.groups)
