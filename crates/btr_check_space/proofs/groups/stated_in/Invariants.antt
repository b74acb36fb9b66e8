use Rattle.std.proofs.Common.{◌≡◌, take}
use Rattle.btr_check_space.specs.Groups.{stated_in}
use Rattle.btr_check_space.proofs.groups.stated_in.Given as goal

-- the sum so far
abbrev pub invariant-loop-group : goal.invariant-loop-group
invariant-loop-group l = l.sum ≡ stated_in (take l.group-index l.groups)
