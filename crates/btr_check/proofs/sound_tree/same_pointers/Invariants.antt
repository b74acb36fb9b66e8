use Rattle.std.proofs.Common.{◌≡◌, take}
use Rattle.btr_check.proofs.sound_tree.same_pointers.Given as goal

-- the pointers so far are the same
abbrev pub invariant-loop-at : goal.invariant-loop-at
invariant-loop-at l = take l.at l.some ≡ take l.at l.others
