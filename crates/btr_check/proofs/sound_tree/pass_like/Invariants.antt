use Rattle.std.proofs.Common.{◌≡◌}
use Rattle.btr_check.proofs.sound_tree.pass_like.Given as goal

-- no names were kept yet
abbrev pub invariant-loop-one : goal.invariant-loop-one
invariant-loop-one l = l.subvolumes ≡ l.fn.subvolumes
