use Rattle.std.proofs.Common.{None}
use Rattle.btr_restore.proofs.Rans.{look_else, look_if, ran_wrote, wrote_none}
use Rattle.btr_restore.proofs.lookups.find_sums.Goals as goal

pub returns-then-plan : goal.returns-then-plan
returns-then-plan g c x s e = look_if _ _ _ _ _ _ c.if-plan.true (ran_wrote _ _ _ x x _ c.requires (wrote_none None x))

pub returns : goal.returns
returns g c x s e = look_else _ _ _ _ _ _ c.if-plan.false (c.find_tree.ensures x s e)
