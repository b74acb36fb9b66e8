use Rattle.std.proofs.Common.{◌∙◌}
use Rattle.btr_make.proofs.Ready.{ready_stays}
use Rattle.btr_make.proofs.made.made.Goals as goal

pub loop-i-preserved : goal.loop-i-preserved
loop-i-preserved c = ready_stays _ _ c.loop-i.invariant c.put_directory.ensures

pub returns : goal.returns
returns c = ready_stays _ _ c.loop-i.invariant (c.finish.ensures ∙ c.plant_top.ensures)
