use Rattle.std.proofs.Common.{arith}
use Rattle.std.proofs.lemmas.Grind.{common_steps}
use Rattle.btr_rack.proofs.Outputs.{text_more}
use Rattle.btr_rack.proofs.std_out.write_all.Goals as goal

pub loop-done-preserved-in-Ok : goal.loop-done-preserved-in-Ok
loop-done-preserved-in-Ok g c = record {
  done = grind (arith, common_steps, c.in-Ok.ensures.count);
  tries = omega arith;
  text = text_more _ _ _ _ _ _ c.loop-done.invariant.text c.in-Ok.ensures.count.1 c.in-Ok.ensures.noted;
}
