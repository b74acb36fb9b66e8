use Rattle.std.proofs.Common.{arith}
use Rattle.btr_base.proofs.crc.fold.begin.Goals as goal

pub loop-k-init : goal.loop-k-init
loop-k-init c =
    record {
      sized = omega (arith, c.told-dropped);
      first = λ i lt. absurd (omega arith);
      zeros = λ i le small. c.requires i small;
    }
