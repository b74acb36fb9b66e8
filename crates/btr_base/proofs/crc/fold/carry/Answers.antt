use Rattle.std.proofs.Common.{arith}
use Rattle.btr_base.proofs.Behind.{moved_front}
use Rattle.btr_base.proofs.crc.fold.carry.Goals as goal

pub returns : goal.returns
returns c =
    moved_front c.loop-k.dropped c.args.dropped.now 4096 c.loop-k.invariant.sized c.told-dropped (omega arith)
    (λ i lt. c.loop-k.invariant.moved i (omega arith))
