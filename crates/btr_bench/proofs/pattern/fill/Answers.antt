use Rattle.std.proofs.Common.{◌+◌, ◌*◌, ◌%◌, length, arith}
use Rattle.std.proofs.lemmas.List.FromFn.{fill_by_all}
use Rattle.btr_bench.proofs.pattern.fill.Goals as goal

pub returns : goal.returns
returns c =
    fill_by_all (λ i. (7 * i + 3) % 256) c.loop-place.piece (length c.args.piece.now) 0 c.loop-place.auto.piece
    (λ i lt. c.loop-place.invariant.filled i (omega arith))
