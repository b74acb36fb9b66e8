use Rattle.std.proofs.Common.{arith}
use Rattle.btr_chunk.proofs.Rule.{stripe-fits, stripe_length-some}
use Rattle.btr_chunk.proofs.index.shares_range.Goals as goal

pub meets-requires-clause-some : goal.meets-requires-clause-some
meets-requires-clause-some c = omega (arith, stripe_length-some c.args.chunk.now c.requires.chunk)

pub meets-requires-clause-fits : goal.meets-requires-clause-fits
meets-requires-clause-fits c = omega (arith, stripe-fits c.args.chunk.now c.loop-i.i c.at.result c.requires.chunk c.at.ensures)
