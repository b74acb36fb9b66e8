use Rattle.std.proofs.Common.{arith}
use Rattle.btr_chunk.proofs.Rule.{stripe-fits}
use Rattle.btr_chunk.proofs.mapping.place_of.Goals as goal

pub overflow_add-result : goal.overflow_add-result
overflow_add-result c = omega (arith, stripe-fits c.args.chunk.now c.stripe_number.result c.at-stripe.result c.requires.chunk c.at-stripe.ensures)

pub overflow_add-result-2 : goal.overflow_add-result-2
overflow_add-result-2 c = omega (arith, stripe-fits c.args.chunk.now c.stripe_number.result c.at-stripe.result c.requires.chunk c.at-stripe.ensures)
