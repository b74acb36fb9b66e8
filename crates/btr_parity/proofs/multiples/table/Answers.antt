use Rattle.std.proofs.Common.{◌*◌, ◌<◌, ◌≢◌, length, ◌∙◌, arith, below_more}
use Rattle.std.proofs.lemmas.List.{length-set, get_or-set_same, get_or-set_other}
use Rattle.std.proofs.lemmas.List.FromFn.{fill_by_all}
use Rattle.btr_parity.specs.Field.{product}
use Rattle.btr_parity.proofs.multiples.table.Goals as goal

pub loop-k-preserved : goal.loop-k-preserved
loop-k-preserved c = (
  length-set c.loop-k.entries c.loop-k.k c.product.result ∙ c.loop-k.invariant.0,
  below_more _ _
      (λ k lt. let ne : k ≢ c.loop-k.k = omega arith in rw get_or-set_other (c.loop-k.invariant.1 k lt))
      (let within : c.loop-k.k < length c.loop-k.entries = omega arith in rw get_or-set_same c.product.ensures),
)

pub returns : goal.returns
returns c = fill_by_all (λ k. product c.args.factor (c.args.step * k)) c.loop-k.entries 16 0 c.loop-k.invariant.0 (λ k lt. c.loop-k.invariant.1 k (omega arith))
