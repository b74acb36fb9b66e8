use Rattle.std.proofs.Common.{◌∙◌, ◌+◌, ◌*◌, ◌++◌, ◌∷◌, [], sym, ap, arith, rules}
use Rattle.std.proofs.lemmas.List.FromFn.{map-range_with_len_more}
use Rattle.btr_chunk.specs.Item.{stripe_at}
use Rattle.btr_chunk.proofs.stripes.Stripes.read.Goals as goal

pub loop-i-preserved : goal.loop-i-preserved
loop-i-preserved c =
    let more = map-range_with_len_more (λ i. stripe_at (48 + 32 * i) c.args.bytes.now) 0 c.loop-i.i c.loop-i.i (omega arith) in
    record {
      items = c.in_ok-push.ensures.items ∙ ap (λ xs. xs ++ c.read.result ∷ []) c.loop-i.invariant.items ∙ rw c.read.ensures (sym more);
      len = search rules;
    }
