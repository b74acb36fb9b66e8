use Rattle.std.proofs.Common.{◌≡◌, ◌*◌, false, length, replicate, ap, ◌∙◌, arith, rules}
use Rattle.std.proofs.lemmas.List.{length-replicate}
use Rattle.btr_pool.specs.Slots.{pieces}
use Rattle.btr_pool.proofs.Pieces.{pieces-replicate}
use Rattle.btr_pool.proofs.pool.Pool.new.Goals as goal

pub returns : goal.returns
returns c =
    let region : c.in-Ok.region.items ≡ replicate (c.args.size * c.args.count) 0 = search rules in
    let turned : c.args.size * c.args.count ≡ c.args.count * c.args.size = omega arith in
    let bytes : pieces (length c.new.result) c.args.size c.in-Ok.region.items ≡ replicate c.args.count (replicate c.args.size 0) =
    (λ i. pieces ((ap length c.new.ensures ∙ length-replicate c.args.count false) i) c.args.size ((region ∙ ap (λ n. replicate n 0) turned) i))
    ∙ pieces-replicate c.args.count c.args.size in
    λ i. record { size = c.args.size; lent = c.new.ensures i; bytes = bytes i }
