use Rattle.std.proofs.Common.{◌∙◌, ap}
use Rattle.std.specs.Str.{bytes_eq}
use Rattle.std.proofs.lemmas.List.{take_rest}
use Rattle.btr_base.specs.Sum.{sum_of, stored_sum}
use Rattle.btr_base.specs.declared.stored.Sum.{Sum}
use Rattle.btr_base.proofs.summed.is_summed.Goals as goal

pub returns : goal.returns
returns c =
    c.eq.ensures
    ∙ ap (λ (s : Sum). bytes_eq s.bytes c.sum.result.bytes) c.read.ensures
    ∙ ap (λ (s : Sum). bytes_eq (stored_sum c.args.kind c.args.bytes.now).bytes s.bytes)
    (c.sum.ensures ∙ ap (sum_of c.args.kind) (take_rest c.args.bytes.now 32))
