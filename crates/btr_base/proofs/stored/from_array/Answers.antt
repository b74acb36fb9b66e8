use Rattle.std.proofs.Common.{◌∙◌, ap, ◌++◌, ◌-◌, replicate}
use Rattle.std.proofs.lemmas.List.{drop-replicate}
use Rattle.btr_base.proofs.stored.from_array.Goals as goal

pub returns-clause-bytes : goal.returns-clause-bytes
returns-clause-bytes g c =
    ap (λ rest. c.copy_from_slice.new.self ++ rest) (drop-replicate g.row.N 32 0)
    ∙ ap (λ front. front ++ replicate (32 - g.row.N) 0) c.copy_from_slice.ensures.after
