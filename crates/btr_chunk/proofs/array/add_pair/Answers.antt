use Rattle.std.proofs.Common.{ℕ, Err, ap, ◌∙◌}
use Rattle.std.proofs.lemmas.Result.{err_from_is_err_and}
use Rattle.btr_base.specs.declared.key.Key.{Key}
use Rattle.btr_chunk.proofs.Arrays.{first_pair-is, IsItemReading-same}
use Rattle.btr_chunk.proofs.array.add_pair.Goals as goal

pub returns-in_err-add_item-clause-pair : goal.returns-in_err-add_item-clause-pair
returns-in_err-add_item-clause-pair c =
    let p = err_from_is_err_and c.from_residual.result c.from_residual.ensures.1 in
    let first = first_pair-is c.args.table.now c.args.bytes.now c.read-start.result.offset c.in-Some.size c.in-Some.ensures.0
    (ap (λ (k : Key). k.offset) c.read-start.ensures) c.in-Some.ensures.1 in
    rw (p.1, p.2) (IsItemReading-same ℕ _ _ (Err c.in_err-add_item.field-0.0) c.add_item.new.table first c.in_err-add_item.ensures)

pub returns-clause-pair : goal.returns-clause-pair
returns-clause-pair c =
    first_pair-is c.args.table.now c.args.bytes.now c.read-start.result.offset c.in-Some.size c.in-Some.ensures.0
    (ap (λ (k : Key). k.offset) c.read-start.ensures) c.in-Some.ensures.1
    ∙ c.in_ok-add_item.ensures
