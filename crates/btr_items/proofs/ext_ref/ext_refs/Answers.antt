use Rattle.std.proofs.Common.{sym, subst, length}
use Rattle.std.specs.List.{All}
use Rattle.std.specs.Result.{IfOk}
use Rattle.btr_items.specs.Form.{HasName}
use Rattle.btr_items.specs.ExtRef.{ext_ref_at}
use Rattle.btr_items.specs.declared.ext_ref.ExtRef.{ExtRef}
use Rattle.btr_items.proofs.Names.{ext_ref_named}
use Rattle.btr_items.proofs.Walks.{all_parts}
use Rattle.btr_items.proofs.ext_ref.ext_refs.Goals as goal

pub returns-clause-names : goal.returns-clause-names
returns-clause-names c =
    let body = c.args.body.now in
    subst (All (λ read. IfOk read (λ (part : ExtRef). HasName body part.name_at part.name_len))) (sym c.new.ensures)
    (all_parts ext_ref_at (λ part. part.end) (λ read. IfOk read (λ (part : ExtRef). HasName body part.name_at part.name_len)) body
    (λ at. ext_ref_named at body) (length body) 0)
