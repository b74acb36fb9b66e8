use Rattle.std.proofs.Common.{Ok, Err, Some, refl, ap, ◌∙◌, subst}
use Rattle.btr_walk.specs.declared.fault.TreeFault.TheVariants.{Malformed}
use Rattle.btr_walk.specs.Showing.{item_of}
use Rattle.btr_files.specs.declared.dir_row.DirRow.{DirRow}
use Rattle.btr_files.specs.Listing.{IsRowBy}
use Rattle.btr_files.proofs.Rows.{name_fits}
use Rattle.btr_files.proofs.dir.row_found.Goals as goal

pub set-requires : goal.set-requires
set-requires c = name_fits c.args.found.now.body.now c.in-Ok.entry c.name.result.now c.in-Ok.ensures.form c.in-Ok.ensures.name c.name.ensures

pub returns-in-Ok-clause-row : goal.returns-in-Ok-clause-row
returns-in-Ok-clause-row c =
    let row : DirRow = record { index = c.args.found.now.key.offset; kind = c.in-Ok.entry.kind; location = c.in-Ok.entry.location } in
    subst (λ r. IsRowBy (item_of c.args.found.now) c.set.new.self r (Ok (Some row))) c.in-Ok.ensures.form
    (ap (λ n. record { row = row; name = n }) (c.set.ensures ∙ c.name.ensures))

pub returns-in-Err-clause-row : goal.returns-in-Err-clause-row
returns-in-Err-clause-row c = subst (λ r. IsRowBy (item_of c.args.found.now) c.args.name.now r (Err (Malformed c.args.found.now.block)))
    c.in-Err.ensures.form refl
