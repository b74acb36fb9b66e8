use Rattle.std.proofs.Common.{Ok, Err}
use Rattle.std.proofs.lemmas.Result.{err_from_is_err_and}
use Rattle.btr_walk.specs.Folding.{fold_answer}
use Rattle.btr_files.proofs.Gathered.{told_names}
use Rattle.btr_files.proofs.gathering.names.Goals as goal

pub returns-in_err-list-clause-content : goal.returns-in_err-list-clause-content
returns-in_err-list-clause-content g c =
    let p = err_from_is_err_and c.from_residual.result c.from_residual.ensures.1 in
    rw (p.1, p.2)
    (told_names c.args.vol.now.store.layout (g.R.Rack.seen c.args.rack.now)
    (g.R.Rack.seen c.fold.new.rack) c.args.tree.now c.args.ino c.emptied.result c.key_of-lo.result c.key_of-hi.result
    (fold_answer (Err c.in_err-list.field-0.0))
    c.emptied.ensures c.key_of-lo.ensures c.key_of-hi.ensures c.in_err-list.ensures.content)

pub returns-clause-content : goal.returns-clause-content
returns-clause-content g c =
    told_names c.args.vol.now.store.layout (g.R.Rack.seen c.args.rack.now)
    (g.R.Rack.seen c.fold.new.rack) c.args.tree.now c.args.ino c.emptied.result c.key_of-lo.result c.key_of-hi.result (Ok c.in_ok-list.field-0)
    c.emptied.ensures c.key_of-lo.ensures c.key_of-hi.ensures c.in_ok-list.ensures.content
