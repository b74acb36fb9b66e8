use Rattle.std.proofs.lemmas.Result.{err_from_is_err_and}
use Rattle.std.proofs.Common.{◌∙◌, Err, ap}
use Rattle.btr_run.proofs.Filesystems.{opened_as, opened_content, refused_as, refused_content, refused_tree}
use Rattle.btr_run.proofs.filesystem.open_filesystem.Goals as goal

pub returns-clause-content : goal.returns-clause-content
returns-clause-content g c = opened_content (g.R.Rack.seen c.args.rack.now) (g.R.Rack.seen c.open.new.rack) c.in_ok-open.field-0 c.in_ok-open.ensures.content

pub returns-in_err-open-clause-content : goal.returns-in_err-open-clause-content
returns-in_err-open-clause-content g c =
    let old = g.R.Rack.seen c.args.rack.now in
    let new = g.R.Rack.seen c.open.new.rack in
    let p = err_from_is_err_and c.from_residual.result c.from_residual.ensures.1 in
    rw p.1 (refused_content old new c.in_err-open.field-0.0 p.0 p.2 c.in_err-open.ensures.cause c.in_err-open.ensures.content)

pub returns-clause-opened : goal.returns-clause-opened
returns-clause-opened g c = opened_as (g.R.Rack.seen c.args.rack.now) (g.R.Rack.seen c.open.new.rack) c.in_ok-open.field-0 c.in_ok-open.ensures.content

pub returns-in_err-open-clause-opened : goal.returns-in_err-open-clause-opened
returns-in_err-open-clause-opened g c =
    let p = err_from_is_err_and c.from_residual.result c.from_residual.ensures.1 in
    refused_as (g.R.Rack.seen c.args.rack.now) (g.R.Rack.seen c.open.new.rack) c.in_err-open.field-0.0 c.from_residual.result
    (p.1 ∙ ap (λ a. Err a) p.2) c.in_err-open.ensures.content

pub returns-in_err-open-clause-tree : goal.returns-in_err-open-clause-tree
returns-in_err-open-clause-tree g c =
    let old = g.R.Rack.seen c.args.rack.now in
    let new = g.R.Rack.seen c.open.new.rack in
    let p = err_from_is_err_and c.from_residual.result c.from_residual.ensures.1 in
    rw p.1 (refused_tree old new c.in_err-open.field-0.0 p.0 p.2 c.in_err-open.ensures.cause)
