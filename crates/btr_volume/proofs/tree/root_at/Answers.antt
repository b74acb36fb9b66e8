use Rattle.std.proofs.Common.{◌∙◌, ap, sym}
use Rattle.std.proofs.lemmas.Result.{err_from_is_err_and}
use Rattle.btr_items.specs.Form.{map_ok}
use Rattle.btr_volume.specs.Tree.{described}
use Rattle.btr_volume.proofs.Roots.{root_long, root_read}
use Rattle.btr_volume.proofs.tree.root_at.Goals as goal

pub bounds-body-238 : goal.bounds-body-238
bounds-body-238 c = root_long c.args.body.now c.in_ok-root.root (sym c.read.ensures ∙ c.in_ok-root.was)

pub returns : goal.returns
returns c = sym (root_read c.args.key c.args.body.now c.in_ok-root.root (sym c.read.ensures ∙ c.in_ok-root.was))

pub returns-in_err-root : goal.returns-in_err-root
returns-in_err-root c =
    let p = err_from_is_err_and c.from_residual.result c.from_residual.ensures.1 in
    rw (p.1, p.2) (sym (ap (map_ok (described c.args.key)) (sym c.read.ensures ∙ c.in_err-root.was)))
