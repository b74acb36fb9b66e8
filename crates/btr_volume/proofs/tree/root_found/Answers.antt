use Rattle.std.proofs.Common.{◌∙◌, sym}
use Rattle.btr_walk.specs.Showing.{item_of}
use Rattle.btr_volume.proofs.Roots.{found_ok, found_err}
use Rattle.btr_volume.proofs.tree.root_found.Goals as goal

pub returns-in-Ok : goal.returns-in-Ok
returns-in-Ok c = found_ok (item_of c.args.found.now) c.args.id c.in-Ok.root (sym c.is_root_of.ensures ∙ c.if-is_root_of.true)
    (sym c.root_at.ensures ∙ c.in-Ok.is)

pub returns-in-Err : goal.returns-in-Err
returns-in-Err c = found_err (item_of c.args.found.now) c.args.id c.in-Err.field-0 (sym c.is_root_of.ensures ∙ c.if-is_root_of.true)
    (sym c.root_at.ensures ∙ c.in-Err.is)
