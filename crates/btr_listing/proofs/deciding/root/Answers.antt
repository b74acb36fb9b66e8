use Rattle.std.proofs.Common.{sym, subst}
use Rattle.btr_prog.specs.Prog.{Return}
use Rattle.btr_volume.specs.Tree.{tree_of}
use Rattle.btr_listing.specs.Deciding.{Fits, root_found}
use Rattle.btr_listing.specs.Looked.{met_by}
use Rattle.btr_listing.proofs.Decidings.{root_fits}
use Rattle.btr_listing.proofs.Looking.{looked_by, looked_halt, looked_last, looked_passed}
use Rattle.btr_listing.proofs.deciding.root.Goals as goal

pub returns-in_err-found-clause-looked : goal.returns-in_err-found-clause-looked
returns-in_err-found-clause-looked g c =
    let p = tree_of c.args.vol.now.sup c.args.entry.now.row.location.objectid in
    looked_passed _ c.from_residual.ensures.1
    (looked_halt p (λ s found. Return (root_found c.args.rules.now found)) c.in_err-found.field-0.0
    (looked_by _ _ c.requires.ready c.tree.ensures.serves c.tree.ensures.reads c.tree.ensures.same
    c.tree.ensures.cause c.tree.ensures.content) (c.in_err-found.was {u = tt}))

pub returns-clause-looked : goal.returns-clause-looked
returns-clause-looked g c =
    let p = tree_of c.args.vol.now.sup c.args.entry.now.row.location.objectid in
    looked_last p (root_found c.args.rules.now) c.in_ok-found.found c.by_root.result
    (looked_by _ _ c.requires.ready c.tree.ensures.serves c.tree.ensures.reads c.tree.ensures.same
    c.tree.ensures.cause c.tree.ensures.content)
    (c.in_ok-found.was {u = tt}) c.by_root.ensures

pub returns-clause-fits : goal.returns-clause-fits
returns-clause-fits g c =
    let met = met_by c.args.entry.now in
    subst (Fits c.args.rules.now met) (sym c.by_root.ensures)
    (root_fits c.args.rules.now met c.requires.good c.requires.shallow c.in_ok-found.found)
