use Rattle.std.proofs.Common.{Ok, Some, None, refl, sym, ap, ◌∙◌, arith}
use Rattle.btr_prog.specs.Prog.{Return}
use Rattle.btr_walk.specs.Showing.{item_of}
use Rattle.btr_resolve.specs.Owning.{owner_if}
use Rattle.btr_resolve.proofs.Owning.{extent_fits, met_behind, met_late}
use Rattle.btr_resolve.proofs.owners.owner_in.Goals as goal

pub returns-then-from-end_in : goal.returns-then-from-end_in
returns-then-from-end_in c = (
  met_late c.args.addr c.args.tree.now c.args.met.now
      (item_of c.args.found.now) c.if-found-ne-EXTENT_DATA.false c.in-Ok.extent c.in-Ok.ensures.form
      (omega (arith, c.if-from-end_in.true, c.from.ensures, c.end_in.ensures)),
  refl,
)

pub position_in-requires : goal.position_in-requires
position_in-requires c = extent_fits c.args.found.now.key.offset c.args.found.now.body.now c.in-Ok.extent c.in-Ok.ensures.form

pub returns-in-None : goal.returns-in-None
returns-in-None c =
    met_behind c.args.addr c.args.tree.now c.args.met.now
    (item_of c.args.found.now) c.if-found-ne-EXTENT_DATA.false c.in-Ok.extent c.in-Ok.ensures.form
    (omega (arith, c.if-from-end_in.false, c.from.ensures, c.end_in.ensures)) None (sym c.in-None.is ∙ c.position_in.ensures)
    ∙ ap (λ n. Return (Ok (record { inode = c.args.found.now.key.objectid; end = n }))) (sym c.end.ensures)

pub returns-in-Some : goal.returns-in-Some
returns-in-Some c =
    met_behind c.args.addr c.args.tree.now c.args.met.now
    (item_of c.args.found.now) c.if-found-ne-EXTENT_DATA.false c.in-Ok.extent c.in-Ok.ensures.form
    (omega (arith, c.if-from-end_in.false, c.from.ensures, c.end_in.ensures)) (Some c.in-Some.position) (sym c.in-Some.is ∙ c.position_in.ensures)
    ∙ ap (λ n. owner_if c.args.tree.now c.args.found.now.key.objectid (Some c.in-Some.position)
    (record { inode = c.args.found.now.key.objectid; end = n })) (sym c.end.ensures)
