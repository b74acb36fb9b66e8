use Rattle.std.proofs.Common.{Option, Some, None, Ok, refl, subst}
use Rattle.btr_scrub.proofs.Common.{Looks, TreeRoot, quiet, same_held, scene}
use Rattle.btr_read.specs.Fate as fate
use Rattle.btr_volume.specs.Tree.{tree_of}
use Rattle.btr_volume.specs.declared.stop.Stop.TheVariants.{NoTree, Tree}
use Rattle.btr_scrub.specs.Units.{with_extents}
use Rattle.btr_scrub.proofs.Gathering.{gathers_fault, gathers_found, gathers_halt, gathers_stop}
use Rattle.btr_scrub.proofs.Sieved.{sieves_as, sieves_stop, sieves_then, stands_as}
use Rattle.btr_scrub.proofs.units.sift_all.Goals as goal

pub returns-in-Err-clause-sieves : goal.returns-in-Err-clause-sieves
returns-in-Err-clause-sieves g c whole stands =
    let s = c.args.vol.now.sup in
    let old = g.R.Rack.seen c.args.rack.now in
    let new = g.R.Rack.seen c.tree.new.rack in
    sieves_stop (gathers_halt (quiet (tree_of s 2)) (with_extents s c.args.vol.now.store.layout.chunks) (scene old c.args.vol.now whole)
    (scene new c.tree.new.self whole) (Tree c.in-Err.fault)
    (gathers_fault (tree_of s 2) old new c.args.vol.now c.tree.new.self whole c.in-Err.fault c.in-Err.ensures.serves
    c.in-Err.ensures.reads c.in-Err.ensures.same c.in-Err.ensures.cause c.in-Err.ensures.content))

pub returns-in-Ok-None-clause-sieves : goal.returns-in-Ok-None-clause-sieves
returns-in-Ok-None-clause-sieves g c whole stands =
    let s = c.args.vol.now.sup in
    let old = g.R.Rack.seen c.args.rack.now in
    let new = g.R.Rack.seen c.tree.new.rack in
    let chunks = c.args.vol.now.store.layout.chunks in
    let mid = scene new c.tree.new.self whole in
    sieves_then (with_extents s chunks)
    (gathers_found (tree_of s 2) old new c.args.vol.now c.tree.new.self whole None stands.is_whole c.in-Ok-None.ensures.serves
    c.in-Ok-None.ensures.reads c.in-Ok-None.ensures.same
    (subst (λ (r : Option TreeRoot). Looks c.args.vol.now.store.layout old new (tree_of s 2) (Ok r)) c.in-Ok-None.field-0-is c.in-Ok-None.ensures.content))
    (sieves_stop (gathers_stop (fate.NoTree 2) (NoTree 2) mid c.in-Ok-None.ensures.serves (λ B. (refl, refl)) tt))

pub returns-in-Ok-Some-clause-sieves : goal.returns-in-Ok-Some-clause-sieves
returns-in-Ok-Some-clause-sieves g c whole stands =
    let s = c.args.vol.now.sup in
    let old = g.R.Rack.seen c.args.rack.now in
    let new = g.R.Rack.seen c.tree.new.rack in
    let layout = c.args.vol.now.store.layout in
    let extents = c.in-Ok-Some.extents in
    let same = c.in-Ok-Some.ensures.same in
    sieves_then (with_extents s layout.chunks)
    (gathers_found (tree_of s 2) old new c.args.vol.now c.tree.new.self whole (Some extents) stands.is_whole
    c.in-Ok-Some.ensures.serves c.in-Ok-Some.ensures.reads same
    (subst (λ (r : Option TreeRoot). Looks layout old new (tree_of s 2) (Ok r)) c.in-Ok-Some.field-0-is c.in-Ok-Some.ensures.content))
    (sieves_as (λ t l. with_extents t l.chunks (Some extents)) same.sup same.store.layout
    (c.sift_extents.ensures.sieves whole (stands_as same.store.layout (same_held c.in-Ok-Some.ensures.reads) stands)))

pub sift_extents-requires-clause-can : goal.sift_extents-requires-clause-can
sift_extents-requires-clause-can g c = rw c.in-Ok-Some.ensures.same.store.layout c.requires.can
