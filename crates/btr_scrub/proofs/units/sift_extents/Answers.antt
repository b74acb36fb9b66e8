use Rattle.std.proofs.Common.{Option}
use Rattle.btr_scrub.proofs.Common.{TreeRoot, in_chunks, quiet, same_held, scene}
use Rattle.btr_volume.specs.Tree.{tree_of}
use Rattle.btr_volume.specs.declared.stop.Stop.TheVariants.{Tree}
use Rattle.btr_scrub.proofs.Gathering.{gathers_fault, gathers_found, gathers_halt}
use Rattle.btr_scrub.proofs.Sieved.{sieves_as, sieves_stop, sieves_then, stands_as}
use Rattle.btr_scrub.proofs.units.sift_extents.Goals as goal

pub returns-in-Err-clause-sieves : goal.returns-in-Err-clause-sieves
returns-in-Err-clause-sieves g c whole stands =
    let s = c.args.vol.now.sup in
    let old = g.R.Rack.seen c.args.rack.now in
    let new = g.R.Rack.seen c.tree.new.rack in
    let k = λ (sums : Option TreeRoot). in_chunks s sums c.args.extents.now c.args.vol.now.store.layout.chunks in
    sieves_stop (gathers_halt (quiet (tree_of s 7)) k (scene old c.args.vol.now whole) (scene new c.tree.new.self whole) (Tree c.in-Err.fault)
    (gathers_fault (tree_of s 7) old new c.args.vol.now c.tree.new.self whole c.in-Err.fault c.in-Err.ensures.serves
    c.in-Err.ensures.reads c.in-Err.ensures.same c.in-Err.ensures.cause c.in-Err.ensures.content))

pub returns-clause-sieves : goal.returns-clause-sieves
returns-clause-sieves g c whole stands =
    let s = c.args.vol.now.sup in
    let old = g.R.Rack.seen c.args.rack.now in
    let new = g.R.Rack.seen c.tree.new.rack in
    let layout = c.args.vol.now.store.layout in
    let sums = c.in-Ok.sums in
    let same = c.in-Ok.ensures.same in
    sieves_then (λ (sums : Option TreeRoot). in_chunks s sums c.args.extents.now layout.chunks)
    (gathers_found (tree_of s 7) old new c.args.vol.now c.tree.new.self whole sums stands.is_whole c.in-Ok.ensures.serves
    c.in-Ok.ensures.reads same c.in-Ok.ensures.content)
    (sieves_as (λ t l. in_chunks t sums c.args.extents.now l.chunks) same.sup same.store.layout
    (c.sift_chunks.ensures.sieves whole (stands_as same.store.layout (same_held c.in-Ok.ensures.reads) stands)))

pub sift_chunks-requires-clause-can : goal.sift_chunks-requires-clause-can
sift_chunks-requires-clause-can g c = rw c.in-Ok.ensures.same.store.layout c.requires.can
