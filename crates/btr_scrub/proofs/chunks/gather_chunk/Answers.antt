use Rattle.std.proofs.Common.{[], refl, sym, ap, ◌∙◌}
use Rattle.btr_scrub.proofs.Common.{Volume, key, scene, tree_behind}
use Rattle.btr_files.proofs.Sectors.{copied_is}
use Rattle.btr_walk.specs.Range.{range}
use Rattle.btr_scrub.proofs.Chunkwise.{gathers_scan, range_of_span}
use Rattle.btr_scrub.proofs.Scanning.{on_as}
use Rattle.btr_scrub.proofs.chunks.gather_chunk.Goals as goal

pub gather_items-end-requires-clause-on : goal.gather_items-end-requires-clause-on
gather_items-end-requires-clause-on g c B = on_as _ _ c.new-scan.result.lo c.new-scan.result.hi B [] c.new-scan.result.place c.new-scan.ensures.lo
    c.new-scan.ensures.hi (c.new-scan.ensures.on B)

pub returns : goal.returns
returns g c chunk span there =
    let x = scene (g.R.Rack.seen c.args.rack.now) c.args.vol.now c.args.gathered.now in
    let y = scene (g.R.Rack.seen c.gather_items-end.new.rack) c.gather_items-end.new.vol c.gather_items-end.new.gathered in
    let after : Volume = record { store = c.finish.new.store; sup = c.gather_items-end.new.vol.sup } in
    rw (sym (copied_is c.as_ref.result ∙ c.as_ref.ensures.value))
    (gathers_scan c.args.vol.now.sup (tree_behind c.as_ref.result) chunk x y c.new-scan.result c.gather_items-end.new.scan c.gather_items-end.result after _
    (c.gather_items-end.ensures.scanned chunk span there) refl refl c.finish.ensures.back
    (c.finish.ensures.serves (g.R.Rack.seen c.gather_items-end.new.rack) c.gather_items-end.ensures.ready.serves) c.new-scan.ensures.leaf
    (λ B. c.new-scan.ensures.program B c.args.vol.now.store ∙ ap (λ k. range k c.last_key.result c.args.trees.now.extents.place) c.first_key.ensures
    ∙ ap (λ k. range (key c.args.span.now.start 0 0) k c.args.trees.now.extents.place) c.last_key.ensures
    ∙ range_of_span c.args.span.now chunk c.args.trees.now.extents.place span))
