use Rattle.std.proofs.Common.{Ok, subst, sym, refl}
use Rattle.btr_scrub.proofs.Common.{Checked, Gathered, Gathers, blocks_of, scene, tree_behind}
use Rattle.btr_read.specs.declared.want.Want.TheVariants.{Tree}
use Rattle.btr_scrub.proofs.Gathering.{gathers_memory, gathers_met, lists_added}
use Rattle.btr_scrub.proofs.collecting.gather_blocks.Goals as goal

pub returns-in-Ok : goal.returns-in-Ok
returns-in-Ok g c =
    let x = c.args.gathered.now in
    let y : Gathered = record { list = c.push_tree.new.self; unchecked = c.args.gathered.now.unchecked } in
    let rack = g.R.Rack.seen c.args.rack.now in
    let want = Tree c.args.extent.now.addr c.args.extent.now.generation c.in-Some.level in
    subst (λ o. Gathers (blocks_of c.args.vol.now.sup (tree_behind c.args.sums) c.args.extent.now o) (scene rack c.args.vol.now x)
    (scene rack c.args.vol.now y) (Ok tt)) (sym c.in-Some.is)
    (gathers_met (Checked want) rack c.args.vol.now x y (lists_added x y want c.in-Ok.ensures refl) c.requires.serves)

pub returns-in-Err : goal.returns-in-Err
returns-in-Err g c =
    gathers_memory (blocks_of c.args.vol.now.sup (tree_behind c.args.sums) c.args.extent.now c.args.extent.now.level)
    (g.R.Rack.seen c.args.rack.now) c.args.vol.now c.args.gathered.now
    (record { list = c.push_tree.new.self; unchecked = c.args.gathered.now.unchecked }) c.requires.serves
