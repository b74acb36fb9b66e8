use Rattle.std.proofs.Common.{Option, Some, None, Ok, Err, refl, sym, subst}
use Rattle.btr_super.specs.declared.superblock.Super.{Super}
use Rattle.btr_volume.specs.Looking.{Looks}
use Rattle.btr_volume.specs.Tree.{tree_of}
use Rattle.btr_volume.specs.declared.root.TreeRoot.{TreeRoot}
use Rattle.btr_volume.specs.declared.stop.Stop.TheVariants.{Tree}
use Rattle.btr_resolve.specs.Resolving.{subvolume_told, tree_told}
use Rattle.btr_resolve.specs.Running.{Ran, counted, world}
use Rattle.btr_resolve.proofs.Rans.{look_halt, look_then, ran_fault, ran_found, ran_none}
use Rattle.btr_resolve.proofs.resolving.tell_subvolume.Goals as goal

pub returns-in-Err : goal.returns-in-Err
returns-in-Err g c s same =
    let text = g.O.Out.text c.args.out.now in
    let calls = g.O.Out.account c.args.out.now in
    let x = world (g.R.Rack.seen c.args.rack.now) c.args.vol.now text calls in
    let y = world (g.R.Rack.seen c.tree.new.rack) c.tree.new.self text calls in
    let e = c.in-Err.ensures in
    subst (λ (t : Super). Ran (subvolume_told t c.args.addr c.args.report.now.count c.args.id) x y (Err (Tree c.in-Err.fault))) (sym same)
    (look_halt (tree_of c.args.vol.now.sup c.args.id) (tree_told c.args.addr c.args.report.now.count) x y _
    (Tree c.in-Err.fault) (ran_fault _ _ _ _ _ text calls c.in-Err.fault c.requires.ready e.serves e.reads e.same e.cause e.content) refl)

pub returns-in-Ok-None : goal.returns-in-Ok-None
returns-in-Ok-None g c s same =
    let text = g.O.Out.text c.args.out.now in
    let calls = g.O.Out.account c.args.out.now in
    let vol = c.args.vol.now in
    let old = g.R.Rack.seen c.args.rack.now in
    let new = g.R.Rack.seen c.tree.new.rack in
    let x = world old vol text calls in
    let y = world new c.tree.new.self text calls in
    let e = c.in-Ok-None.ensures in
    let looked = subst (λ (o : Option TreeRoot). Looks vol.store.layout old new (tree_of vol.sup c.args.id) (Ok o))
    c.in-Ok-None.field-0-is e.content in
    let h = ran_found (tree_of vol.sup c.args.id) old new vol c.tree.new.self text calls None c.requires.ready e.serves e.reads e.same looked in
    subst (λ (t : Super). Ran (subvolume_told t c.args.addr c.args.report.now.count c.args.id) x y (Ok c.args.report.now.count)) (sym same)
    (look_then (tree_of vol.sup c.args.id) (tree_told c.args.addr c.args.report.now.count) x y _ y None
    (Ok c.args.report.now.count) h refl (ran_none y h.ready c.args.report.now.count))

pub returns-in-Ok-Some : goal.returns-in-Ok-Some
returns-in-Ok-Some g c s same =
    let text = g.O.Out.text c.args.out.now in
    let calls = g.O.Out.account c.args.out.now in
    let vol = c.args.vol.now in
    let old = g.R.Rack.seen c.args.rack.now in
    let new = g.R.Rack.seen c.tree.new.rack in
    let x = world old vol text calls in
    let y = world new c.tree.new.self text calls in
    let z = world (g.R.Rack.seen c.tell_owners.new.rack) c.tell_owners.new.vol (g.O.Out.text c.tell_owners.new.out)
    (g.O.Out.account c.tell_owners.new.out) in
    let answer = counted c.tell_owners.new.report.count c.tell_owners.result in
    let e = c.in-Ok-Some.ensures in
    let tree = c.in-Ok-Some.tree in
    let looked = subst (λ (o : Option TreeRoot). Looks vol.store.layout old new (tree_of vol.sup c.args.id) (Ok o))
    c.in-Ok-Some.field-0-is e.content in
    let h = ran_found (tree_of vol.sup c.args.id) old new vol c.tree.new.self text calls
    (Some tree) c.requires.ready e.serves e.reads e.same looked in
    subst (λ (t : Super). Ran (subvolume_told t c.args.addr c.args.report.now.count c.args.id) x z answer) (sym same)
    (look_then (tree_of vol.sup c.args.id) (tree_told c.args.addr c.args.report.now.count) x y _ z (Some tree) answer h refl c.tell_owners.ensures)
