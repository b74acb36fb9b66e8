use Rattle.std.proofs.Common.{Ok, Err, sym, subst}
use Rattle.btr_prog.specs.Quiet.{quiet}
use Rattle.btr_super.specs.declared.superblock.Super.{Super}
use Rattle.btr_volume.specs.Tree.{tree_of}
use Rattle.btr_volume.specs.declared.stop.Stop.TheVariants.{Tree}
use Rattle.btr_listing.proofs.Looking.{looked_by}
use Rattle.btr_restore.specs.Running.{Ran, world}
use Rattle.btr_restore.proofs.Rans.{can_look, ran_found, ran_fault}
use Rattle.btr_restore.proofs.lookups.find_tree.Goals as goal

pub returns-in-Ok : goal.returns-in-Ok
returns-in-Ok g c x s d =
    subst (λ (t : Super). Ran (quiet (tree_of t c.args.id)) (world (g.R.Rack.seen c.args.rack.now) c.args.vol.now x)
    (world (g.R.Rack.seen c.tree.new.rack) c.tree.new.self x) (Ok c.in-Ok.found)) (sym d)
    (ran_found _ _ _ _ _ x c.in-Ok.found c.requires (looked_by _ (Ok c.in-Ok.found) (can_look c.requires) c.in-Ok.ensures.serves c.in-Ok.ensures.reads
    c.in-Ok.ensures.same tt c.in-Ok.ensures.content))

pub returns-in-Err : goal.returns-in-Err
returns-in-Err g c x s d =
    subst (λ (t : Super). Ran (quiet (tree_of t c.args.id)) (world (g.R.Rack.seen c.args.rack.now) c.args.vol.now x)
    (world (g.R.Rack.seen c.tree.new.rack) c.tree.new.self x) (Err (Tree c.in-Err.fault))) (sym d)
    (ran_fault _ _ _ _ _ x c.in-Err.fault c.requires (looked_by _ (Err c.in-Err.fault) (can_look c.requires) c.in-Err.ensures.serves
    c.in-Err.ensures.reads c.in-Err.ensures.same c.in-Err.ensures.cause c.in-Err.ensures.content))
