use Rattle.std.proofs.Common.{Ok, Err, sym, subst}
use Rattle.btr_prog.specs.Quiet.{quiet}
use Rattle.btr_super.specs.declared.superblock.Super.{Super}
use Rattle.btr_volume.specs.declared.stop.Stop.TheVariants.{Tree}
use Rattle.btr_restore.specs.Running.{Ran, world}
use Rattle.btr_restore.proofs.Rans.{can_look, ran_found, ran_fault}
use Rattle.btr_send.specs.Source.{source_of}
use Rattle.btr_send.proofs.source.find_source.Goals as goal

pub look_up-requires : goal.look_up-requires
look_up-requires g c = can_look c.requires

pub returns-in-Ok : goal.returns-in-Ok
returns-in-Ok g c x s d =
    subst (λ (t : Super). Ran (quiet (source_of t c.args.id)) (world (g.R.Rack.seen c.args.rack.now) c.args.vol.now x) (world
    (g.R.Rack.seen c.look_up.new.rack) c.look_up.new.vol x) (Ok c.in-Ok.found)) (sym d)
    (ran_found _ _ _ _ _ x c.in-Ok.found c.requires c.in-Ok.ensures)

pub returns-in-Err : goal.returns-in-Err
returns-in-Err g c x s d =
    subst (λ (t : Super). Ran (quiet (source_of t c.args.id)) (world (g.R.Rack.seen c.args.rack.now) c.args.vol.now x) (world
    (g.R.Rack.seen c.look_up.new.rack) c.look_up.new.vol x) (Err (Tree c.in-Err.fault))) (sym d)
    (ran_fault _ _ _ _ _ x c.in-Err.fault c.requires c.in-Err.ensures)
