use Rattle.std.proofs.Common.{Ok, Err}
use Rattle.btr_walk.specs.Showing.{item_of}
use Rattle.btr_dump.proofs.Turning.{item_root_read}
use Rattle.btr_dump.proofs.trees.root_in.Goals as goal

pub returns-in-Ok : goal.returns-in-Ok
returns-in-Ok c = item_root_read (item_of c.args.found.now) (Ok c.in-Ok.root) c.if-found.false c.in-Ok.ensures

pub returns-in-Err : goal.returns-in-Err
returns-in-Err c = item_root_read (item_of c.args.found.now) (Err c.in-Err.field-0) c.if-found.false c.in-Err.ensures
