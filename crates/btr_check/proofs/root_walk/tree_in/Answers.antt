use Rattle.std.proofs.Common.{Ok, Err}
use Rattle.btr_check.proofs.Roots.{tree_read}
use Rattle.btr_check.proofs.root_walk.tree_in.Goals as goal

pub returns-in-Ok : goal.returns-in-Ok
returns-in-Ok c = tree_read c.args.key c.args.body.now (Ok c.in-Ok.root) c.if-key-ne-ROOT_ITEM.false c.in-Ok.ensures

pub returns-in-Err : goal.returns-in-Err
returns-in-Err c = tree_read c.args.key c.args.body.now (Err c.in-Err.field-0) c.if-key-ne-ROOT_ITEM.false c.in-Err.ensures
