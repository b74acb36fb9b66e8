use Rattle.btr_files.proofs.Rows.{name_fits}
use Rattle.btr_salvage.proofs.folder.in_item.Goals as goal

pub set-requires : goal.set-requires
set-requires c = name_fits c.args.met.now.body.now c.in-Ok.entry c.name.result.now c.in-Ok.ensures.form c.in-Ok.ensures.name c.name.ensures
