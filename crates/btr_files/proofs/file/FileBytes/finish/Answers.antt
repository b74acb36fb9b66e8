use Rattle.std.proofs.Common.{sym, subst}
use Rattle.btr_read.specs.Serves.{Serves}
use Rattle.btr_volume.proofs.Looked.{served_base}
use Rattle.btr_files.proofs.file.FileBytes.finish.Goals as goal

pub returns-clause-serves : goal.returns-clause-serves
returns-clause-serves c rack serves = subst (Serves rack) (sym c.give_back.ensures) (served_base rack c.args.vol.now.store c.args.self.loan serves)
