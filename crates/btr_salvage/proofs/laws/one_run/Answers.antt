use Rattle.btr_salvage.specs.Salvaging.{salvaging}
use Rattle.btr_prog.proofs.Attempts.{tries_one}
use Rattle.btr_salvage.proofs.laws.one_run.Goals as goal

pub returns : goal.returns
returns c plan dest s Bs B r same h = tries_one Bs B same (salvaging plan dest s) r h
