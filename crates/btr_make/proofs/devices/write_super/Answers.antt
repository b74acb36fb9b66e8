use Rattle.btr_make.proofs.Standings.{standing_pokes}
use Rattle.btr_make.proofs.devices.write_super.Goals as goal

pub returns-in_err-put_super : goal.returns-in_err-put_super
returns-in_err-put_super c = standing_pokes _ _ _ _ _ _ c.put_super.ensures

pub returns : goal.returns
returns c = standing_pokes _ _ _ _ _ _ c.put_super.ensures
