use Rattle.btr_make.proofs.Standings.{standing_pokes}
use Rattle.btr_make.proofs.disks.write_at.Goals as goal

pub returns-in_err-poke : goal.returns-in_err-poke
returns-in_err-poke c = standing_pokes _ _ _ _ _ _ c.poke.ensures

pub returns : goal.returns
returns c = standing_pokes _ _ _ _ _ _ c.poke.ensures
