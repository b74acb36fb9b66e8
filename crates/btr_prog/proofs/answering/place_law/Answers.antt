use Rattle.btr_prog.proofs.Places.{unread_place, broke_place}
use Rattle.btr_prog.proofs.answering.place_law.Goals as goal

pub returns : goal.returns
returns g c = record { unread = unread_place g.U.Cause.is; broke = broke_place g.U.Cause.is }
