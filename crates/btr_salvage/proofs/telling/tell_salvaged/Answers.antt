use Rattle.btr_salvage.proofs.Tellings.{broke_line, wrote_line}
use Rattle.btr_salvage.proofs.telling.tell_salvaged.Goals as goal

pub returns-in-Ok : goal.returns-in-Ok
returns-in-Ok g c sink calls = wrote_line _ sink calls _ _ _ _ c.args.salvaged.now c.in-Ok.ensures.text c.in-Ok.ensures.account

pub returns-in-Err : goal.returns-in-Err
returns-in-Err g c sink calls = broke_line _ sink calls _ _ _ _ (Unit {0}) c.args.salvaged.now _ c.in-Err.error c.out_stop.ensures c.in-Err.ensures.text
    c.in-Err.ensures.account
