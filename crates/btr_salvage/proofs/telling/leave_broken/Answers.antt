use Rattle.btr_salvage.specs.Salvaging.{Over}
use Rattle.btr_salvage.proofs.Tellings.{broke_line, wrote_count}
use Rattle.btr_salvage.proofs.telling.leave_broken.Goals as goal

pub returns-in-Ok-clause-wrote : goal.returns-in-Ok-clause-wrote
returns-in-Ok-clause-wrote g c sink calls = wrote_count _ sink calls _ _ _ _ Over c.args.salvaged.now _ c.more-salvaged.ensures c.in-Ok.ensures.text
    c.in-Ok.ensures.account

pub returns-in-Err-clause-wrote : goal.returns-in-Err-clause-wrote
returns-in-Err-clause-wrote g c sink calls = broke_line _ sink calls _ _ _ _
    (Unit {0}) _ _ c.in-Err.error c.out_stop.ensures c.in-Err.ensures.text c.in-Err.ensures.account
