use Rattle.std.proofs.Common.{None, refl}
use Rattle.btr_scrub.proofs.PlainRows.{kept_run}
use Rattle.btr_scrub.proofs.rowed.keep_rows.Goals as goal

pub returns-in-Some : goal.returns-in-Some
returns-in-Some c = kept_run c.push_plains.result c.args.chunk.now c.in-Some.run' c.args.blocks.now c.pass_rows.new.blocks c.args.kept.now
    c.push_plains.new.self c.in-Some.ensures c.push_plains.ensures

pub returns-in-None : goal.returns-in-None
returns-in-None c = (None, c.in-None.ensures, refl)
