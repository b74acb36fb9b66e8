use Rattle.std.proofs.Common.{sym, ◌∙◌}
use Rattle.btr_files.proofs.AheadSums.{from_is_ahead}
use Rattle.btr_files.proofs.reading_ahead.read_ahead.Goals as goal

pub returns : goal.returns
returns c = from_is_ahead c.args.kind c.args.addr c.args.reach.now c.in-Some.found c.in-Ok.run' c.from_run.result c.in-Some.is
    (sym c.is_sums.ensures ∙ c.if-not-is_sums.false)
    (sym c.in-Ok.ensures.form) c.from_run.ensures
