use Rattle.std.proofs.Common.{sym}
use Rattle.btr_listing.proofs.Names.{bad_text, good_text}
use Rattle.btr_listing.proofs.name.good_name.Goals as goal

pub returns-in-Ok-clause-good : goal.returns-in-Ok-clause-good
returns-in-Ok-clause-good c = good_text c.args.name.now c.in-Ok.ensures.cases.1 (sym c.if-is_reserved.ensures) (sym c.if-is_split.ensures)

pub returns-in-Err-clause-bad : goal.returns-in-Err-clause-bad
returns-in-Err-clause-bad c = bad_text c.args.name.now c.in-Err.ensures.cases.0
