use Rattle.btr_check_names.proofs.Joining.{none_both}
use Rattle.btr_check_names.proofs.waiting.Waiting.new.Goals as goal

pub returns : goal.returns
returns c = none_both c.new.result c.new-2.result.entries c.new.ensures c.new-2.ensures.empty
