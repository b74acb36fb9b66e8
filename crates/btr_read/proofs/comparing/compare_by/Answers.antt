use Rattle.btr_read.proofs.ReadsOn.{open_still}
use Rattle.btr_read.proofs.comparing.compare_by.Goals as goal

pub find_other-requires-clause-open : goal.find_other-requires-clause-open
find_other-requires-clause-open g c = open_still c.args.search.now.devices c.find_first.ensures.reads c.requires.open
