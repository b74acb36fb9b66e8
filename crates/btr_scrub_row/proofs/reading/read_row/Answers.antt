use Rattle.btr_read.proofs.ReadsOn.{open_still}
use Rattle.btr_scrub_row.proofs.reading.read_row.Goals as goal

pub read_element-requires-clause-open : goal.read_element-requires-clause-open
read_element-requires-clause-open g c = open_still c.args.store.now.layout.devices c.loop-number.invariant.reads c.requires.open
