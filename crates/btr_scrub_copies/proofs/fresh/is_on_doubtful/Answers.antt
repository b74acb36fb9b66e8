use Rattle.btr_read.proofs.Fates.{sought_of}
use Rattle.btr_scrub_copies.proofs.fresh.is_on_doubtful.Goals as goal

pub returns : goal.returns
returns c t e =
    let is = sought_of c.args.store.now.layout c.args.want.now t e in
    rw (← is.devices_is, c.devid_of_copy.ensures t e) at c.is_doubtful.ensures
