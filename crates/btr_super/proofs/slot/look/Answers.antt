use Rattle.std.proofs.Common.{arith}
use Rattle.btr_super.proofs.Looks.{goes_past, goes_on}
use Rattle.btr_super.proofs.slot.look.Goals as goal

pub returns-then-place-len-clause-seen : goal.returns-then-place-len-clause-seen
returns-then-place-len-clause-seen g c =
    goes_past _ (g.R.Rack.seen c.args.rack.now).slots c.args.slot c.args.place c.args.seen (g.met.R.Rack.sound c.args.rack.now).sized c.requires.open
    (omega (arith, c.len.ensures.len))

pub returns-in-Ok-clause-seen : goal.returns-in-Ok-clause-seen
returns-in-Ok-clause-seen g c =
    goes_on _ (g.R.Rack.seen c.args.rack.now).slots c.args.slot c.args.place c.args.seen c.with_copy.result c.in-Ok.found
    (g.met.R.Rack.sound c.args.rack.now).sized c.requires.open (omega (arith, c.len.ensures.len))
    c.in-Ok.ensures.found c.with_copy.ensures
