use Rattle.std.proofs.Common.{refl}
use Rattle.btr_super.proofs.Looks.{begins, ends}
use Rattle.btr_super.proofs.slot.read_slot.Goals as goal

pub loop-place-init : goal.loop-place-init
loop-place-init g c = record {
  same = refl;
  account = record { faults = refl; fresh = refl; missed = refl; last = refl; opening = refl; shut = refl };
  found = begins (g.R.Rack.seen c.args.rack.now).held c.args.slot;
}

pub returns-clause-answer : goal.returns-clause-answer
returns-clause-answer g c = ends (g.R.Rack.seen c.args.rack.now).held c.args.slot c.loop-place.place-index c.loop-place.seen _ c.loop-place-test.false
    c.loop-place.invariant.found c.answer.ensures.answer
