use Rattle.std.proofs.Common.{Err, sym, ap, subst, arith}
use Rattle.std.specs.Option.{IfSome}
use Rattle.btr_volume.specs.Opening.{ReadsSupers}
use Rattle.btr_volume.proofs.Readings.{Found, read_fault}
use Rattle.btr_volume.proofs.supers.read_supers.Goals as goal

pub returns-in-Err-clause-supers : goal.returns-in-Err-clause-supers
returns-in-Err-clause-supers g c =
    let held = (g.R.Rack.seen c.args.rack.now).held in
    subst (λ a. IfSome held (λ images. ReadsSupers images (Err a))) (sym c.refusal_of.ensures)
    (read_fault (g.R.Rack.seen c.args.rack.now).slots c.loop-slot.supers.items c.loop-slot.slot (omega (arith, c.count-slot-end.ensures)) held
    c.in-Err.fault (g.met.R.Rack.sound c.args.rack.now).sized
    c.loop-slot.invariant.supers (subst (λ h. Found h c.loop-slot.slot (Err c.in-Err.fault)) (ap (λ s. s.held) c.loop-slot.invariant.same)
    c.in-Err.ensures.answer))
