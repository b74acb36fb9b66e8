use Rattle.std.proofs.Common.{slice_get, sym, ap, ◌∙◌}
use Rattle.btr_scrub.proofs.Common.{missing_stripes, option_map}
use Rattle.btr_scrub.specs.Repair.{devid_of}
use Rattle.btr_scrub.proofs.Firsts.{flat_here, flat_over}
use Rattle.btr_scrub.proofs.missing.missing_device.Goals as goal

pub returns-in-Some-clause-devid : goal.returns-in-Some-clause-devid
returns-in-Some-clause-devid c =
    let layout = c.args.store.now.layout in
    flat_here devid_of (missing_stripes layout.devices) layout.chunks c.loop-i.i c.at.result.now c.in-Some.devid
    (rw c.chunks-in-loop-i.ensures at c.at.ensures.chunk) c.in-Some.ensures
    ∙ sym (ap (λ xs. option_map devid_of (slice_get xs 0)) c.loop-i.invariant)

pub loop-i-preserved : goal.loop-i-preserved
loop-i-preserved c =
    let layout = c.args.store.now.layout in
    c.loop-i.invariant ∙ flat_over devid_of (missing_stripes layout.devices) layout.chunks c.loop-i.i c.at.result.now
    (rw c.chunks-in-loop-i.ensures at c.at.ensures.chunk) c.in_default.ensures
