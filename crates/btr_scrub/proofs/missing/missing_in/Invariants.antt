use Rattle.std.proofs.Common.{◌≡◌, drop, slice_get}
use Rattle.btr_scrub.proofs.Common.{filter, missing_stripes, stripe_length}
use Rattle.btr_scrub.specs.Repair.{is_missing}
use Rattle.btr_scrub.proofs.missing.missing_in.Given as goal

abbrev pub invariant-loop-i : goal.invariant-loop-i
invariant-loop-i l =
    slice_get (missing_stripes l.store.layout.devices l.chunk) 0
    ≡ slice_get (filter (is_missing l.store.layout.devices (stripe_length l.chunk)) (drop l.i l.chunk.stripes)) 0
