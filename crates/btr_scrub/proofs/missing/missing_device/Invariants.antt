use Rattle.std.proofs.Common.{◌≡◌, drop}
use Rattle.btr_scrub.proofs.Common.{flat_map, missing_stripes}
use Rattle.btr_scrub.proofs.missing.missing_device.Given as goal

abbrev pub invariant-loop-i : goal.invariant-loop-i
invariant-loop-i l =
    flat_map (missing_stripes l.store.layout.devices) l.store.layout.chunks ≡ flat_map (missing_stripes l.store.layout.devices) (drop l.i l.store.layout.chunks)
