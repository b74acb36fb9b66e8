use Rattle.std.proofs.Common.{◌≡◌, map, take}
use Rattle.btr_scrub_row.proofs.Common.{element_in, parity_p, range_with_len}
use Rattle.btr_scrub_row.proofs.parities.make_p.Given as goal

abbrev pub invariant-loop-slice : goal.invariant-loop-slice
invariant-loop-slice l = take 65536 l.p ≡ parity_p 65536 (map (element_in l.bytes) (range_with_len 0 l.slice))
