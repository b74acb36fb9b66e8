use Rattle.std.proofs.Common.{◌≡◌, ◌-◌, map, take}
use Rattle.btr_scrub_row.proofs.Common.{element_in, parity_q, range_with_len}
use Rattle.btr_scrub_row.proofs.parities.make_q.Given as goal

abbrev pub invariant-loop-done : goal.invariant-loop-done
invariant-loop-done l = take 65536 l.q ≡ parity_q 65536 (map (element_in l.bytes) (range_with_len (l.slices - l.done) l.done))
