use Rattle.std.proofs.Common.{◌≡◌, length}
use Rattle.btr_base.specs.Xxh64.{lane, lane_0, lane_1, lane_2, lane_3}
use Rattle.btr_base.proofs.xxhash.lanes_of.Given as goal

-- the lanes of what is left, from the lanes so far, are those of all
abbrev pub invariant-loop-rest : goal.invariant-loop-rest
invariant-loop-rest l = record {
  first : lane l.lanes.first 0 l.rest ≡ lane_0 l.fn.bytes;
  second : lane l.lanes.second 8 l.rest ≡ lane_1 l.fn.bytes;
  third : lane l.lanes.third 16 l.rest ≡ lane_2 l.fn.bytes;
  fourth : lane l.lanes.fourth 24 l.rest ≡ lane_3 l.fn.bytes;
}

abbrev pub decreases-loop-rest : goal.decreases-loop-rest
decreases-loop-rest l = length l.rest
