use Rattle.std.proofs.Common.{◌≡◌, ℕ, ◌≤◌, ◌<◌, ◌++◌, length, take, drop, get_or}
use Rattle.btr_check_space.specs.declared.address_ranges.AddressRange.{AddressRange}
use Rattle.btr_check_space.proofs.Reaching.{all_lengthened, nothing}
use Rattle.btr_check_space.proofs.address_ranges.lengthen.Given as goal

-- those behind are as they were and begin behind the last, and with them lengthened all are
abbrev pub invariant-loop-i : goal.invariant-loop-i
invariant-loop-i l = record {
  long : length l.ranges ≡ length l.fn.ranges;
  rest : (k : ℕ) (d : AddressRange) → l.i ≤ k → get_or l.ranges k d ≡ get_or l.fn.ranges k d;
  behind : (k : ℕ) (d : AddressRange) → l.i ≤ k → k < length l.fn.ranges → l.last.start ≤ (get_or l.fn.ranges k d).start;
  all : take l.i l.ranges ++ all_lengthened l.last (drop l.i l.ranges) ≡ all_lengthened nothing l.fn.ranges;
}
