-- Ranges of addresses, and whether one of them holds another range.
use Rattle.std.specs.Prelude.{◌≡◌, ℕ, ◌+◌, ◌-◌, ◌^◌, ◌<◌, ◌≤◌, ◌==◌, ◌&&◌, max, Bool, nat_le, nat_lt, List, length, slice_index_or, if◌then◌else◌}
use Rattle.std.specs.List.{list_any}
use Rattle.std.specs.List.Sorted.{IsNonDecreasingBy}
use Rattle.btr_check_space.specs.declared.address_ranges.Reach.{Reach}
use Rattle.btr_check_space.specs.declared.address_ranges.AddressRange.{AddressRange}

-- the address behind a range
abbrev pub end_of : AddressRange → ℕ
end_of range = range.start + range.len

-- a range holds the one from a start up to before an end
abbrev pub is_held : ℕ → ℕ → AddressRange → Bool
is_held start end range = nat_le range.start start && nat_le end (end_of range)

-- where one of some ranges holds another, so does one of others, and the other way round
abbrev pub HoldSame : List AddressRange → List AddressRange → Type 0
HoldSame ranges others = (start end : ℕ) → list_any (is_held start end) others ≡ list_any (is_held start end) ranges

-- how ranges are kept: in ascending order of their starts, and of their ends
pub record AscendAtBothEnds (ranges : List AddressRange) : Type 0 where
  pub starts : IsNonDecreasingBy (λ (range : AddressRange). range.start) ranges
  pub ends : IsNonDecreasingBy end_of ranges

-- a range as far as it or an earlier one reaches
abbrev pub lengthened : AddressRange → AddressRange → AddressRange
lengthened earlier range = record { start = range.start; len = max range.len (earlier.len - (range.start - earlier.start)) }

-- no range
abbrev pub no_range : AddressRange
no_range = record { start = 0; len = 0 }

-- where the last of the first ranges ends, or 0
abbrev pub end_before : List AddressRange → ℕ → ℕ
end_before ranges begun = if begun == 0 then 0 else end_of (slice_index_or ranges (begun - 1) no_range)

-- where the range after the first ones begins, or the last number of 128 bits
abbrev pub start_behind : List AddressRange → ℕ → ℕ
start_behind ranges begun = if nat_lt begun (length ranges) then (slice_index_or ranges begun no_range).start else 2 ^ 128 - 1

-- one of some ranges holds so many addresses from one on
abbrev pub is_held_from : ℕ → List AddressRange → ℕ → Bool
is_held_from len ranges at = list_any (is_held at (at + len)) ranges

-- a test comes out the same from an address up to before another
pub record HoldsUpTo (test : ℕ → Bool) (start : ℕ) (reach : Reach) : Type 0 where
  pub some : start < reach.until
  pub same : (at : ℕ) → start ≤ at → at < reach.until → test at ≡ reach.held
