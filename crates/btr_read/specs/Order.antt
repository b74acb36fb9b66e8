-- The ways to get bytes, in the order in which they are tried.
use Rattle.std.specs.Prelude.{◌≡◌, ℕ, ◌+◌, Bool, length, slice_get, Some, Result, Ok, Err}
use Rattle.btr_read.specs.declared.candidate.Candidate.{Candidate}
use Rattle.btr_read.specs.Candidates.{Target, among, candidates, ways}

-- the way of a number among those that read an older image, or that read none; or how
-- many are left of the number behind all of them
abbrev pub FitsAmong : Target → Bool → ℕ → Result ℕ ℕ → Type 0
FitsAmong t older k (Ok way) = (c : Candidate) × (slice_get (ways t) way ≡ Some c) × (slice_get (among t older) k ≡ Some c)
FitsAmong t older k (Err left) = left + length (among t older) ≡ k

-- the candidate at a place in the order is the way of a number, or there aren't so many
abbrev pub IsWayAt : ℕ → ℕ → Target → Type 0
IsWayAt k way t = slice_get (ways t) way ≡ slice_get (candidates t) k
