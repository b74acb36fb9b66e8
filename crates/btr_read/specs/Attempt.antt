-- What came of one candidate, and of all of them.
use Rattle.std.specs.Prelude.{◌≡◌, ℕ, true, false, List, take, Option, Some, None, IfSome, slice_get}
use Rattle.std.specs.List.{Any, Contains}
use Rattle.btr_rack.specs.Rack.{Seen, NoneFailed, Rose}
use Rattle.btr_chunk.specs.declared.place.Part.{Part}
use Rattle.btr_read.specs.declared.attempt.Attempt.{Attempt}
use Rattle.btr_read.specs.declared.attempt.Attempt.TheVariants.{Passed, Differs, Absent, Failed}
use Rattle.btr_read.specs.declared.attempt.TrialOutcome.{TrialOutcome}
use Rattle.btr_read.specs.declared.attempt.TrialOutcome.TheVariants as outcome
use Rattle.btr_read.specs.declared.candidate.Candidate.{Candidate}
use Rattle.btr_read.specs.declared.candidate.Candidate.TheVariants.{Read}
use Rattle.btr_read.specs.Want.{passes}
use Rattle.btr_read.specs.Candidates.{Target, size_of, candidates, stands, value_of}
use Rattle.btr_read.specs.Fate.{passing}
use Rattle.btr_read.specs.Cause.{IsOf, IsMissed, IsUnread}

-- one candidate: `slot` is what stands in the slot afterwards
abbrev pub FitsAttempt : Target → Candidate → Option (List (List ℕ)) → List ℕ → Attempt → Type 0
FitsAttempt t c held slot Passed =
    (stands t c ≡ true) × (passes t.setting t.want (take (size_of t) slot) ≡ true)
    × IfSome held (λ images. value_of images t c ≡ take (size_of t) slot)
FitsAttempt t c held slot Differs = (stands t c ≡ true) × IfSome held (λ images. passes t.setting t.want (value_of images t c) ≡ false)
FitsAttempt t c held slot Absent = stands t c ≡ false
FitsAttempt t c held slot (Failed s) = stands t c ≡ true

-- a part
abbrev pub FitsPart : Target → Part → Option (List (List ℕ)) → List ℕ → Attempt → Type 0
FitsPart t part held slot attempt = FitsAttempt t (Read part) held slot attempt

-- one candidate fails by one read, in a range that the candidate reads
abbrev pub AccountsAttempt : Target → Candidate → Seen → Seen → Attempt → Type 0
AccountsAttempt t c old new Passed = NoneFailed old.account new.account
AccountsAttempt t c old new Differs = NoneFailed old.account new.account
AccountsAttempt t c old new Absent = NoneFailed old.account new.account
AccountsAttempt t c old new (Failed s) = IsMissed t c s old new

-- no read failed, and bytes are those of the first candidate that stands and passes
pub record IsFirstPassing (t : Target) (old new : Seen) (bytes : List ℕ) : Type 0 where
  pub none : NoneFailed old.account new.account
  pub pass : passes t.setting t.want bytes ≡ true
  pub first : IfSome old.held (λ images. slice_get (passing images t) 0 ≡ Some bytes)

-- some read failed, the last one in a range that a candidate that stands reads, and
-- bytes are those of one that stands and passes
pub record IsLater (t : Target) (old new : Seen) (bytes : List ℕ) : Type 0 where
  pub rose : Rose old.account.faults new.account.faults
  pub read : new.account.opening ≡ None
  pub of_candidate : Any (λ candidate. (stands t candidate ≡ true) × IsOf t new.account.last candidate) (candidates t)
  pub pass : passes t.setting t.want bytes ≡ true
  pub stand : IfSome old.held (λ images. Contains (passing images t) bytes)

-- all candidates, from an account of no fresh failure on
abbrev pub FitsOutcome : Target → Seen → Seen → List ℕ → TrialOutcome → Type 0
FitsOutcome t old new slot outcome.First = IsFirstPassing t old new (take (size_of t) slot)
FitsOutcome t old new slot outcome.Later = IsLater t old new (take (size_of t) slot)
FitsOutcome t old new slot outcome.Lost =
    NoneFailed old.account new.account × IfSome old.held (λ images. slice_get (passing images t) 0 ≡ None)
FitsOutcome t old new slot (outcome.Unread s) = IsUnread t old new s
