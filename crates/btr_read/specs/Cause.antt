-- When a block may be called unread.
use Rattle.std.specs.Prelude.{◌≡◌, ◌⊎◌, ℕ, ◌+◌, ◌≤◌, true, false, List, length, None, IfSome, IsSomeAnd}
use Rattle.std.specs.List.{All, Any}
use Rattle.btr_rack.specs.Rack.{Account, Seen, Rose, OneFailed}
use Rattle.btr_rack.specs.declared.place.Place.{Place as Range}
use Rattle.btr_read.specs.declared.candidate.Candidate.{Candidate}
use Rattle.btr_read.specs.Want.{passes}
use Rattle.btr_read.specs.Candidates.{Target, candidates, ranges_of, stands, reading}
use Rattle.btr_read.specs.Fate.{passing}

-- a range lies in another
pub record LiesIn (inner outer : Range) : Type 0 where
  pub slot : inner.slot ≡ outer.slot
  pub from : outer.off ≤ inner.off
  pub to : inner.off + inner.len ≤ outer.off + outer.len

-- the range lies in one that the candidate reads
abbrev pub IsOf : Target → Range → Candidate → Type 0
IsOf t range candidate = Any (LiesIn range) (ranges_of t candidate)

-- a read at this place failed, of a rack that isn't sure
pub record ReadFailed (place : Range) (old new : Seen) : Type 0 where
  pub one : OneFailed place old.account new.account
  pub read : new.account.opening ≡ None
  pub shut : new.account.shut ≡ old.account.shut
  pub unsure : old.sure ≡ false

-- a read on this slot failed, in a range that the candidate reads
abbrev pub IsMissed : Target → Candidate → ℕ → Seen → Seen → Type 0
IsMissed t candidate slot old new = (place : Range) × ReadFailed place old new × (place.slot ≡ slot) × IsOf t place candidate

-- a candidate stands and passes
abbrev pub Passes : List (List ℕ) → Target → Candidate → Type 0
Passes images t candidate = IsSomeAnd (reading images t candidate) (λ bytes. passes t.setting t.want bytes ≡ true)

-- the last failed call is the one before, or a read in a range that a candidate that stands reads
abbrev pub LastOf : Target → Account → Account → Type 0
LastOf t old new =
    ((new.last ≡ old.last) × (new.opening ≡ old.opening))
    ⊎ ((new.opening ≡ None) × Any (λ candidate. (stands t candidate ≡ true) × IsOf t new.last candidate) (candidates t))

-- The rack isn't sure: some call failed, the last one on this slot, in a range that a candidate reads. At least as many
-- failed as there are candidates that pass, and each of these reads a range in which one of those that failed lies.
-- `missed` are the places of the calls that failed since the reading began.
pub record IsUnread (t : Target) (old new : Seen) (slot : ℕ) : Type 0 where
  pub unsure : old.sure ≡ false
  pub rose : Rose old.account.faults new.account.faults
  pub read : new.account.opening ≡ None
  pub on_slot : new.account.last.slot ≡ slot
  pub of_candidate : Any (λ candidate. (stands t candidate ≡ true) × IsOf t new.account.last candidate) (candidates t)
  pub only : All (λ missed. Any (IsOf t missed) (candidates t)) new.account.missed
  pub some : 1 ≤ new.account.fresh
  pub enough : IfSome old.held (λ images. length (passing images t) ≤ new.account.fresh)
  pub each : IfSome old.held (λ images. All (λ candidate. Passes images t candidate → Any (λ missed. IsOf t missed candidate) new.account.missed)
      (candidates t))
