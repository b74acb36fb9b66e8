-- How far the candidates of a search were tried.
use Rattle.std.specs.Prelude.{◌≡◌, ℕ, ◌<◌, ◌≤◌, Bool, true, false, List, length, take, slice_index_or, Option, Some, None, IfSome, Result, Ok, Err}
use Rattle.std.specs.Prelude.{is_none, if◌then◌else◌}
use Rattle.std.specs.List.{All, Any, filter, filter_map}
use Rattle.btr_pool.specs.Slots.{Slots, bytes_at}
use Rattle.btr_rack.specs.Rack.{Seen, NoneFailed, Rose}
use Rattle.btr_chunk.specs.declared.place.Part.{Part}
use Rattle.btr_read.specs.declared.attempt.TrialOutcome.{TrialOutcome}
use Rattle.btr_read.specs.declared.attempt.TrialOutcome.TheVariants as outcome
use Rattle.btr_read.specs.declared.attempt.Trial.{Trial}
use Rattle.btr_read.specs.declared.attempt.Trial.TheVariants.{Ended, Stopped}
use Rattle.btr_read.specs.declared.attempt.Unread.{Unread}
use Rattle.btr_read.specs.declared.candidate.Candidate.{Candidate}
use Rattle.btr_read.specs.Want.{passes}
use Rattle.btr_read.specs.Candidates.{Target, size_of, candidates, reading, stands, value_of}
use Rattle.btr_read.specs.Cause.{IsOf, Passes}
use Rattle.btr_read.specs.Attempt.{FitsOutcome}

-- of some candidates those that stand and pass
abbrev pub passing_of : List (List ℕ) → Target → List Candidate → List (List ℕ)
passing_of images t cs = filter (passes t.setting t.want) (filter_map (reading images t) cs)

-- what stands of the cause, after some candidates: no call failed, or the last one that did was of a candidate
abbrev pub CauseSoFar : Target → Seen → Seen → Option ℕ → Type 0
CauseSoFar t before now None = NoneFailed before.account now.account
CauseSoFar t before now (Some s) =
    (before.sure ≡ false) × Rose before.account.faults now.account.faults × (now.account.last.slot ≡ s)
    × Any (λ c. (stands t c ≡ true) × IsOf t now.account.last c) (candidates t) × (1 ≤ now.account.fresh) × (now.account.opening ≡ None)

-- after the first k candidates, of which none that could be read passes
pub record TriedSoFar (t : Target) (before now : Seen) (failed : Option ℕ) (k : ℕ) : Type 0 where
  pub later : before.account.faults ≤ now.account.faults
  pub cause : CauseSoFar t before now failed
  pub only : All (λ missed. Any (IsOf t missed) (candidates t)) now.account.missed
  pub enough : (images : List (List ℕ)) → before.held ≡ Some images
      → length (passing_of images t (take k (candidates t))) ≤ now.account.fresh
  pub each : (images : List (List ℕ)) → before.held ≡ Some images → (j : ℕ) (d : Candidate) → j < k
      → Passes images t (slice_index_or (candidates t) j d)
      → Any (λ missed. IsOf t missed (slice_index_or (candidates t) j d)) now.account.missed

-- a trial began when no fresh call had failed, with the same images
pub record BeganAt (before now : Seen) : Type 0 where
  pub fresh : before.account.fresh ≡ 0
  pub held : now.held ≡ before.held
  pub sure : now.sure ≡ before.sure

-- what a search comes to when a candidate passes: the first one, or a later one after reads that failed
abbrev pub passed_outcome : Option ℕ → TrialOutcome
passed_outcome failed = if is_none failed then outcome.First else outcome.Later

-- what a search comes to when no candidate passes: a read that failed, or a lost block
abbrev pub ended_outcome : Option ℕ → TrialOutcome
ended_outcome None = outcome.Lost
ended_outcome (Some slot) = outcome.Unread slot

-- bytes that were rebuilt are the candidate's, and were tested
abbrev pub FitsSyndromes : Target → Candidate → Seen → List ℕ → Result Bool Unread → Type 0
FitsSyndromes t c old slot (Ok test) =
    (passes t.setting t.want (take (size_of t) slot) ≡ test) × IfSome old.held (λ images. value_of images t c ≡ take (size_of t) slot)
FitsSyndromes t c old slot (Err unread) = Unit {0}

-- a trial from its beginning on
abbrev pub FitsTrial : Target → Seen → Seen → List ℕ → Trial → Type 0
FitsTrial t before now slot (Ended outcome) = FitsOutcome t before now slot outcome
FitsTrial t before now slot (Stopped tried unread) = TriedSoFar t before now (Some unread.slot) tried

-- a trial goes on, where the first k candidates had been tried when it began
abbrev pub TriesOn : Target → Option ℕ → ℕ → Seen → Seen → Slots → ℕ → Trial → Type 0
TriesOn t failed k old new pool slot trial =
    (before : Seen) → BeganAt before old → TriedSoFar t before old failed k → FitsTrial t before new (bytes_at pool slot) trial

-- a trial and its outcome, when the first k candidates had been tried before it
abbrev pub EndsFrom : Target → Option ℕ → ℕ → Seen → Seen → Slots → ℕ → TrialOutcome → Type 0
EndsFrom t failed k old new pool slot outcome =
    (before : Seen) → BeganAt before old → TriedSoFar t before old failed k → FitsOutcome t before new (bytes_at pool slot) outcome

-- its outcome, where the read of a part had failed last
abbrev pub EndsAround : Target → Unread → ℕ → Seen → Seen → Slots → ℕ → TrialOutcome → Type 0
EndsAround t unread k old new pool slot outcome = EndsFrom t (Some unread.slot) k old new pool slot outcome

-- the part whose read stopped it
abbrev pub IfStopped : (Part → Type 0) → Trial → Type 0
IfStopped P (Ended outcome) = Unit {0}
IfStopped P (Stopped tried unread) = P unread.part
