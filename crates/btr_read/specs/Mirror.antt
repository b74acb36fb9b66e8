-- What a try of one mirror answers.
use Rattle.std.specs.Prelude.{◌≡◌, ℕ, true, false, List, length, Option, IfSome, IfOk, IsSomeAnd, Result, Ok, Err}
use Rattle.btr_rack.specs.Rack.{Seen, NoneFailed}
use Rattle.btr_chunk.specs.declared.place.Part.TheVariants.{Mirror}
use Rattle.btr_chunk.specs.Mapping.{HasPart}
use Rattle.btr_read.specs.declared.candidate.Candidate.{Candidate}
use Rattle.btr_read.specs.declared.candidate.Candidate.TheVariants.{Read}
use Rattle.btr_read.specs.declared.mirror.Tried.{Tried}
use Rattle.btr_read.specs.declared.mirror.Tried.TheVariants.{Passed, Differs, Absent}
use Rattle.btr_read.specs.declared.mirror.TryFault.{TryFault}
use Rattle.btr_read.specs.declared.mirror.TryFault.TheVariants.{Failed}
use Rattle.btr_read.specs.declared.want.Want.{Want}
use Rattle.btr_read.specs.Want.{passes}
use Rattle.btr_read.specs.Candidates.{Target, stands, value_of}
use Rattle.btr_read.specs.Layout.{Layout}
use Rattle.btr_read.specs.Fate.{sought}
use Rattle.btr_read.specs.Cause.{IsMissed}
use Rattle.btr_read.specs.Store.{Blocks, IsLentBy, SameLoans, block_of}

-- the chunk of what is sought has this mirror
abbrev pub HasMirror : ℕ → Target → Type 0
HasMirror mirror t = HasPart t.chunk.profile (length t.chunk.stripes) (Mirror mirror)

-- the candidate that a mirror is
abbrev pub mirror_candidate : ℕ → Candidate
mirror_candidate mirror = Read (Mirror mirror)

-- bytes pass, and are the candidate's
pub record IsTried (t : Target) (c : Candidate) (held : Option (List (List ℕ))) (bytes : List ℕ) : Type 0 where
  pub pass : passes t.setting t.want bytes ≡ true
  pub value : IfSome held (λ images. value_of images t c ≡ bytes)

-- each answer with what it says of the mirror. `store` is the store afterwards
abbrev pub FitsTried : Target → Candidate → Option (List (List ℕ)) → Blocks → Result Tried TryFault → Type 0
FitsTried t c held store (Ok (Passed loan)) = (stands t c ≡ true) × IsSomeAnd (block_of store loan) (IsTried t c held)
FitsTried t c held store (Ok Differs) = (stands t c ≡ true) × IfSome held (λ images. passes t.setting t.want (value_of images t c) ≡ false)
FitsTried t c held store (Ok Absent) = stands t c ≡ false
FitsTried t c held store (Err (Failed slot)) = stands t c ≡ true

-- a try fails by one read, in the mirror's range
abbrev pub AccountsTried : Target → Candidate → Seen → Seen → Result Tried TryFault → Type 0
AccountsTried t c old new (Ok _) = NoneFailed old.account new.account
AccountsTried t c old new (Err (Failed slot)) = IsMissed t c slot old new

-- a slot is lent where the mirror passes, and none otherwise
abbrev pub LendsTried : Want → Blocks → Blocks → Result Tried TryFault → Type 0
LendsTried want old new (Ok (Passed loan)) = IsLentBy old new want loan
LendsTried want old new (Ok Differs) = SameLoans old new
LendsTried want old new (Ok Absent) = SameLoans old new
LendsTried want old new (Err (Failed slot)) = SameLoans old new

-- what a try of a mirror of a want answers, where the want has a position
abbrev pub AnswersMirror : Layout → Want → ℕ → Option (List (List ℕ)) → Blocks → Result Tried TryFault → Type 0
AnswersMirror layout want mirror held store result =
    IfOk (sought layout want) (λ t. FitsTried t (mirror_candidate mirror) held store result)

-- a try of a mirror changes the account as the reads of its candidate do, where the want has a position
abbrev pub AccountsMirror : Layout → Want → ℕ → Seen → Seen → Result Tried TryFault → Type 0
AccountsMirror layout want mirror old new result =
    IfOk (sought layout want) (λ t. AccountsTried t (mirror_candidate mirror) old new result)
