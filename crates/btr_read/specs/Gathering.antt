-- What the parities leave of lost slices.
use Rattle.std.specs.Prelude.{◌≡◌, ℕ, ◌<◌, true, List, map, take, if◌then◌else◌, Option, Some, IsSome, IfSome, Result, Ok, Err}
use Rattle.std.specs.List.{range_with_len, All}
use Rattle.btr_chunk.specs.declared.place.Part.{Part}
use Rattle.btr_chunk.specs.declared.place.Part.TheVariants.{Mirror, Slice, P, Q}
use Rattle.btr_parity.specs.Field.{power}
use Rattle.btr_parity.specs.Slices.{IsSlice, zeros, plus, scaled, parity_p, parity_q}
use Rattle.btr_pool.specs.Slots.{Slots, bytes_at}
use Rattle.btr_rack.specs.Rack.{Seen, NoneFailed}
use Rattle.btr_rack.specs.declared.place.Place.{Place as Range}
use Rattle.btr_read.specs.declared.attempt.Unread.{Unread}
use Rattle.btr_read.specs.declared.candidate.Candidate.{Candidate}
use Rattle.btr_read.specs.declared.candidate.Candidate.TheVariants.{ByP, ByBoth}
use Rattle.btr_read.specs.declared.parity.Parity.{Parity}
use Rattle.btr_read.specs.declared.parity.Parity.TheVariants as parity
use Rattle.btr_read.specs.Candidates.{Target, size_of, slice_count, range_of, reads_slice, element, value_of}
use Rattle.btr_read.specs.Cause.{ReadFailed, IsMissed}

-- the part that a parity is
abbrev pub part_of : Parity → Part
part_of parity.P = P
part_of parity.Q = Q

-- what a slice adds to a parity
abbrev pub weighed : Parity → ℕ → List ℕ → List ℕ
weighed parity.P i slice = slice
weighed parity.Q i slice = scaled (power i) slice

-- the parity of slices
abbrev pub parity_of : Parity → ℕ → List (List ℕ) → List ℕ
parity_of parity.P size slices = parity_p size slices
parity_of parity.Q size slices = parity_q size slices

-- a parity with one more slice
abbrev pub added : Parity → ℕ → List ℕ → List ℕ → List ℕ
added parity i sum slice = plus sum (weighed parity i slice)

-- the slices of a row, with zeros in the place of those that a candidate doesn't read
abbrev pub read_slices : List (List ℕ) → Target → Candidate → List (List ℕ)
read_slices images t c =
    map (λ s. if reads_slice t.at.index c s then element images t (Slice s) else zeros (size_of t)) (range_with_len 0 (slice_count t))

-- a parity less the slices that a candidate reads
pub record IsGathered (images : List (List ℕ)) (t : Target) (c : Candidate) (p : Parity) (bytes : List ℕ) : Type 0 where
  pub slices : All (IsSlice (size_of t)) (read_slices images t c)
  pub whole : IsSlice (size_of t) (element images t (part_of p))
  pub sum : bytes ≡ plus (element images t (part_of p)) (parity_of p (size_of t) (read_slices images t c))

-- what P and Q leave of the slice that is sought: each less all other slices
pub record AreSyndromes (images : List (List ℕ)) (t : Target) (p q : List ℕ) : Type 0 where
  pub of_p : IsGathered images t ByP parity.P p
  pub of_q : IsGathered images t ByP parity.Q q

-- a slice was added to what a slot has of a parity
pub record IsAdded (images : List (List ℕ)) (t : Target) (s : ℕ) (p : Parity) (old new : List ℕ) : Type 0 where
  pub slice : IsSlice (size_of t) (element images t (Slice s))
  pub sum : take (size_of t) new ≡ plus (take (size_of t) old) (weighed p s (element images t (Slice s)))

-- the bytes in the front of a slot, as many as are sought
abbrev pub front_for : Target → Slots → ℕ → List ℕ
front_for t pool k = take (size_of t) (bytes_at pool k)

-- where the images are told, a slot has the bytes of a part
abbrev pub HasElement : Option (List (List ℕ)) → Target → Part → Slots → ℕ → Type 0
HasElement held t part pool k = IfSome held (λ images. front_for t pool k ≡ element images t part)

-- where the images are told, a slot has the value of a candidate
abbrev pub HasValue : Option (List (List ℕ)) → Target → Candidate → Slots → ℕ → Type 0
HasValue held t c pool k = IfSome held (λ images. value_of images t c ≡ front_for t pool k)

-- where the images are told, a slot has the value of the candidate by P and Q without slice j
abbrev pub HasPairValue : Option (List (List ℕ)) → Target → ℕ → Slots → ℕ → Type 0
HasPairValue held t j pool k = HasValue held t (ByBoth j) pool k

-- where the images are told, a slice was added to what a slot has of a parity
abbrev pub AddsSlice : Option (List (List ℕ)) → Target → ℕ → Parity → ℕ → Slots → Slots → Type 0
AddsSlice held t s p k old new = IfSome held (λ images. IsAdded images t s p (bytes_at old k) (bytes_at new k))

-- where the images are told, a slot has a parity less the slices that a candidate reads
abbrev pub HasGathered : Option (List (List ℕ)) → Target → Candidate → Parity → Slots → ℕ → Type 0
HasGathered held t c p pool k = IfSome held (λ images. IsGathered images t c p (front_for t pool k))

-- where the images are told, two slots have what P and Q leave of the slice that is sought
abbrev pub HaveSyndromes : Option (List (List ℕ)) → Target → Slots → ℕ → ℕ → Type 0
HaveSyndromes held t pool p q = IfSome held (λ images. AreSyndromes images t (front_for t pool p) (front_for t pool q))

-- reading a part fails by one call, which reads the part's range
abbrev pub AccountsPart : Target → Part → Seen → Seen → Result (Unit {0}) Unread → Type 0
AccountsPart t part old new (Ok _) = NoneFailed old.account new.account
AccountsPart t part old new (Err u) = (m : Range) × ReadFailed m old new × (m.slot ≡ u.slot) × (range_of t part ≡ Some m) × (u.part ≡ part)

-- reading for a candidate fails by one read, in a range that the candidate reads
abbrev pub AccountsGather : Target → Candidate → Seen → Seen → Result (Unit {0}) Unread → Type 0
AccountsGather t c old new (Ok _) = NoneFailed old.account new.account
AccountsGather t c old new (Err u) = IsMissed t c u.slot old new

-- P, Q or a slice that a candidate reads
abbrev pub IsOfRow : Target → Candidate → Part → Type 0
IsOfRow t c (Mirror i) = ⊥
IsOfRow t c (Slice s) = (s < slice_count t) × (reads_slice t.at.index c s ≡ true)
IsOfRow t c P = Unit {0}
IsOfRow t c Q = Unit {0}

-- P, Q and the slices that a candidate reads stand
abbrev pub RowStands : Target → Candidate → Type 0
RowStands t c = (part : Part) → IsOfRow t c part → IsSome (range_of t part)

-- reading P, Q and the slices that a candidate reads fails by one call, which reads the range of one of them
abbrev pub AccountsRow : {T : Type 0} → Target → Candidate → Seen → Seen → Result T Unread → Type 0
AccountsRow t c old new (Ok _) = NoneFailed old.account new.account
AccountsRow t c old new (Err u) = (m : Range) × ReadFailed m old new × (m.slot ≡ u.slot) × (range_of t u.part ≡ Some m) × IsOfRow t c u.part
