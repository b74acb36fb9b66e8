-- Whether the candidates of a block agree.
use Rattle.std.specs.Prelude.{◌≡◌, ◌⊎◌, ℕ, ◌+◌, ◌<◌, ◌≤◌, Bool, true, false, not, ◌&&◌, List, [], ◌∷◌, length, take, drop, min, slice_get, Option}
use Rattle.std.specs.Prelude.{Some, None, IfSome, Result, Ok, Err}
use Rattle.std.specs.List.{Any, find, fold}
use Rattle.std.specs.Option.{option_and_then, option_map_or}
use Rattle.std.specs.Str.{bytes_eq}
use Rattle.btr_rack.specs.Rack.{Seen, Steady}
use Rattle.btr_rack.specs.declared.place.Place.{Place as Range}
use Rattle.btr_chunk.specs.declared.place.Part.{Part}
use Rattle.btr_read.specs.declared.candidate.Candidate.{Candidate}
use Rattle.btr_read.specs.declared.want.Want.{Want}
use Rattle.btr_read.specs.Want.{passes}
use Rattle.btr_read.specs.Layout.{Layout}
use Rattle.btr_read.specs.Candidates.{Target, candidates, parts_read, range_of, reading, slice_count, stands}
use Rattle.btr_read.specs.Cause.{IsOf}
use Rattle.btr_read.specs.Fate.{Fault, sought}
use Rattle.btr_read.specs.Trial.{passing_of}

-- blocks differ behind the field of the checksum, of whose 32 bytes the kinds of checksums use the first ones
abbrev pub differ : List ℕ → List ℕ → Bool
differ a b = not (bytes_eq (drop 32 a) (drop 32 b))

-- the smaller one of a slot and the slot of a range, where there are such
abbrev pub lesser : Option ℕ → Option Range → Option ℕ
lesser slot None = slot
lesser None (Some range) = Some range.slot
lesser (Some slot) (Some range) = Some (min slot range.slot)

-- the smallest one of a slot and the slots in which parts stand
abbrev pub least_of : Target → Option ℕ → List Part → Option ℕ
least_of t slot parts = fold (λ least part. lesser least (range_of t part)) slot parts

-- the smallest slot that a candidate reads
abbrev pub least_slot : Target → Candidate → Option ℕ
least_slot t c = least_of t None (parts_read (slice_count t) t.at.index c)

module _ (images : List (List ℕ)) (t : Target) where
  -- a candidate stands, passes, and differs from a block
  abbrev pub is_other : List ℕ → Candidate → Bool
  is_other block c = option_map_or (λ other. passes t.setting t.want other && differ block other) (reading images t c) false

  -- of some candidates the first one that passes and differs from the first one that passes
  abbrev pub other_of : List Candidate → Option Candidate
  other_of cs = option_and_then (λ block. find (is_other block) cs) (slice_get (passing_of images t cs) 0)

  -- the smallest slot that it reads
  abbrev pub other_slot : List Candidate → Option ℕ
  other_slot cs = option_and_then (least_slot t) (other_of cs)

-- where the candidates of what is sought don't agree; a block that has no position has none
abbrev pub disagreeing_of : List (List ℕ) → Result Target Fault → Option ℕ
disagreeing_of images (Err fault) = None
disagreeing_of images (Ok t) = other_slot images t (candidates t)

-- Where the candidates of a block don't agree: the smallest slot that the first one reads that passes
-- and differs from the first one that passes.
abbrev pub disagreeing : List (List ℕ) → Layout → Want → Option ℕ
disagreeing images layout want = disagreeing_of images (sought layout want)

-- of some candidates those that were read: all but some that read ranges in which reads failed
abbrev pub AreRead : Target → List Range → List Candidate → List Candidate → Type 0
AreRead t missed [] read = read ≡ []
AreRead t missed (c ∷ cs) read =
    ((rest : List Candidate) × (read ≡ c ∷ rest) × AreRead t missed cs rest) ⊎ (Any (λ place. IsOf t place c) missed × AreRead t missed cs read)

-- What comparing the candidates of what is sought answers: where those that were read don't agree. Whatever a rack
-- tells, the slot is the smallest that a candidate that stands reads; and where no count rose, all were read.
pub record IsCompared (t : Target) (old new : Seen) (slot : Option ℕ) : Type 0 where
  pub read : List Candidate
  pub are_read : AreRead t new.account.missed (candidates t) read
  pub is_other : IfSome old.held (λ images. slot ≡ other_slot images t read)
  pub of_one : IfSome slot (λ s. Any (λ c. (stands t c ≡ true) × (least_slot t c ≡ Some s)) (candidates t))
  pub misses_none : Steady old.account.faults new.account.faults → new.account.missed ≡ []

-- the same for a result of seeking
abbrev pub ComparesSought : Result Target Fault → Seen → Seen → Option ℕ → Type 0
ComparesSought (Err fault) old new slot = slot ≡ None
ComparesSought (Ok t) old new slot = IsCompared t old new slot

-- what comparing the candidates of a want's block answers
abbrev pub Compares : Layout → Want → Seen → Seen → Option ℕ → Type 0
Compares layout want old new slot = ComparesSought (sought layout want) old new slot

-- of the first k candidates some were read, of which P holds where the images are told
pub record ReadUpTo (t : Target) (old now : Seen) (k : ℕ) (P : List (List ℕ) → List Candidate → Type 0) : Type 0 where
  pub read : List Candidate
  pub are_read : AreRead t now.account.missed (take k (candidates t)) read
  pub holds : IfSome old.held (λ images. P images read)
  pub later : old.account.faults ≤ now.account.faults
  pub misses_none : Steady old.account.faults now.account.faults → now.account.missed ≡ old.account.missed

-- no candidate of some passes
abbrev pub NonePass : Target → List (List ℕ) → List Candidate → Type 0
NonePass t images cs = passing_of images t cs ≡ []

-- the first candidate of some that passes is this block, and those that pass don't differ from it
pub record AreAlike (t : Target) (block : List ℕ) (images : List (List ℕ)) (cs : List Candidate) : Type 0 where
  pub first : slice_get (passing_of images t cs) 0 ≡ Some block
  pub none : find (is_other images t block) cs ≡ None

-- the candidates were tried up to the first that passes, if one does: then this is its block
abbrev pub FindsFirst : Target → Seen → Seen → List ℕ → Option ℕ → Type 0
FindsFirst t old new block None = ReadUpTo t old new (length (candidates t)) (NonePass t)
FindsFirst t old new block (Some k) = (k < length (candidates t)) × ReadUpTo t old new (k + 1) (AreAlike t block)

-- the candidate at a place stands, and of all that were read it is the first one that differs
pub record IsOther (t : Target) (old new : Seen) (k : ℕ) : Type 0 where
  pub there : k < length (candidates t)
  pub candidate : Candidate
  pub at : slice_get (candidates t) k ≡ Some candidate
  pub standing : stands t candidate ≡ true
  pub other : ReadUpTo t old new (length (candidates t)) (λ images cs. other_of images t cs ≡ Some candidate)

-- the place of the first candidate that differs, if one does
abbrev pub FindsOther : Target → Seen → Seen → Option ℕ → Type 0
FindsOther t old new None = ReadUpTo t old new (length (candidates t)) (λ images cs. other_of images t cs ≡ None)
FindsOther t old new (Some k) = IsOther t old new k

-- the same, where the first candidates had been read when it began, and were alike
abbrev pub GoesOnFrom : Target → List ℕ → ℕ → Seen → Seen → Option ℕ → Type 0
GoesOnFrom t block k now new found =
    (old : Seen) → old.held ≡ now.held → ReadUpTo t old now k (AreAlike t block) → FindsOther t old new found
