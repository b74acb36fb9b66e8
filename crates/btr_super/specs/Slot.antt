-- The superblock of an image.
use Rattle.std.specs.Prelude.{◌≡◌, ◌≢◌, ℕ, ◌+◌, nat_le, if◌then◌else◌, List, [], ◌∷◌, ◌++◌, length, IfSome, IfOk, slice_get, Contains, Option, Some}
use Rattle.std.specs.Prelude.{None, Result, Ok, Err, MatchOption}
use Rattle.std.specs.List.{filter_map}
use Rattle.std.specs.Result.{result_ok}
use Rattle.btr_base.specs.Field.{bytes_at}
use Rattle.btr_rack.specs.Rack.{Account, NoneFailed, OneFailed, range_in, image_of}
use Rattle.btr_rack.specs.declared.error.RackError.{RackError}
use Rattle.btr_super.specs.Super.{superblock}
use Rattle.btr_super.specs.Newest.{newest, IsNewest}
use Rattle.btr_super.specs.declared.superblock.Super.{Super}
use Rattle.btr_super.specs.declared.fault.SuperFault.{SuperFault}
use Rattle.btr_super.specs.declared.fault.SuperFault.TheVariants.{Magic, Place, Sum, SumKind as kind_fault}
use Rattle.btr_super.specs.declared.seen.Seen.{Seen}
use Rattle.btr_super.specs.declared.fault.SlotFault.{SlotFault}
use Rattle.btr_super.specs.declared.fault.SlotFault.TheVariants.{Failed, SumKind, NoSuper}

-- the places of the copies
abbrev pub places : List ℕ
places = 65536 ∷ 67108864 ∷ 274877906944 ∷ []

-- what stands at those of some places whose 4096 bytes lie in the image
unfoldable pub standing : List ℕ → List ℕ → List (Result Super SuperFault)
standing image [] = []
standing image (place ∷ rest) =
    if nat_le (place + 4096) (length image) then superblock (bytes_at 4096 place image) place ∷ standing image rest else standing image rest

-- the valid ones
abbrev pub valid : List (Result Super SuperFault) → List Super
valid found = filter_map result_ok found

-- the checksum type that isn't supported
abbrev pub sum_kind : Result Super SuperFault → Option ℕ
sum_kind (Err (kind_fault n)) = Some n
sum_kind (Err Magic) = None
sum_kind (Err Place) = None
sum_kind (Err Sum) = None
sum_kind (Ok s) = None

-- the first checksum type that isn't supported
abbrev pub first_kind : List (Result Super SuperFault) → Option ℕ
first_kind found = slice_get (filter_map sum_kind found) 0

-- a superblock, or why there is none
abbrev pub chosen : Option Super → Option ℕ → Result Super SlotFault
chosen (Some s) kind = Ok s
chosen None (Some n) = Err (SumKind n)
chosen None None = Err NoSuper

-- the newest valid one of what was found
abbrev pub slot_answer : List (Result Super SuperFault) → Result Super SlotFault
slot_answer found = chosen (newest (valid found)) (first_kind found)

-- the superblock of an image: the newest of its valid copies, the first of equals
abbrev pub image_super : List ℕ → Result Super SlotFault
image_super image = slot_answer (standing image places)

-- what was read is what stands in the bytes
abbrev pub Answers : List ℕ → ℕ → Result (Result Super SuperFault) RackError → Type 0
Answers bytes place (Ok found) = found ≡ superblock bytes place
Answers bytes place (Err _) = Unit {0}

-- a read of the 4096 bytes at a place failed, or none did
abbrev pub FailedAt : {T E : Type 0} → ℕ → ℕ → Account → Account → Result T E → Type 0
FailedAt slot place old new (Ok _) = NoneFailed old new
FailedAt slot place old new (Err _) = OneFailed (range_in slot place 4096) old new × (new.shut ≡ old.shut)

-- a read of a superblock place failed, or none did
abbrev pub FailedAtPlace : ℕ → Account → Account → Result Super SlotFault → Type 0
FailedAtPlace slot old new (Ok _) = NoneFailed old new
FailedAtPlace slot old new (Err Failed) =
    (place : ℕ) × Contains places place × OneFailed (range_in slot place 4096) old new × (new.shut ≡ old.shut)
FailedAtPlace slot old new (Err (SumKind n)) = NoneFailed old new
FailedAtPlace slot old new (Err NoSuper) = NoneFailed old new

-- the newest and the first kind among what was found so far
pub record IsSoFar (found : List (Result Super SuperFault)) (seen : Seen) : Type 0 where
  pub newest : MatchOption seen.newest (valid found ≡ []) (IsNewest (valid found))
  pub kind : seen.kind ≡ first_kind found

-- the first of two
abbrev pub kind_then : Option ℕ → Option ℕ → Option ℕ
kind_then None other = other
kind_then (Some n) other = Some n

-- where the bytes of the images are told, what was read is what stands in the copy at a place of a slot
abbrev pub AnswersCopy : Option (List (List ℕ)) → ℕ → ℕ → Result (Result Super SuperFault) RackError → Type 0
AnswersCopy held slot place result = IfSome held (λ images. Answers (bytes_at 4096 place (image_of images slot)) place result)

-- one more place was looked at: what was seen of some places of the image is seen of them and this one
abbrev pub LookedAt : List ℕ → ℕ → Seen → Seen → Type 0
LookedAt image place seen after =
    (before : List ℕ) → IsSoFar (standing image before) seen → IsSoFar (standing image (before ++ place ∷ [])) after

-- the same where the bytes of the images are told, and the place could be read
abbrev pub AnswersLook : Option (List (List ℕ)) → ℕ → ℕ → Seen → Result Seen SlotFault → Type 0
AnswersLook held slot place seen result = IfOk result (λ after. IfSome held (λ images. LookedAt (image_of images slot) place seen after))

-- where the bytes of the images are told, what isn't a failed read is the superblock of the image in a slot
abbrev pub AnswersSlot : Option (List (List ℕ)) → ℕ → Result Super SlotFault → Type 0
AnswersSlot held slot result = IfSome held (λ images. result ≢ Err Failed → image_super (image_of images slot) ≡ result)
