-- What mending a block by its copies did.
use Rattle.std.specs.Prelude.{◌≡◌, ◌<◌, ℕ, Bool, true, false, not, List, [], length, map, slice_index_or, Option, Some, None, IfSome, IsSome, Result, Ok, Err}
use Rattle.std.specs.Prelude.{if◌then◌else◌}
use Rattle.std.specs.List.{filter, range_with_len}
use Rattle.btr_chunk.specs.Chunk.{mirrors}
use Rattle.btr_chunk.specs.declared.place.Part.{Part}
use Rattle.btr_chunk.specs.declared.place.Part.TheVariants.{Mirror}
use Rattle.btr_rack.specs.Rack.{OnlyReads, Seen}
use Rattle.btr_rack.specs.declared.place.Place.{Place as Range}
use Rattle.btr_read.specs.Candidates.{Target, element, range_of}
use Rattle.btr_read.specs.Cause.{IsOf}
use Rattle.btr_read.specs.Fate.{passing, sought}
use Rattle.btr_read.specs.Layout.{Layout}
use Rattle.btr_read.specs.declared.want.Want.{Want}
use Rattle.btr_read.specs.Mirror.{HasMirror, mirror_candidate}
use Rattle.btr_scrub_copies.specs.Blocks.{accepted, bad_parts, block_writes, copy_writes, is_good, is_lost, is_sound}
use Rattle.btr_scrub_copies.specs.Writes.{AccountsMend, DoesWrites, Images, Write, writes_if}
use Rattle.btr_read.specs.Store.{Blocks, IsLentBy, Lent, SameLoans, block_of}
use Rattle.btr_scrub_copies.specs.declared.finding.First.{First}
use Rattle.btr_scrub_copies.specs.declared.judged_copies.JudgedCopies.{JudgedCopies}
use Rattle.btr_scrub_copies.specs.declared.mended.MendFault.{MendFault}
use Rattle.btr_scrub_copies.specs.declared.mended.Mended.{Mended}

-- a want has a position in a chunk with copies, each of which lies on a device that is given
pub record IsCopied (layout : Layout) (want : Want) : Type 0 where
  pub target : Target
  pub is_sought : sought layout want ≡ Ok target
  pub copies : IsSome (mirrors target.chunk)
  pub stand : (mirror : ℕ) → HasMirror mirror target → IsSome (range_of target (Mirror mirror))

-- where the images are told, this holds of them and of the position of a wanted block
abbrev pub InTold : Blocks → Want → Seen → (Images → Target → Type 0) → Type 0
InTold store want rack Fact = (t : Target) (images : Images) → sought store.layout want ≡ Ok t → rack.held ≡ Some images → Fact images t

-- a range lies in a copy of a block
pub record IsOfCopy (t : Target) (range : Range) : Type 0 where
  pub mirror : ℕ
  pub has : HasMirror mirror t
  pub lies : IsOf t range (mirror_candidate mirror)

-- what comes of a block, which is written or only read
abbrev pub mended_of : Images → Target → Bool → Mended
mended_of images t write = record {
  bad = length (bad_parts images t);
  repaired = length (writes_if write (block_writes images t));
  lost = is_lost images t;
}

-- the count of what came of it
abbrev pub CountsMended : Option Images → (Images → Mended) → Result Mended MendFault → Type 0
CountsMended held count (Ok mended) = IfSome held (λ images. mended ≡ count images)
CountsMended held count (Err fault) = Unit {0}

-- A block was read, and written by its copies: exactly these writes, or those up to one that failed. What was written is
-- marked by its slot. Where it was only to be read, it was.
pub record Repairs (t : Target) (write : Bool) (writes : Images → List Write) (count : Images → Mended) (marks marks' : List Bool) (old new : Seen)
    (result : Result Mended MendFault) : Type 0 where
  pub does : DoesWrites (IsOfCopy t) (λ images. writes_if write (writes images)) marks marks' old new result
  pub counts : CountsMended old.held count result
  pub unwritten : write ≡ false → OnlyReads old new

-- a block was mended: the writes are those that mend it
abbrev pub Mends : Target → Bool → List Bool → List Bool → Seen → Seen → Result Mended MendFault → Type 0
Mends t write marks marks' old new result =
    Repairs t write (λ images. block_writes images t) (λ images. mended_of images t write) marks marks' old new result

-- a copy passes, and its bytes are those that are accepted
pub record IsTrustedCopy (images : Images) (t : Target) (mirror : ℕ) : Type 0 where
  pub good : is_good images t (Mirror mirror) ≡ true
  pub accepts : accepted images t ≡ Some (element images t (Mirror mirror))

-- of which of the first n copies a test holds, by their numbers, and of how many
pub record AreFlagged (test : Part → Bool) (n : ℕ) (by_copy : List Bool) (number : ℕ) : Type 0 where
  pub flags : (k : ℕ) → k < n → slice_index_or by_copy k false ≡ test (Mirror k)
  pub count : number ≡ length (filter test (map Mirror (range_with_len 0 n)))

-- which copies are bad, and how many, of the first n
abbrev pub AreBad : Images → Target → ℕ → List Bool → ℕ → Type 0
AreBad images t n by_copy number = AreFlagged (λ part. not (is_sound images t part)) n by_copy number

-- the first copy that passes is lent, if one does, and nothing else
abbrev pub LendsFirst : Want → Blocks → Blocks → Result (Option First) MendFault → Type 0
LendsFirst want old new (Ok (Some first)) = IsLentBy old new want first.loan
LendsFirst want old new (Ok None) = SameLoans old new
LendsFirst want old new (Err fault) = SameLoans old new

-- a copy is the first that passes, and its bytes are lent
abbrev pub HasFirst : Images → Target → Blocks → First → Type 0
HasFirst images t store first = IsTrustedCopy images t first.mirror × (block_of store first.loan ≡ Some (element images t (Mirror first.mirror)))

-- the first copy that passes was found, or none passes
abbrev pub FindsFirst : Images → Target → Blocks → Result (Option First) MendFault → Type 0
FindsFirst images t store (Ok (Some first)) = HasFirst images t store first
FindsFirst images t store (Ok None) = passing images t ≡ []
FindsFirst images t store (Err fault) = Unit {0}

-- those of the first n copies that have a flag
abbrev pub flagged_copies : List Bool → ℕ → List Part
flagged_copies flags n = map Mirror (filter (λ k. slice_index_or flags k false) (range_with_len 0 n))

-- bytes are written over copies
abbrev pub Overwrites : {A : Type 0} → Target → List ℕ → List Part → List Bool → List Bool → Seen → Seen → Result A MendFault → Type 0
Overwrites t bytes parts marks marks' old new result = DoesWrites (IsOfCopy t) (λ images. copy_writes t bytes parts) marks marks' old new result

-- what comes of a block with so many bad copies, for which bytes are accepted
abbrev pub mended_copies : ℕ → Bool → Mended
mended_copies count write = record { bad = count; repaired = if write then count else 0; lost = false }

-- ---- a wanted block, by its position

-- the account is as before, but where a copy of it failed
abbrev pub AccountsCopies : {A : Type 0} → Blocks → Want → Seen → Seen → Result A MendFault → Type 0
AccountsCopies store want old new result = (t : Target) → sought store.layout want ≡ Ok t → AccountsMend (IsOfCopy t) old new result

-- the bytes of a loan were written over copies of it
abbrev pub WritesLoan : {A : Type 0} → Blocks → Want → Lent → List Part → List Bool → List Bool → Seen → Seen → Result A MendFault → Type 0
WritesLoan store want loan parts marks marks' old new result =
    (t : Target) (bytes : List ℕ) → sought store.layout want ≡ Ok t → block_of store loan ≡ Some bytes → Overwrites t bytes parts marks marks' old new result

-- it was mended by its copies
abbrev pub MendsWant : Blocks → Want → Bool → List Bool → List Bool → Seen → Seen → Result Mended MendFault → Type 0
MendsWant store want write marks marks' old new result = (t : Target) → sought store.layout want ≡ Ok t → Mends t write marks marks' old new result

-- the bytes of a loan were written over its bad copies, or these were only counted
abbrev pub MendsBad : Blocks → JudgedCopies → Lent → Bool → List Bool → List Bool → Seen → Seen → Result Mended MendFault → Type 0
MendsBad store judged loan write marks marks' old new result =
    (t : Target) (bytes : List ℕ) → sought store.layout judged.block.want.now ≡ Ok t → block_of store loan ≡ Some bytes
    → Repairs t write (λ images. copy_writes t bytes (flagged_copies judged.bad.flags judged.block.copies)) (λ images. mended_copies judged.bad.count write)
    marks marks' old new result
