-- A row's bytes in memory, element by element: the slices, P, and Q; and a block of it.
use Rattle.std.specs.List.{list_any, range_with_len}
use Rattle.std.specs.Prelude.{◌≡◌, ◌≢◌, ℕ, ◌+◌, ◌*◌, ◌<◌, ◌≤◌, ◌==◌, ◌&&◌, ◌||◌, Bool, true, false, List, [], ◌∷◌, length, map, nat_lt, take, Option, Some}
use Rattle.std.specs.Prelude.{None, IfSome, IsOkAnd, IsSome}
use Rattle.std.specs.Prelude.{Result, Ok, slice_get, slice_index_or, slice_range, if◌then◌else◌}
use Rattle.btr_chunk.specs.Chunk.{IsChunk, mirrors}
use Rattle.btr_chunk.specs.Mapping.{HasPart, IsPosition, place_at}
use Rattle.btr_chunk.specs.declared.place.Part.{Part}
use Rattle.btr_chunk.specs.declared.place.Part.TheVariants.{Slice, P, Q}
use Rattle.btr_chunk.specs.declared.profile.Profile.{Profile}
use Rattle.btr_chunk.specs.declared.profile.Profile.TheVariants.{Raid5, Raid6}
use Rattle.btr_read.specs.Candidates as candidates
use Rattle.btr_read.specs.Candidates.{Target, range_of, reads_slice, rebuilt, size_of, value_of}
use Rattle.btr_read.specs.Fate.{sought}
use Rattle.btr_read.specs.Gathering.{IsGathered}
use Rattle.btr_read.specs.Layout.{Layout}
use Rattle.btr_read.specs.Sought.{IsTwoParities}
use Rattle.btr_read.specs.Want.{len_of}
use Rattle.btr_read.specs.declared.candidate.Candidate.{Candidate}
use Rattle.btr_read.specs.declared.candidate.Candidate.TheVariants.{Read, ByP, ByQ, ByBoth}
use Rattle.btr_read.specs.declared.want.Want.{Want}
use Rattle.btr_rack.specs.Rack.{Seen}
use Rattle.btr_scrub_copies.specs.Blocks.{accepted, is_good}
use Rattle.btr_scrub_copies.specs.Fresh.{fresh, is_behind, is_doubtful, stale_parts}
use Rattle.btr_scrub_copies.specs.Writes.{AccountsMend, Images}
use Rattle.btr_scrub_copies.specs.declared.mended.MendFault.{MendFault}
use Rattle.btr_scrub_row.specs.Wanted.{new_bytes, wrong_parts}
use Rattle.btr_scrub_row.specs.Rows.{Row, element, has_doubtful, parities, slice_count}
use Rattle.btr_scrub_row.specs.Mending.{IsFullStripe, IsOfRow, IsOn, IsRowOf}
use Rattle.btr_scrub_row.specs.declared.doubts.Doubts.{Doubts}
use Rattle.btr_scrub_row.specs.declared.settling.Settled.{Settled}
use Rattle.btr_scrub_row.specs.declared.stripe.FullStripe.{FullStripe}
use Rattle.btr_read.specs.declared.parity.Parity.{Parity}
use Rattle.btr_read.specs.declared.parity.Parity.TheVariants as parity
use Rattle.btr_scrub_row.specs.declared.shape.Shape.{Shape}
use Rattle.btr_scrub_row.specs.declared.row_view.RowView.{RowView}
use Rattle.btr_scrub_row.specs.declared.slice_piece.SlicePiece.{SlicePiece}
use Rattle.btr_scrub_row.specs.declared.wanted_row.WantedRow.{WantedRow}

-- the profile of a row, and how many slices it has
pub record IsShape (row : Row) (shape : Shape) : Type 0 where
  pub slices : shape.slices ≡ slice_count row
  pub profile : shape.profile ≡ row.chunk.profile

-- the bytes of an element
abbrev pub element_in : List ℕ → ℕ → List ℕ
element_in bytes e = slice_range bytes (e * 65536) (e * 65536 + 65536)

-- the first elements, as slices
abbrev pub slices_in : List ℕ → ℕ → List (List ℕ)
slices_in bytes n = map (element_in bytes) (range_with_len 0 n)

-- so many bytes from a place on
abbrev pub piece_at : List ℕ → ℕ → ℕ → List ℕ
piece_at bytes start len = slice_range bytes start (start + len)

-- the part whose element has a number, of k slices
abbrev pub part_at : ℕ → ℕ → Part
part_at k e = if nat_lt e k then Slice e else (if e == k then P else Q)

-- how many elements a row has
abbrev pub element_count : Row → ℕ
element_count row = slice_count row + length (parities row.chunk.profile)

-- the first elements of a row are in memory
pub record HoldsFirst (images : Images) (layout : Layout) (row : Row) (bytes : List ℕ) (n : ℕ) : Type 0 where
  pub elements : (e : ℕ) → e < n → element_in bytes e ≡ element images layout row (part_at (slice_count row) e)

-- all are
abbrev pub HoldsRow : Images → Layout → Row → List ℕ → Type 0
HoldsRow images layout row bytes = HoldsFirst images layout row bytes (element_count row)

-- a full stripe is this row, in a chunk that keeps the rule
pub record IsStripeOf (layout : Layout) (stripe : FullStripe) (row : Row) : Type 0 where
  pub is : IsFullStripe layout stripe.chunk stripe.number row
  pub shape : IsShape row stripe.shape
  pub keeps_rule : IsChunk row.chunk
  pub nodesize : stripe.nodesize ≡ layout.setting.nodesize

-- there is such a row
pub record IsStripe (layout : Layout) (stripe : FullStripe) : Type 0 where
  pub row : Row
  pub of : IsStripeOf layout stripe row

-- this holds of it
abbrev pub OfRow : Layout → FullStripe → (Row → Type 0) → Type 0
OfRow layout stripe Fact = (row : Row) → IsStripeOf layout stripe row → Fact row

-- it has a part
abbrev pub IsPartOf : Layout → FullStripe → Part → Type 0
IsPartOf layout stripe part = (row : Row) → IsStripeOf layout stripe row → HasPart row.chunk.profile (length row.chunk.stripes) part

-- the account is as before, but where one of its elements failed
abbrev pub AccountsRow : {A : Type 0} → Layout → FullStripe → Seen → Seen → Result A MendFault → Type 0
AccountsRow layout stripe old new result = (row : Row) → IsStripeOf layout stripe row → AccountsMend (IsOfRow layout row) old new result

-- an element was read, where no read failed
abbrev pub ReadsElement : Layout → FullStripe → Part → List ℕ → Option Images → Type 0
ReadsElement layout stripe part bytes held = IfSome held (λ images. (row : Row) → IsStripeOf layout stripe row → bytes ≡ element images layout row part)

-- so were all
abbrev pub ReadsRow : Layout → FullStripe → List ℕ → Option Images → Type 0
ReadsRow layout stripe bytes held = IfSome held (λ images. (row : Row) → IsStripeOf layout stripe row → HoldsRow images layout row bytes)

-- ---- a block

-- the bytes of an element at the place of a piece
abbrev pub piece_in : List ℕ → SlicePiece → ℕ → List ℕ
piece_in bytes piece e = slice_range bytes (e * 65536 + piece.rest) (e * 65536 + piece.rest + piece.len)

-- a block's piece of a slice
pub record IsPiece (t : Target) (piece : SlicePiece) : Type 0 where
  pub slices : piece.shape.slices ≡ candidates.slice_count t
  pub profile : piece.shape.profile ≡ t.chunk.profile
  pub index : piece.index ≡ t.at.index
  pub rest : piece.rest ≡ t.at.rest
  pub len : piece.len ≡ size_of t

-- the same in a row of a chunk that keeps the rule, and has parity
pub record IsSited (piece : SlicePiece) (t : Target) : Type 0 where
  pub place : IsPiece t piece
  pub keeps_rule : IsChunk t.chunk
  pub position : IsPosition t.chunk t.at
  pub parity : mirrors t.chunk ≡ None

-- a piece that lies in the elements in memory
pub record FitsIn (bytes : List ℕ) (piece : SlicePiece) : Type 0 where
  pub few : piece.shape.slices ≤ 63
  pub index : piece.index < piece.shape.slices
  pub inside : piece.rest + piece.len ≤ 65536
  pub p : (piece.shape.slices + 1) * 65536 ≤ length bytes
  pub q : piece.shape.profile ≡ Raid6 → (piece.shape.slices + 2) * 65536 ≤ length bytes

-- all that a block's candidates read is in memory
pub record HoldsBlock (images : Images) (t : Target) (piece : SlicePiece) (bytes : List ℕ) : Type 0 where
  pub keeps_rule : IsChunk t.chunk
  pub position : IsPosition t.chunk t.at
  pub parity : mirrors t.chunk ≡ None
  pub stand : (part : Part) → HasPart t.chunk.profile (length t.chunk.stripes) part → IsSome (candidates.range_of t part)
  pub slices : (i : ℕ) → i < candidates.slice_count t → piece_in bytes piece i ≡ candidates.element images t (Slice i)
  pub p : piece_in bytes piece (candidates.slice_count t) ≡ candidates.element images t P
  pub q : t.chunk.profile ≡ Raid6 → piece_in bytes piece (candidates.slice_count t + 1) ≡ candidates.element images t Q

-- a block with its piece, whose candidates are in memory
pub record IsInMemory (images : Images) (t : Target) (piece : SlicePiece) (bytes : List ℕ) : Type 0 where
  pub place : IsPiece t piece
  pub block : HoldsBlock images t piece bytes

-- ---- what the parities leave of slices

-- the number of a parity's element: P's comes after the slices, and then Q's
abbrev pub element_of : Parity → ℕ → ℕ
element_of parity.P slices = slices
element_of parity.Q slices = slices + 1

-- the row has a parity
abbrev pub HasParity : Profile → Parity → Type 0
HasParity profile parity.P = Unit {0}
HasParity profile parity.Q = profile ≡ Raid6

-- a candidate reads Q
abbrev pub ReadsQ : Candidate → Type 0
ReadsQ (Read part) = ⊥
ReadsQ ByP = ⊥
ReadsQ ByQ = Unit {0}
ReadsQ (ByBoth j) = Unit {0}

-- the front of a buffer has what a parity leaves of the slices that a candidate doesn't read
abbrev pub Gathers : SlicePiece → List ℕ → Candidate → Parity → List ℕ → Type 0
Gathers piece bytes c p sum = (images : Images) (t : Target) → IsInMemory images t piece bytes → IsGathered images t c p (take piece.len sum)

-- the front of a buffer has what a candidate gives
abbrev pub Computes : SlicePiece → List ℕ → Candidate → List ℕ → Type 0
Computes piece bytes c block = (images : Images) (t : Target) → IsInMemory images t piece bytes → value_of images t c ≡ take piece.len block

-- a candidate for slice i is the way of a number, of so many slices
abbrev pub IsCandidate : Profile → ℕ → ℕ → ℕ → Candidate → Type 0
IsCandidate profile slices i k c = slice_get (rebuilt profile slices i) k ≡ Some c

-- how many ways there are to get a block of a row
pub record IsWayCount (piece : SlicePiece) (count : ℕ) : Type 0 where
  pub six : piece.shape.profile ≡ Raid6 → count ≡ piece.shape.slices + 2
  pub five : piece.shape.profile ≢ Raid6 → count ≡ 2

-- a candidate for slice i is the way of number k, with Q and without it
pub record IsWayOf (i k : ℕ) (c : Candidate) : Type 0 where
  pub one : (slices : ℕ) → k < 2 → IsCandidate Raid5 slices i k c
  pub two : (slices : ℕ) → i < slices → k < slices + 2 → IsCandidate Raid6 slices i k c
  pub parts : (slices : ℕ) → i < slices → k < slices + 2 → IsTwoParities slices i c
  pub first : k < 2 → ReadsQ c → ⊥

-- what is accepted for the block is in the front of a buffer, and whether the block passes at its own place
pub record IsAccepted (images : Images) (t : Target) (block : List ℕ) (own : Bool) : Type 0 where
  pub bytes : accepted images t ≡ Some (take (size_of t) block)
  pub good : is_good images t (Slice t.at.index) ≡ own

-- no candidate passes
pub record IsGone (images : Images) (t : Target) : Type 0 where
  pub bytes : accepted images t ≡ None
  pub good : is_good images t (Slice t.at.index) ≡ false

-- what is accepted for a block
abbrev pub Accepts : Images → Target → List ℕ → Option Bool → Type 0
Accepts images t block (Some own) = IsAccepted images t block own
Accepts images t block None = IsGone images t

-- the same for a wanted block
abbrev pub AcceptsWant : RowView → Want → SlicePiece → List ℕ → Option Bool → Type 0
AcceptsWant view want piece block own =
    (images : Images) (t : Target) → sought view.store.now.layout want ≡ Ok t → IsInMemory images t piece view.old.now → Accepts images t block own

-- ---- images in doubt

-- what is flagged by the number of an element
abbrev pub flag_of : List Bool → ℕ → Bool
flag_of flags e = slice_index_or flags e false

-- the device on which the element of a part lies
abbrev pub devid_at : Row → Part → ℕ
devid_at row part = (place_at row.chunk part (record { row = row.number; index = 0; rest = 0 })).devid

-- what is known of the images of a row: by the number of an element, whether its image is in doubt, and whether it is
-- behind; and whether some image of the chunk is in doubt
pub record KnowsDoubts (layout : Layout) (row : Row) (doubts : Doubts) : Type 0 where
  pub doubtful : (e : ℕ) → e < element_count row → flag_of doubts.doubtful e
      ≡ is_doubtful layout.devices row.failing (devid_at row (part_at (slice_count row) e))
  pub behind : (e : ℕ) → e < element_count row → flag_of doubts.behind e ≡ is_behind layout.devices row.failing (devid_at row (part_at (slice_count row) e))
  pub some : doubts.some ≡ has_doubtful layout.devices row.failing row.chunk

-- a candidate for slice i of k reads a slice that is flagged
abbrev pub reads_flagged_slice : List Bool → ℕ → ℕ → Candidate → Bool
reads_flagged_slice flags k i candidate = list_any (λ slice. reads_slice i candidate slice && flag_of flags slice) (range_with_len 0 k)

-- it reads an element that is flagged; only its own slice is read alone
abbrev pub reads_flagged : List Bool → ℕ → ℕ → Candidate → Bool
reads_flagged flags k i (Read part) = flag_of flags i
reads_flagged flags k i ByP = flag_of flags k || reads_flagged_slice flags k i ByP
reads_flagged flags k i ByQ = flag_of flags (k + 1) || reads_flagged_slice flags k i ByQ
reads_flagged flags k i (ByBoth j) = flag_of flags k || (flag_of flags (k + 1) || reads_flagged_slice flags k i (ByBoth j))

-- a block of a row, each of whose elements stands, with its piece
pub record LiesAt (layout : Layout) (row : Row) (t : Target) (piece : SlicePiece) : Type 0 where
  pub on : IsOn row t
  pub devices : t.devices ≡ layout.devices
  pub sited : IsSited piece t
  pub stand : (part : Part) → HasPart t.chunk.profile (length t.chunk.stripes) part → IsSome (range_of t part)

-- a row is that of some wants, and what is known of its images is so
pub record IsWantedRow (layout : Layout) (wanted : WantedRow) (row : Row) : Type 0 where
  pub of : IsStripeOf layout wanted.stripe row
  pub is : IsRowOf layout wanted.stripe.chunk wanted.stripe.number wanted.wants.now row
  pub knows : KnowsDoubts layout row wanted.doubts

-- there is a row of those wants
pub record IsWanted (layout : Layout) (wanted : WantedRow) : Type 0 where
  pub stripe : IsStripe layout wanted.stripe
  pub is : IsRowOf layout wanted.stripe.chunk wanted.stripe.number wanted.wants.now stripe.row

-- there is one, and all its elements are in memory
pub record IsViewed (view : RowView) : Type 0 where
  pub wanted : IsWanted view.store.now.layout view.wanted
  pub room : OfRow view.store.now.layout view.wanted.stripe (λ row. length row.chunk.stripes * 65536 ≤ length view.old.now)

-- a wanted block's piece, in a row that was read
pub record IsPieceOf (view : RowView) (want : Want) (piece : SlicePiece) : Type 0 where
  pub within : FitsIn view.old.now piece
  pub placed : IsOkAnd (sought view.store.now.layout want) (IsSited piece)
  pub len : piece.len ≡ len_of view.store.now.layout.setting want

-- this holds of the images, of a row of which the doubts are known, and of a wanted block in it all of whose candidates are in memory
abbrev pub OfHeld : RowView → Want → SlicePiece → (Images → Row → Target → Type 0) → Type 0
OfHeld view want piece Fact =
    (images : Images) (row : Row) (t : Target) → sought view.store.now.layout want ≡ Ok t → LiesAt view.store.now.layout row t piece
    → KnowsDoubts view.store.now.layout row view.wanted.doubts → IsInMemory images t piece view.old.now → Fact images row t

-- the fresh bytes of a plain sector are in the front of a buffer, if there are any
abbrev pub HasFresh : Images → Row → Target → List ℕ → Bool → Type 0
HasFresh images row t block found = fresh images row.failing t ≡ (if found then Some (take (size_of t) block) else None)

-- a plain sector is stale at its place, and its fresh bytes are in the front of a buffer, or it isn't
pub record IsRenewed (images : Images) (row : Row) (t : Target) (block : List ℕ) (stale : Bool) : Type 0 where
  pub parts : stale_parts images row.failing t ≡ (if stale then Slice t.at.index ∷ [] else [])
  pub bytes : stale ≡ true → fresh images row.failing t ≡ Some (take (size_of t) block)

-- whether a block's own place is right, and what it gets, which is in the front of a buffer
pub record IsSettled (images : Images) (row : Row) (t : Target) (block : List ℕ) (settled : Settled) : Type 0 where
  pub wrong : wrong_parts images row.failing t ≡ (if settled.good then [] else Slice t.at.index ∷ [])
  pub gets : new_bytes images row.failing t ≡ (if settled.given then Some (take (size_of t) block) else None)
