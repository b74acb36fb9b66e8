-- Blocks as they were committed, and what may stand in the ranges.
use Rattle.std.specs.Prelude.{◌≡◌, ◌≢◌, ◌⊎◌, ℕ, ◌*◌, ◌<◌, true, List, Some, None, IsSome, IfSome}
use Rattle.std.specs.List.{All, Any, range_with_len}
use Rattle.btr_rack.specs.declared.place.Place.{Place as Range}
use Rattle.btr_chunk.specs.Chunk.{mirrors}
use Rattle.btr_read.specs.Candidates.{Target, candidates, range_of, size_of, stands, value_of}
use Rattle.btr_read.specs.Candidates as read
use Rattle.btr_read.specs.Fate.{is_plain, passing_for, sought}
use Rattle.btr_read.specs.Layout.{Layout}
use Rattle.btr_read.specs.Want.{passes}
use Rattle.btr_read.specs.declared.want.Want.{Want}
use Rattle.btr_parity.specs.Slices.{IsSlice}
use Rattle.btr_scrub.specs.Filesystem.{Filesystem}
use Rattle.btr_scrub_copies.specs.Blocks.{own_parts}
use Rattle.btr_scrub_copies.specs.Fresh.{Failing, fresh, stale_parts}
use Rattle.btr_scrub_copies.specs.Writes.{Images}
use Rattle.btr_scrub_row.specs.Rows.{Row, parities, range_in_element}
pub use Rattle.btr_scrub.specs.Columns.{Committed, HasFewWrongAt, HasRightPlace, IsRightIn}
use Rattle.btr_scrub.specs.WrittenRanges.{KeepsOutside}
use Rattle.btr_scrub.specs.Repair.{first_missing, blocks, failed, ranges, row_of, rows, sites}

-- committed bytes pass
abbrev pub AllPass : Layout → Committed → Type 0
AllPass layout C = (want : Want) → IfSome (C want) (λ bytes. passes layout.setting want bytes ≡ true)

-- each candidate that passes is the committed one
abbrev pub IsHonest : Images → Layout → Committed → Type 0
IsHonest images layout C = (want : Want) → IfSome (C want) (λ bytes. All (λ other. other ≡ bytes) (passing_for images (sought layout want)))

-- images are lists of bytes
abbrev pub AreBytes : Images → Type 0
AreBytes images = All (λ (image : List ℕ). All (λ byte. byte < 256) image) images

-- the full stripe of a block's place
abbrev pub row_with : Images → Filesystem → Target → Row
row_with images fs t = row_of (failed images fs) (sites images fs) t.chunk t.at.row

-- a checked block can be spared: it has its committed bytes at a place of its own, or it lies in a full stripe, and few
-- elements are wrong where it lies
abbrev pub CanBeSpared : Images → Filesystem → Committed → Target → Type 0
CanBeSpared images fs C t =
    HasRightPlace images C t ⊎ ((mirrors t.chunk ≡ None) × HasFewWrongAt images fs.layout C (row_with images fs t) t)

-- this was committed: no device is missing, committed bytes pass and are all that passes, and each checked block that is
-- met has some
pub record IsCommitted (images : Images) (fs : Filesystem) (C : Committed) : Type 0 where
  pub given : first_missing fs.layout ≡ None
  pub pass : AllPass fs.layout C
  pub honest : IsHonest images fs.layout C
  pub committed : All (λ t. IsSome (C t.want)) (blocks images fs)
  pub slices : All (λ t. IfSome (C t.want) (IsSlice (size_of t))) (blocks images fs)

-- a block has a candidate that stands and gives its committed bytes
abbrev pub StandsFor : Images → Committed → Target → Type 0
StandsFor images C t = Any (λ c. (stands t c ≡ true) × (C t.want ≡ Some (value_of images t c))) (candidates t)

-- each checked block that can be spared has one in what is left
abbrev pub SparedStand : Images → Images → Filesystem → Committed → Type 0
SparedStand images left fs C = All (λ t. CanBeSpared images fs C t → StandsFor left C t) (blocks images fs)

-- so it is whatever bytes stand in the ranges
abbrev pub RangesMayHoldAnything : Images → Filesystem → Type 0
RangesMayHoldAnything images fs =
    (C : Committed) (left : Images) → IsCommitted images fs C → KeepsOutside (ranges images fs) images left → SparedStand images left fs C

-- where no device is missing, whatever bytes stand in the ranges, each plain sector with copies has its fresh bytes still,
-- if there are such bytes
abbrev pub RangesLeaveFresh : Images → Filesystem → Type 0
RangesLeaveFresh images fs = (left : Images) → first_missing fs.layout ≡ None → KeepsOutside (ranges images fs) images left
    → All (λ t. is_plain t.want ≡ true → IsSome (mirrors t.chunk) → fresh left (failed images fs) t ≡ fresh images (failed images fs) t) (sites images fs)

-- a range is a column of a parity that isn't right there
abbrev pub IsOfWrongParity : Images → Layout → Committed → Range → Row → Type 0
IsOfWrongParity images layout C range row =
    Any (λ part. Any (λ column. (range_in_element layout row part (column * 4096) 4096 ≡ Some range)
    × ¬ (IsRightIn images layout C row column part)) (range_with_len 0 16)) (parities row.chunk.profile)

-- a range is a block's own place, which hasn't its committed bytes
abbrev pub IsOfWrongPlace : Images → Committed → Range → Target → Type 0
IsOfWrongPlace images C range t = Any (λ part. (range_of t part ≡ Some range) × (C t.want ≢ Some (read.element images t part))) (own_parts t)

-- a range is that of a stale place of a plain sector: it has other bytes than the fresh ones, on an image that is behind
abbrev pub IsOfStale : Images → Failing → Range → Target → Type 0
IsOfStale images fails range t = (is_plain t.want ≡ true) × Any (λ part. range_of t part ≡ Some range) (stale_parts images fails t)

-- a range is a place of a checked block without its committed bytes, or a column of a parity that isn't right there, or a
-- stale place
abbrev pub IsWrongRange : Images → Filesystem → Committed → Range → Type 0
IsWrongRange images fs C range =
    Any (IsOfWrongParity images fs.layout C range) (rows images fs)
    ⊎ Any (IsOfWrongPlace images C range) (blocks images fs)
    ⊎ Any (IsOfStale images (failed images fs) range) (sites images fs)

-- each range does
abbrev pub RangesLieInWrong : Images → Filesystem → Type 0
RangesLieInWrong images fs = (C : Committed) → IsCommitted images fs C → All (IsWrongRange images fs C) (ranges images fs)
