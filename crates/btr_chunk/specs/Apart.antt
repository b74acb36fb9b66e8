-- Which byte of a device is whose, in a table of chunks.
use Rattle.std.specs.Prelude.{◌≡◌, ℕ, ◌<◌, true, List, length, Some, None, IsSomeAnd, slice_get}
use Rattle.btr_chunk.specs.Chunk.{mirrors, stripe_length}
use Rattle.btr_chunk.specs.Mapping.{HasPart, IsInStripe, IsPosition, data_place, holds, place_at}
use Rattle.btr_chunk.specs.Table.{IsTable}
use Rattle.btr_chunk.specs.declared.chunk.Chunk.{Chunk}
use Rattle.btr_chunk.specs.declared.place.Part.{Part}
use Rattle.btr_chunk.specs.declared.place.StripePlace.{StripePlace}
use Rattle.btr_chunk.specs.declared.stripe.Stripe.{Stripe}

-- a byte of a device lies in the stripe of a number of the chunk of a number
pub record LiesIn (chunks : List Chunk) (place : StripePlace) (i k : ℕ) : Type 0 where
  pub chunk : Chunk
  pub there : slice_get chunks i ≡ Some chunk
  pub stripe : Stripe
  pub stripe_there : slice_get chunk.stripes k ≡ Some stripe
  pub inside : IsInStripe (stripe_length chunk) stripe place 1

-- each byte of a device lies in one stripe of one chunk at most
abbrev pub StripesApart : Type 0
StripesApart =
    (chunks : List Chunk) (place : StripePlace) (i j k l : ℕ) → IsTable chunks → LiesIn chunks place i k → LiesIn chunks place j l
    → (i ≡ j) × (k ≡ l)

-- a byte of a device is, at an offset in its element, that of a part of a row, in a chunk with parity
pub record IsOfPart (chunks : List Chunk) (place : StripePlace) (i row rest : ℕ) (part : Part) : Type 0 where
  pub chunk : Chunk
  pub there : slice_get chunks i ≡ Some chunk
  pub parity : mirrors chunk ≡ None
  pub has : HasPart chunk.profile (length chunk.stripes) part
  pub within : rest < 65536
  pub position : IsPosition chunk (record { row = row; index = 0; rest = rest })
  pub at : place_at chunk part (record { row = row; index = 0; rest = rest }) ≡ place

-- each byte of a device is of one part of one row at most, and at one offset there
abbrev pub PartsApart : Type 0
PartsApart =
    (chunks : List Chunk) (place : StripePlace) (i j row other rest also : ℕ) (part another : Part) → IsTable chunks
    → IsOfPart chunks place i row rest part → IsOfPart chunks place j other also another
    → (i ≡ j) × (row ≡ other) × (rest ≡ also) × (part ≡ another)

-- a byte of a device is that of an address, in a copy of a chunk
pub record IsOfCopy (chunks : List Chunk) (place : StripePlace) (i copy addr : ℕ) : Type 0 where
  pub chunk : Chunk
  pub there : slice_get chunks i ≡ Some chunk
  pub copies : IsSomeAnd (mirrors chunk) (λ n. copy < n)
  pub holds : holds chunk addr ≡ true
  pub at : data_place chunk copy addr ≡ place

-- each byte of a device is that of one address in one copy at most
abbrev pub CopiesApart : Type 0
CopiesApart =
    (chunks : List Chunk) (place : StripePlace) (i j copy other addr also : ℕ) → IsTable chunks
    → IsOfCopy chunks place i copy addr → IsOfCopy chunks place j other also
    → (i ≡ j) × (copy ≡ other) × (addr ≡ also)
