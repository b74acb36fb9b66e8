-- How a table is kept: its chunks by their starts, and the ranges of devices that their stripes take up.
use Rattle.std.specs.Prelude.{◌≡◌, ◌≢◌, ℕ, ◌<◌, ◌≤◌, true, false, Bool, MatchBool, MatchOption, Option, Some, None, slice_get}
use Rattle.std.specs.Borrow.{Bor}
use Rattle.std.specs.Ordering.{nat_cmp}
use Rattle.std.specs.BTreeMap.{BTreeMap, IsOrdered, get, btree_map_len}
use Rattle.btr_chunk.specs.declared.stripe.Stripe.{Stripe}
use Rattle.btr_chunk.specs.declared.place.StripePlace.{StripePlace}
use Rattle.btr_chunk.specs.declared.chunk.Chunk.{Chunk}
use Rattle.btr_chunk.specs.Chunk.{IsChunk, stripe_length}
use Rattle.btr_chunk.specs.Table.{chunks_meet, some_meet}
use Rattle.btr_chunk.specs.Extents.{extent_of, ranges_meet, SomeMeets, NoneMeets}

-- the chunk that starts at an address
abbrev pub start_of : BTreeMap ℕ Chunk → ℕ → Option Chunk
start_of chunks start = get nat_cmp chunks start

-- a range of a device is that of a stripe of a chunk
pub record IsStripe (f : ℕ → Option Chunk) (place : StripePlace) (taken : ℕ) : Type 0 where
  pub start : ℕ
  pub chunk : Chunk
  pub chunk_there : f start ≡ Some chunk
  pub number : ℕ
  pub stripe : Stripe
  pub stripe_there : slice_get chunk.stripes number ≡ Some stripe
  pub at : place ≡ record { devid = stripe.devid; offset = stripe.offset }
  pub long : taken ≡ stripe_length chunk

-- chunks by their starts: each keeps the rule, and no two share an address or a byte
pub record AreChunks (f : ℕ → Option Chunk) : Type 0 where
  pub keyed : (k : ℕ) (c : Chunk) → f k ≡ Some c → c.start ≡ k
  pub sound : (k : ℕ) (c : Chunk) → f k ≡ Some c → IsChunk c
  pub spread : (k : ℕ) (c : Chunk) → f k ≡ Some c → some_meet (stripe_length c) c.stripes ≡ false
  pub apart : (k l : ℕ) (c d : Chunk) → f k ≡ Some c → f l ≡ Some d → k ≢ l → chunks_meet c d ≡ false

-- ranges of devices: those of the chunks' stripes, and no others
pub record AreStripes (f : ℕ → Option Chunk) (g : StripePlace → Option ℕ) : Type 0 where
  pub listed : (k : ℕ) (c : Chunk) (i : ℕ) (s : Stripe) → f k ≡ Some c → slice_get c.stripes i ≡ Some s
      → g (record { devid = s.devid; offset = s.offset }) ≡ Some (stripe_length c)
  pub owned : (place : StripePlace) (taken : ℕ) → g place ≡ Some taken → IsStripe f place taken

-- what the two maps of a table keep
pub record IsIndexed (starts : BTreeMap ℕ Chunk) (extents : BTreeMap StripePlace ℕ) : Type 0 where
  pub chunks : AreChunks (start_of starts)
  pub stripes : AreStripes (start_of starts) (extent_of extents)
  pub ordered : IsOrdered nat_cmp starts
  pub few : btree_map_len starts ≤ 65536

-- the last chunk that starts at or before an address
pub record IsLast (f : ℕ → Option Chunk) (addr : ℕ) (chunk : Chunk) : Type 0 where
  pub start : ℕ
  pub there : f start ≡ Some chunk
  pub before : start ≤ addr
  pub last : (k : ℕ) → start < k → k ≤ addr → f k ≡ None

-- the answer is the last chunk that starts at or before an address, if there is one
abbrev pub AnswersLast : (ℕ → Option Chunk) → ℕ → Option (Bor Chunk) → Type 0
AnswersLast f addr answer = MatchOption answer ((k : ℕ) → k ≤ addr → f k ≡ None) (λ chunk. IsLast f addr chunk.now)

-- the first chunk that starts at or behind an address
pub record IsNextChunk (f : ℕ → Option Chunk) (addr : ℕ) (chunk : Chunk) : Type 0 where
  pub start : ℕ
  pub there : f start ≡ Some chunk
  pub behind : addr ≤ start
  pub first : (k : ℕ) → addr ≤ k → k < start → f k ≡ None

-- the answer is the first chunk that starts at or after an address, if there is one
abbrev pub AnswersFirst : (ℕ → Option Chunk) → ℕ → Option (Bor Chunk) → Type 0
AnswersFirst f addr answer = MatchOption answer ((k : ℕ) → addr ≤ k → f k ≡ None) (λ chunk. IsNextChunk f addr chunk.now)

-- a chunk shares a logical address with one of the chunks
pub record SharesAddress (f : ℕ → Option Chunk) (chunk : Chunk) : Type 0 where
  pub start : ℕ
  pub other : Chunk
  pub there : f start ≡ Some other
  pub meets : ranges_meet chunk.start chunk.length other.start other.length ≡ true

-- it shares none with any of them
abbrev pub SharesNone : (ℕ → Option Chunk) → Chunk → Type 0
SharesNone f chunk = (k : ℕ) (c : Chunk) → f k ≡ Some c → ranges_meet chunk.start chunk.length c.start c.length ≡ false

-- whether it shares one
abbrev pub AnswersAddress : (ℕ → Option Chunk) → Chunk → Bool → Type 0
AnswersAddress f chunk answer = MatchBool answer (SharesAddress f chunk) (SharesNone f chunk)

-- a stripe of a chunk shares a byte with one of the ranges of devices
pub record SharesRange (g : StripePlace → Option ℕ) (chunk : Chunk) : Type 0 where
  pub number : ℕ
  pub stripe : Stripe
  pub there : slice_get chunk.stripes number ≡ Some stripe
  pub range : SomeMeets g (stripe_length chunk) stripe

-- none does
abbrev pub SharesNoRange : (StripePlace → Option ℕ) → Chunk → Type 0
SharesNoRange g chunk = (i : ℕ) (s : Stripe) → slice_get chunk.stripes i ≡ Some s → NoneMeets g (stripe_length chunk) s

-- whether one does
abbrev pub AnswersRange : (StripePlace → Option ℕ) → Chunk → Bool → Type 0
AnswersRange g chunk answer = MatchBool answer (SharesRange g chunk) (SharesNoRange g chunk)
