-- The table of a filesystem's chunks, seen as the list of its chunks in ascending start.
use Rattle.std.specs.Prelude.{◌≡◌, ℕ, ◌+◌, ◌<◌, ◌≤◌, Bool, false, List, [], ◌∷◌, length, Option, Some, Result, Ok, Err, if◌then◌else◌, ◌==◌, ◌&&◌}
use Rattle.std.specs.Prelude.{◌||◌, nat_lt, nat_le, nat_eq, find, slice_get}
use Rattle.std.specs.List.{list_any}
use Rattle.std.specs.Cmp.Lexicographic.{pointwise}
use Rattle.btr_chunk.specs.declared.stripe.Stripe.{Stripe}
use Rattle.btr_chunk.specs.declared.chunk.Chunk.{Chunk}
use Rattle.btr_chunk.specs.declared.add.AddFault.{AddFault}
use Rattle.btr_chunk.specs.declared.add.AddFault.TheVariants.{Overlap, Chunks, Memory}
use Rattle.btr_chunk.specs.Chunk.{IsChunk, stripe_length}
use Rattle.btr_chunk.specs.Mapping.{holds}
use Rattle.btr_chunk.specs.Extents.{ranges_meet, meets_range}

-- a stripe of one length shares a byte of a device with a stripe of another
abbrev pub stripes_meet : ℕ → Stripe → ℕ → Stripe → Bool
stripes_meet len a other b = meets_range len a (record { devid = b.devid; offset = b.offset }) other

-- two chunks share a logical address, or a byte of a device
abbrev pub chunks_meet : Chunk → Chunk → Bool
chunks_meet a b =
    ranges_meet a.start a.length b.start b.length
    || list_any (λ s. list_any (stripes_meet (stripe_length a) s (stripe_length b)) b.stripes) a.stripes

-- two stripes of a list, of one length, share a byte of a device
abbrev pub some_meet : ℕ → List Stripe → Bool
some_meet len [] = false
some_meet len (s ∷ rest) = list_any (stripes_meet len s len) rest || some_meet len rest

-- a chunk shares an address or a byte with one of the chunks, or its own stripes share a byte
abbrev pub overlaps : List Chunk → Chunk → Bool
overlaps chunks chunk = some_meet (stripe_length chunk) chunk.stripes || list_any (chunks_meet chunk) chunks

-- two stripes are equal in all fields
abbrev pub same_stripe : Stripe → Stripe → Bool
same_stripe a b = (a.devid == b.devid) && (a.offset == b.offset) && pointwise nat_eq a.uuid b.uuid

-- two chunks are equal in all fields; the profile is that of the type
abbrev pub same_chunk : Chunk → Chunk → Bool
same_chunk a b = (a.start == b.start) && (a.length == b.length) && (a.kind == b.kind) && pointwise same_stripe a.stripes b.stripes

-- the chunks with one more, before the first that starts behind it
abbrev pub placed : Chunk → List Chunk → List Chunk
placed chunk [] = chunk ∷ []
placed chunk (c ∷ chunks) = if nat_lt chunk.start c.start then chunk ∷ c ∷ chunks else c ∷ placed chunk chunks

-- what adding a chunk comes to: the chunks then, or why it can't be added
abbrev pub added : List Chunk → Chunk → Result (List Chunk) AddFault
added chunks chunk =
    if list_any (same_chunk chunk) chunks then Ok chunks
    else if overlaps chunks chunk then Err Overlap
    else if nat_le 65536 (length chunks) then Err Chunks
    else Ok (placed chunk chunks)

-- an answer of `add` is what adding comes to, and a refusal leaves the table as it was
abbrev pub IsAdding : List Chunk → Chunk → Result (Unit {0}) AddFault → List Chunk → Type 0
IsAdding old chunk (Ok _) new = added old chunk ≡ Ok new
IsAdding old chunk (Err Overlap) new = (added old chunk ≡ Err Overlap) × (new ≡ old)
IsAdding old chunk (Err Chunks) new = (added old chunk ≡ Err Chunks) × (new ≡ old)
IsAdding old chunk (Err Memory) new = new ≡ old

-- the chunk that holds an address
abbrev pub chunk_at : List Chunk → ℕ → Option Chunk
chunk_at chunks addr = find (λ chunk. holds chunk addr) chunks

-- the first chunk that starts at or behind an address
abbrev pub next_at : List Chunk → ℕ → Option Chunk
next_at chunks addr = find (λ chunk. nat_le addr chunk.start) chunks

-- what each table keeps: at most 65536 chunks in ascending order, no two of
-- which share an address or a byte of a device
pub record IsTable (chunks : List Chunk) : Type 0 where
  pub few : length chunks ≤ 65536
  pub sound : (i : ℕ) (a : Chunk) → slice_get chunks i ≡ Some a → IsChunk a × (some_meet (stripe_length a) a.stripes ≡ false)
  pub apart : (i j : ℕ) (a b : Chunk) → i < j → slice_get chunks i ≡ Some a → slice_get chunks j ≡ Some b
      → (a.start + a.length ≤ b.start) × (chunks_meet a b ≡ false)
