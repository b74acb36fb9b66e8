-- The item that describes a chunk: length 8, owner 8, stripe_len 8, type 8, io_align 4, io_width 4, sector_size 4,
-- num_stripes 2, sub_stripes 2, and then each stripe's devid 8, offset 8 and uuid 16.
use Rattle.std.specs.Prelude.{◌≡◌, ℕ, ◌+◌, ◌*◌, Bool, List, length, map, Result, Ok, Err, if◌then◌else◌, ◌==◌, ◌&&◌, nat_lt, true}
use Rattle.std.specs.List.{range_with_len}
use Rattle.std.specs.Option.{option_map_or}
use Rattle.btr_base.specs.Field.{number_at, bytes_at}
use Rattle.btr_chunk.specs.declared.stripe.Stripe.{Stripe}
use Rattle.btr_chunk.specs.declared.chunk.Chunk.{Chunk}
use Rattle.btr_chunk.specs.declared.profile.Profile.{Profile}
use Rattle.btr_chunk.specs.declared.profile.Profile.TheVariants.{Raid10}
use Rattle.btr_chunk.specs.declared.fault.ChunkFault.{ChunkFault}
use Rattle.btr_chunk.specs.declared.fault.ChunkFault.TheVariants.{Stripes, Bad, Memory}
use Rattle.btr_chunk.specs.Kind.{profile_of_kind}
use Rattle.btr_chunk.specs.Chunk.{keeps_rule}

-- the stripe in the 32 bytes from an offset
abbrev pub stripe_at : ℕ → List ℕ → Stripe
stripe_at off bytes = record { devid = number_at 8 off bytes; offset = number_at 8 (off + 8) bytes; uuid = bytes_at 16 (off + 16) bytes }

-- the first n stripes of an item
abbrev pub stripes_in : ℕ → List ℕ → List Stripe
stripes_in n bytes = map (λ i. stripe_at (48 + 32 * i) bytes) (range_with_len 0 n)

-- the number of stripes that an item states
abbrev pub count_in : List ℕ → ℕ
count_in bytes = number_at 2 44 bytes

-- the chunk that an item describes, from the address on where its key lets it start
abbrev pub described : ℕ → List ℕ → Profile → Chunk
described start bytes profile = record {
  start = start;
  length = number_at 8 0 bytes;
  kind = number_at 8 24 bytes;
  profile = profile;
  stripes = stripes_in (count_in bytes) bytes;
}

-- RAID10 has pairs of stripes; sub_stripes of the other profiles isn't looked at
abbrev pub has_sub_stripes : Profile → ℕ → Bool
has_sub_stripes Raid10 n = n == 2
has_sub_stripes _ n = true

-- an item is as long as its stripes make it, in elements of 65536 bytes
abbrev pub has_form : List ℕ → Profile → Bool
has_form bytes profile =
    (length bytes == 48 + 32 * count_in bytes) && (number_at 8 16 bytes == 65536) && has_sub_stripes profile (number_at 2 46 bytes)

-- what an item of a profile comes to
abbrev pub chunk_with : ℕ → List ℕ → Profile → Result Chunk ChunkFault
chunk_with start bytes profile =
    if has_form bytes profile && keeps_rule (described start bytes profile) then Ok (described start bytes profile) else Err Bad

-- what the item in the bytes comes to: a chunk, or why it is none
abbrev pub chunk_of : ℕ → List ℕ → Result Chunk ChunkFault
chunk_of start bytes =
    if nat_lt (length bytes) 48 then Err Bad
    else if nat_lt 64 (count_in bytes) then Err (Stripes (count_in bytes))
    else option_map_or (chunk_with start bytes) (profile_of_kind (number_at 8 24 bytes)) (Err Bad)

-- a reading answers what the item comes to, or that there is no memory
abbrev pub IsReading : Result Chunk ChunkFault → Result Chunk ChunkFault → Type 0
IsReading item (Ok chunk) = item ≡ Ok chunk
IsReading item (Err (Stripes n)) = item ≡ Err (Stripes n)
IsReading item (Err Bad) = item ≡ Err Bad
IsReading item (Err Memory) = Unit {0}
