-- Where the bytes of a chunk lie: an element has 65536 bytes, and a row one element of each stripe.
use Rattle.std.specs.Prelude.{◌≡◌, ℕ, ◌+◌, ◌-◌, ◌*◌, ◌/◌, ◌%◌, ◌<◌, ◌≤◌, Bool, true, length, Result, Ok, Err, IsSomeAnd, IsNone, if◌then◌else◌, ◌&&◌}
use Rattle.std.specs.Prelude.{◌||◌, nat_lt, nat_le, slice_get}
use Rattle.std.specs.Option.{option_map_or}
use Rattle.btr_chunk.specs.declared.stripe.Stripe.{Stripe}
use Rattle.btr_chunk.specs.declared.chunk.Chunk.{Chunk}
use Rattle.btr_chunk.specs.declared.position.Elements.{Elements}
use Rattle.btr_chunk.specs.declared.place.StripePlace.{StripePlace}
use Rattle.btr_chunk.specs.declared.place.Part.{Part}
use Rattle.btr_chunk.specs.declared.place.Part.TheVariants.{Mirror, Slice, P, Q}
use Rattle.btr_chunk.specs.declared.mapping.MapFault.{MapFault}
use Rattle.btr_chunk.specs.declared.mapping.MapFault.TheVariants.{Unmapped, Crosses}
use Rattle.btr_chunk.specs.declared.profile.Profile.{Profile}
use Rattle.btr_chunk.specs.declared.profile.Profile.TheVariants.{Raid0, Raid10, Raid5, Raid6}
use Rattle.btr_chunk.specs.Chunk.{is_striped, data_count, stripe_length, mirror_count}

-- whether an address is one of a chunk's
abbrev pub holds : Chunk → ℕ → Bool
holds chunk addr = nat_le chunk.start addr && nat_lt addr (chunk.start + chunk.length)

-- whether bytes of a chunk pass the chunk's end or, in a profile with rows, the end of an element
abbrev pub crosses : Chunk → ℕ → ℕ → Bool
crosses chunk addr len =
    nat_lt (chunk.start + chunk.length) (addr + len) || is_striped chunk.profile && nat_lt 65536 ((addr - chunk.start) % 65536 + len)

-- the position of a byte of a chunk: the rows take the elements in order, as many as a row has elements of data
abbrev pub position : Chunk → ℕ → Elements
position chunk addr =
    let o = addr - chunk.start in
    let d = data_count chunk.profile (length chunk.stripes) in
    if is_striped chunk.profile
    then record { row = o / 65536 / d; index = o / 65536 % d; rest = o % 65536 }
    else record { row = 0; index = 0; rest = o }

-- the position of the len bytes from an address on, or why they have none
abbrev pub elements_of : Chunk → ℕ → ℕ → Result Elements MapFault
elements_of chunk addr len =
    if holds chunk addr then (if crosses chunk addr len then Err Crosses else Ok (position chunk addr)) else Err Unmapped

-- the positions of a chunk's bytes
pub record IsPosition (chunk : Chunk) (at : Elements) : Type 0 where
  pub index : at.index < data_count chunk.profile (length chunk.stripes)
  pub inside : at.row * 65536 + at.rest < stripe_length chunk

-- some bytes from a position on lie in one piece on a stripe: in an element
-- where the profile has rows, and in the stripe
pub record LieInOnePiece (chunk : Chunk) (at : Elements) (size : ℕ) : Type 0 where
  pub inside : at.row * 65536 + at.rest + size ≤ stripe_length chunk
  pub element : is_striped chunk.profile ≡ true → at.rest + size ≤ 65536

-- the parts that a profile of n stripes has: copies, or data slices and parities
abbrev pub HasPart : Profile → ℕ → Part → Type 0
HasPart profile n (Mirror i) = IsSomeAnd (mirror_count profile n) (λ copies. i < copies)
HasPart profile n (Slice i) = IsNone (mirror_count profile n) × (i < data_count profile n)
HasPart profile n P = IsNone (mirror_count profile n)
HasPart profile n Q = profile ≡ Raid6

-- the number of the stripe that a part of a position lies on, of n stripes. With k slices of data in a row, slice i of
-- the row q lies on stripe (q + i) % n, P on (q + k) % n, Q on (q + k + 1) % n
abbrev pub stripe_of : Profile → ℕ → Part → Elements → ℕ
stripe_of Raid0 n (Mirror i) at = at.index
stripe_of Raid10 n (Mirror i) at = 2 * at.index + i
stripe_of Raid5 n (Slice i) at = (at.row + i) % n
stripe_of Raid5 n P at = (at.row + (n - 1)) % n
stripe_of Raid6 n (Slice i) at = (at.row + i) % n
stripe_of Raid6 n P at = (at.row + (n - 2)) % n
stripe_of Raid6 n Q at = (at.row + (n - 2) + 1) % n
stripe_of _ n (Mirror i) at = i
stripe_of _ _ _ _ = 0

-- a part of a row that lies on a stripe
pub record PartOn (profile : Profile) (n : ℕ) (at : Elements) (stripe : ℕ) : Type 0 where
  pub part : Part
  pub has : HasPart profile n part
  pub on : stripe_of profile n part at ≡ stripe

-- the place of a position on a stripe
abbrev pub place_on : Stripe → Elements → StripePlace
place_on stripe at = record { devid = stripe.devid; offset = stripe.offset + at.row * 65536 + at.rest }

-- the place of a part of a position
abbrev pub place_at : Chunk → Part → Elements → StripePlace
place_at chunk part at =
    option_map_or (λ stripe. place_on stripe at) (slice_get chunk.stripes (stripe_of chunk.profile (length chunk.stripes) part at))
    (record { devid = 0; offset = 0 })

-- some bytes from a place on lie in a stripe of this length
pub record IsInStripe (len : ℕ) (stripe : Stripe) (place : StripePlace) (size : ℕ) : Type 0 where
  pub device : place.devid ≡ stripe.devid
  pub begin : stripe.offset ≤ place.offset
  pub end : place.offset + size ≤ stripe.offset + len

-- the part that holds a position's own byte: a copy, or the slice of the row where there are no copies
abbrev pub data_part : Profile → ℕ → Elements → Part
data_part Raid5 copy at = Slice at.index
data_part Raid6 copy at = Slice at.index
data_part _ copy at = Mirror copy

-- the place of a copy of an address
abbrev pub data_place : Chunk → ℕ → ℕ → StripePlace
data_place chunk copy addr = place_at chunk (data_part chunk.profile copy (position chunk addr)) (position chunk addr)
