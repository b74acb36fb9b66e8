-- The rule that chunks keep.
use Rattle.std.specs.Prelude.{◌≡◌, ℕ, ◌+◌, ◌-◌, ◌*◌, ◌/◌, ◌%◌, ◌^◌, ◌≤◌, Bool, true, false, length, Option, Some, None, if◌then◌else◌, ◌==◌, ◌&&◌}
use Rattle.std.specs.Prelude.{not, nat_lt, nat_le}
use Rattle.std.specs.List.{list_all}
use Rattle.btr_chunk.specs.declared.stripe.Stripe.{Stripe}
use Rattle.btr_chunk.specs.declared.chunk.Chunk.{Chunk}
use Rattle.btr_chunk.specs.declared.profile.Profile.{Profile}
use Rattle.btr_chunk.specs.declared.profile.Profile.TheVariants.{Single, Dup, Raid0, Raid1, Raid1c3, Raid1c4, Raid10, Raid5, Raid6}
use Rattle.btr_chunk.specs.Kind.{profile_of_kind}

-- whether a profile can have n stripes
abbrev pub has_count : Profile → ℕ → Bool
has_count Single n = n == 1
has_count Dup n = n == 2
has_count Raid1 n = n == 2
has_count Raid1c3 n = n == 3
has_count Raid1c4 n = n == 4
has_count Raid0 n = nat_le 1 n
has_count Raid10 n = nat_le 2 n && (n % 2 == 0)
has_count Raid5 n = nat_le 2 n
has_count Raid6 n = nat_le 3 n

-- whether a profile puts data on its stripes element by element
abbrev pub is_striped : Profile → Bool
is_striped Raid0 = true
is_striped Raid10 = true
is_striped Raid5 = true
is_striped Raid6 = true
is_striped _ = false

-- how many elements of data a row of n stripes has; without rows, a chunk is as long as each of its stripes
abbrev pub data_count : Profile → ℕ → ℕ
data_count Raid0 n = n
data_count Raid10 n = n / 2
data_count Raid5 n = n - 1
data_count Raid6 n = n - 2
data_count _ n = 1

-- the length of a chunk is a multiple of this: of a row, or of a sector
abbrev pub unit_of : Profile → ℕ → ℕ
unit_of profile n = if is_striped profile then data_count profile n * 65536 else 4096

-- how many bytes of a device each stripe of a chunk has
abbrev pub stripe_length : Chunk → ℕ
stripe_length chunk = chunk.length / data_count chunk.profile (length chunk.stripes)

-- a stripe of this length begins at a sector and ends on its device
abbrev pub is_stripe : ℕ → Stripe → Bool
is_stripe len stripe = (stripe.offset % 4096 == 0) && nat_lt (stripe.offset + len) (2 ^ 64)

-- whether a chunk of the profile of its type keeps the rule of chunks
abbrev pub keeps_rule : Chunk → Bool
keeps_rule chunk =
    has_count chunk.profile (length chunk.stripes)
    && (chunk.start % 4096 == 0)
    && (chunk.length % unit_of chunk.profile (length chunk.stripes) == 0)
    && not (chunk.length == 0)
    && nat_lt (chunk.start + chunk.length) (2 ^ 64)
    && list_all (is_stripe (stripe_length chunk)) chunk.stripes

-- a chunk that keeps the rule, and has at most 64 stripes and the profile of its type
pub record IsChunk (chunk : Chunk) : Type 0 where
  pub few : length chunk.stripes ≤ 64
  pub kind : profile_of_kind chunk.kind ≡ Some chunk.profile
  pub rule : keeps_rule chunk ≡ true

-- how many copies of each byte there are; RAID5 and RAID6 have no copies, but parity
abbrev pub mirror_count : Profile → ℕ → Option ℕ
mirror_count Raid0 n = Some 1
mirror_count Raid10 n = Some 2
mirror_count Raid5 n = None
mirror_count Raid6 n = None
mirror_count _ n = Some n

-- how many copies a chunk has of each byte; none is said of RAID5 and RAID6, which have parity
abbrev pub mirrors : Chunk → Option ℕ
mirrors chunk = mirror_count chunk.profile (length chunk.stripes)
