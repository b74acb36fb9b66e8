-- The type of a chunk: a set of bits that say what it holds and how it lies on its devices.
use Rattle.std.specs.Prelude.{ℕ, Option, Some, None, if◌then◌else◌, ◌==◌, ◌&&◌, not}
use Rattle.std.specs.Int.RustNames.{bit_and}
use Rattle.btr_chunk.specs.declared.profile.Profile.{Profile}
use Rattle.btr_chunk.specs.declared.profile.Profile.TheVariants.{Single, Dup, Raid0, Raid1, Raid1c3, Raid1c4, Raid10, Raid5, Raid6}

-- the profile that the profile bits of a type name: none of them is single, and more than one names nothing
abbrev pub profile_named : ℕ → Option Profile
profile_named bits =
    if bits == 0 then Some Single
    else if bits == 0x8 then Some Raid0
    else if bits == 0x10 then Some Raid1
    else if bits == 0x20 then Some Dup
    else if bits == 0x40 then Some Raid10
    else if bits == 0x80 then Some Raid5
    else if bits == 0x100 then Some Raid6
    else if bits == 0x200 then Some Raid1c3
    else if bits == 0x400 then Some Raid1c4
    else None

-- the profile of a type that has DATA 1, SYSTEM 2 or METADATA 4, at most one profile bit of 8 to 400h, and no other bit
abbrev pub profile_of_kind : ℕ → Option Profile
profile_of_kind kind =
    if (bit_and kind 0x7FF == kind) && not (bit_and kind 0x7 == 0) then profile_named (bit_and kind 0x7F8) else None
