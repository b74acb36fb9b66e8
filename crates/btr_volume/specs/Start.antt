-- What is known of a volume before its chunk tree is read: the newest superblock, the
-- devices, and the chunks of the system array.
use Rattle.std.specs.Prelude.{ℕ, ◌+◌, Bool, not, ◌&&◌, ◌==◌, nat_lt, if◌then◌else◌, List, [], ◌∷◌, ◌++◌, length, map, take, slice_get, Option, Some}
use Rattle.std.specs.Prelude.{None, Result, Ok, Err, bit_and}
use Rattle.std.specs.List.{list_any, filter_map}
use Rattle.std.specs.Option.{option_map}
use Rattle.std.specs.Str.{bytes_eq}
use Rattle.btr_base.specs.Sum.{kind_of_type}
use Rattle.btr_base.specs.declared.kind.SumKind.{SumKind}
use Rattle.btr_super.specs.Compared.{diverged_from}
use Rattle.btr_super.specs.Newest.{newest}
use Rattle.btr_super.specs.Slot.{image_super}
use Rattle.btr_super.specs.declared.superblock.Super.{Super}
use Rattle.btr_super.specs.declared.fault.SlotFault.{SlotFault}
use Rattle.btr_super.specs.declared.fault.SlotFault.TheVariants as slot_fault
use Rattle.btr_chunk.specs.Array.{array_of}
use Rattle.btr_chunk.specs.declared.chunk.Chunk.{Chunk}
use Rattle.btr_chunk.specs.declared.array.ArrayFault.{ArrayFault}
use Rattle.btr_chunk.specs.declared.array.ArrayFault.TheVariants as array_fault
use Rattle.btr_rack.specs.Rack.{Seen}
use Rattle.btr_read.specs.Layout.{Layout}
use Rattle.btr_read.specs.declared.device.Member.{Member}
use Rattle.btr_read.specs.declared.setting.Setting.{Setting}
use Rattle.btr_volume.specs.declared.which.Which.TheVariants.{Stripes}
use Rattle.btr_volume.specs.declared.fault.OpenFault.{OpenFault}
use Rattle.btr_volume.specs.declared.fault.OpenFault.TheVariants.{ImageFault, NoSuper, SumKind as kind_fault, Foreign, Twin, Diverged, Unsupported}
use Rattle.btr_volume.specs.declared.fault.OpenFault.TheVariants.{Geometry, LogPending, BadArray, BadChunk, Limit, Memory}

-- the bytes of the images, by slot
abbrev pub Images : Type 0
Images = List (List ℕ)

-- what is known at the start
pub record Start : Type 0 where
  pub sup : Super
  pub devices : List Member
  pub setting : Setting
  pub array : List Chunk

-- why an image has no superblock
abbrev pub no_super : ℕ → SlotFault → OpenFault
no_super slot slot_fault.Failed = ImageFault slot
no_super slot (slot_fault.SumKind n) = kind_fault n
no_super slot slot_fault.NoSuper = NoSuper slot

-- a superblock before others, or the first refusal
abbrev pub super_then : ℕ → Result Super SlotFault → Result (List Super) OpenFault → Result (List Super) OpenFault
super_then slot (Ok s) (Ok more) = Ok (s ∷ more)
super_then slot (Ok s) (Err refusal) = Err refusal
super_then slot (Err fault) rest = Err (no_super slot fault)

-- the superblocks of the images in the slots from one on, or the refusal of the first without one
abbrev pub supers_from : ℕ → Images → Result (List Super) OpenFault
supers_from slot [] = Ok []
supers_from slot (image ∷ images) = super_then slot (image_super image) (supers_from (slot + 1) images)

-- the first slot, of those from one on, whose superblock is of another filesystem
abbrev pub foreign_from : ℕ → Super → List Super → Option ℕ
foreign_from slot chosen [] = None
foreign_from slot chosen (s ∷ supers) = if bytes_eq s.fsid chosen.fsid then foreign_from (slot + 1) chosen supers else Some slot

-- one of the superblocks is that of a device
abbrev pub has_device : List Super → ℕ → Bool
has_device supers devid = list_any (λ (s : Super). s.devid == devid) supers

-- the first slot, of those from one on, whose device is that of an earlier slot
abbrev pub twin_from : ℕ → List Super → List Super → Option ℕ
twin_from slot earlier [] = None
twin_from slot earlier (s ∷ supers) = if has_device earlier s.devid then Some slot else twin_from (slot + 1) (earlier ++ s ∷ []) supers

-- the incompatible features that aren't supported: all but the bits of FFFh
abbrev pub unsupported : Super → ℕ
unsupported s = bit_and s.incompat 0xFFFF_FFFF_FFFF_F000

-- a node has 4096 to 65536 bytes, a power of two
abbrev pub is_nodesize : ℕ → Bool
is_nodesize n = list_any (λ size. size == n) (4096 ∷ 8192 ∷ 16384 ∷ 32768 ∷ 65536 ∷ [])

-- sizes and levels that are read
abbrev pub is_geometry : Super → Bool
is_geometry s =
    (s.sectorsize == 4096) && is_nodesize s.nodesize && nat_lt s.root_level 8 && nat_lt s.chunk_root_level 8 && not (nat_lt 2048 s.sys_chunk_array_size)

-- a refusal of opening, where something holds
abbrev pub if_so : Bool → OpenFault → Option OpenFault
if_so holds refusal = if holds then Some refusal else None

-- the refusals by the superblocks alone, in their order
abbrev pub refusals : List Super → Super → List (Option OpenFault)
refusals supers s =
    option_map Foreign (foreign_from 0 s supers)
    ∷ option_map Twin (twin_from 0 [] supers)
    ∷ option_map Diverged (diverged_from 0 s supers)
    ∷ if_so (not (unsupported s == 0)) (Unsupported (unsupported s))
    ∷ if_so (not (is_geometry s)) Geometry
    ∷ if_so (not (s.log_root == 0)) LogPending
    ∷ []

-- the first of some refusals
abbrev pub first_refusal : List (Option OpenFault) → Option OpenFault
first_refusal found = slice_get (filter_map (λ x. x) found) 0

-- the id in the headers of tree blocks: metadata_uuid where the feature 400h is set
abbrev pub header_id : Super → List ℕ
header_id s = if bit_and s.incompat 0x400 == 0 then s.fsid else s.metadata_uuid

-- what the test of a block takes: the kind of its checksum, the id in its header, and its size
abbrev pub setting_of : Super → SumKind → Setting
setting_of s kind = record { kind = kind; fsid = header_id s; nodesize = s.nodesize }

-- the device that an image of so many bytes in a slot holds, which is older
-- where its generation is less than the newest
abbrev pub member : ℕ → ℕ → Super → ℕ → Member
member newest slot s len = record { devid = s.devid; device = record { slot = slot; len = len; older = nat_lt s.generation newest } }

-- the devices of the images in the slots from one on, by the newest generation and the lengths of the images
abbrev pub devices_from : ℕ → ℕ → List Super → List ℕ → List Member
devices_from newest slot [] lens = []
devices_from newest slot (s ∷ supers) [] = []
devices_from newest slot (s ∷ supers) (len ∷ lens) = member newest slot s len ∷ devices_from newest (slot + 1) supers lens

-- a layout with the devices of these superblocks, whose images stand in the first slots of a rack
abbrev pub over_slots : Layout → ℕ → List Super → Seen → Layout
over_slots layout newest supers rack = record layout { devices = devices_from newest 0 supers (map (λ slot. slot.len) rack.slots) }

-- why a system array has no chunks
abbrev pub no_array : ArrayFault → OpenFault
no_array array_fault.BadArray = BadArray
no_array (array_fault.Stripes n) = Limit Stripes n
no_array (array_fault.BadChunk start) = BadChunk start
no_array array_fault.Memory = Memory

-- the bytes of the system array that are in use
abbrev pub array_bytes : Super → List ℕ
array_bytes s = take s.sys_chunk_array_size s.array

-- the start of a volume by its system array, if that is fit
abbrev pub with_array : Super → SumKind → List Member → Result (List Chunk) ArrayFault → Result Start OpenFault
with_array s kind devices (Err fault) = Err (no_array fault)
with_array s kind devices (Ok array) = Ok (record { sup = s; devices = devices; setting = setting_of s kind; array = array })

-- a valid superblock has a checksum type that is read
abbrev pub with_kind : Super → List Member → Option SumKind → Result Start OpenFault
with_kind s devices None = Err (kind_fault s.csum_type)
with_kind s devices (Some kind) = with_array s kind devices (array_of (array_bytes s))

-- the start by its superblock, where nothing refuses it
abbrev pub started : Super → List Member → Option OpenFault → Result Start OpenFault
started s devices (Some refusal) = Err refusal
started s devices None = with_kind s devices (kind_of_type s.csum_type)

-- the start by the superblocks, the lengths of the images and the newest
-- superblock; where there is no image there is none
abbrev pub start_by : List Super → List ℕ → Option Super → Result Start OpenFault
start_by supers lens None = Err (NoSuper 0)
start_by supers lens (Some s) = started s (devices_from s.generation 0 supers lens) (first_refusal (refusals supers s))

-- the start of a volume by its superblocks, if there are any
abbrev pub start_with : Images → Result (List Super) OpenFault → Result Start OpenFault
start_with images (Err refusal) = Err refusal
start_with images (Ok supers) = start_by supers (map length images) (newest supers)

-- what is known of the images at the start, or the first refusal
abbrev pub start_of : Images → Result Start OpenFault
start_of images = start_with images (supers_from 0 images)

-- how blocks are found by some chunks
abbrev pub layout_by : Start → List Chunk → Layout
layout_by start chunks = record { chunks = chunks; devices = start.devices; setting = start.setting }
