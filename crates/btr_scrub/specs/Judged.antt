-- What a look at all blocks for images in doubt did.
use Rattle.std.specs.Prelude.{◌≡◌, ◌⊎◌, ℕ, ◌≤◌, ◌||◌, Bool, List, length, is_none, false, IsOkAnd, Ok, OnOk, IfSome, Result, Some}
use Rattle.std.specs.List.{list_any}
use Rattle.std.specs.Option.{option_map_or}
use Rattle.btr_chunk.specs.Chunk.{mirrors}
use Rattle.btr_chunk.specs.Mapping.{HasPart}
use Rattle.btr_chunk.specs.declared.chunk.Chunk.{Chunk}
use Rattle.btr_chunk.specs.declared.place.Part.{Part}
use Rattle.btr_rack.specs.Rack.{Seen}
use Rattle.btr_rack.specs.declared.place.Place.{Place as Range}
use Rattle.btr_read.specs.Candidates.{Target, range_of}
use Rattle.btr_read.specs.Fate.{is_plain, sought}
use Rattle.btr_read.specs.Layout.{Layout, device_in}
use Rattle.btr_read.specs.declared.device.Member.{Member}
use Rattle.btr_read.specs.declared.want.Want.{Want}
use Rattle.btr_scrub_copies.specs.Writes.{AccountsMend, Images}
use Rattle.btr_scrub_copies.specs.declared.mended.MendFault.{MendFault}
use Rattle.btr_scrub.specs.Doubts.{failing}
use Rattle.btr_scrub.specs.Order.{targets}
use Rattle.btr_scrub_copies.specs.Fresh.{Failing, flagged, is_behind}
use Rattle.btr_scrub.specs.declared.doubts.Probe.{Probe}

-- some chunk has parity
abbrev pub some_parity : List Chunk → Bool
some_parity chunks = list_any (λ (chunk : Chunk). is_none (mirrors chunk)) chunks

-- the image of a device is older
abbrev pub is_older : List Member → ℕ → Bool
is_older devices devid = option_map_or (λ device. device.older) (device_in devices devid) false

-- some image of a chunk is
abbrev pub has_older : List Member → Chunk → Bool
has_older devices chunk = list_any (λ stripe. is_older devices stripe.devid) chunk.stripes

-- some image of some chunk is
abbrev pub some_older : Layout → Bool
some_older layout = list_any (has_older layout.devices) layout.chunks

-- some image of a chunk is behind
abbrev pub has_behind : List Member → Failing → Chunk → Bool
has_behind devices failing chunk = list_any (λ stripe. is_behind devices failing stripe.devid) chunk.stripes

-- a want has a position in a chunk that has a part
abbrev pub HasOwn : Layout → Part → Want → Type 0
HasOwn layout part want =
    IsOkAnd (sought layout want) (λ t. HasPart t.chunk.profile (length t.chunk.stripes) part)

-- there is room for a node and for a sector, and a flag for each slot
pub record HasRoom (nodesize : ℕ) (rack : Seen) (probe : Probe) : Type 0 where
  pub node : nodesize ≤ length probe.buffer.items
  pub sector : 4096 ≤ length probe.buffer.items
  pub flags : length probe.failing.items ≡ length rack.slots

-- a range is that of a part of a block
pub record IsOfPart (t : Target) (range : Range) : Type 0 where
  pub part : Part
  pub has : HasPart t.chunk.profile (length t.chunk.stripes) part
  pub at : range_of t part ≡ Some range

-- a read fails in a part of a block
abbrev pub AccountsParts : {A : Type 0} → Layout → Want → Seen → Seen → Result A MendFault → Type 0
AccountsParts layout want old new result =
    (t : Target) → sought layout want ≡ Ok t → AccountsMend (IsOfPart t) old new result

-- flags, and besides those that a test says
abbrev pub Flags : List Bool → (ℕ → Bool) → List Bool → Type 0
Flags old more new = (slot : ℕ) → flagged new slot ≡ (flagged old slot || more slot)

-- where the images are told, the slots were flagged of which a test of a block says so
abbrev pub FlagsBlock : Layout → Want → Seen → (Images → Target → ℕ → Bool) → List Bool → List Bool
    → Result (Unit {0}) MendFault → Type 0
FlagsBlock layout want rack more old new result =
    (t : Target) → sought layout want ≡ Ok t
    → OnOk result (IfSome rack.held (λ images. Flags old (more images t) new))

-- where the images are told, these are the images on which some of the blocks doesn't pass
abbrev pub AreFailing : Layout → List Want → Seen → List Bool → Type 0
AreFailing layout wants rack flags =
    IfSome rack.held (λ images. (slot : ℕ)
    → flagged flags slot ≡ failing images (targets layout wants) slot)

-- where the images are told, the images on which some of the blocks doesn't pass are flagged besides those that were
abbrev pub FlagsAll : Layout → List Want → Seen → List Bool → List Bool
    → Result (Unit {0}) MendFault → Type 0
FlagsAll layout wants rack old new result =
    OnOk result (IfSome rack.held (λ images. Flags old (failing images (targets layout wants)) new))

-- it doesn't matter which images fail: there is no plain sector, or neither a chunk with parity nor an older image
abbrev pub IsIdle : Layout → List Want → Type 0
IsIdle layout wants = (list_any is_plain wants ≡ false) ⊎ ((some_parity layout.chunks ≡ false) × (some_older layout ≡ false))

-- so far as it matters, the flags are the images on which some of the blocks doesn't pass
abbrev pub Suffices : Layout → List Want → Seen → List Bool → Type 0
Suffices layout wants rack flags = IsIdle layout wants ⊎ AreFailing layout wants rack flags
