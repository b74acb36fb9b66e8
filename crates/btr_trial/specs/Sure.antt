-- A rack in memory whose calls don't fail.
use Rattle.std.specs.Prelude.{◌≡◌, ℕ, ◌<◌, ◌==◌, Bool, true, if◌then◌else◌, List, [], ◌∷◌, ◌++◌, length, map, codes, slice_set, Some, Result, Ok, Err, All}
use Rattle.std.proofs.Common.{arith}
use Rattle.btr_make.specs.Shelf.{IsShelved, volume_of}
use Rattle.btr_make.specs.Spoil.{Becomes, spoiled}
use Rattle.btr_rack.specs.Memory.{MemoryRack, held_of, named, seen_of, slots_of}
use Rattle.btr_rack.specs.MemoryLaws.{sound_rack}
use Rattle.btr_rack.specs.Rack.{IsRack, Seen, Slot, image_of, no_failure}
use Rattle.btr_volume.specs.Start.{Images}

-- what is seen of a rack, none of whose calls has failed or is to fail
abbrev pub as_sure : Seen → Seen
as_sure seen = record seen { sure = true; account = no_failure }

-- what is seen of such a rack in memory
abbrev pub sure_seen : MemoryRack → Seen
sure_seen rack = as_sure (seen_of rack)

-- what is seen of such a rack is what is seen of a rack
pub sound_sure : (rack : MemoryRack) → IsRack (sure_seen rack)
sound_sure rack = record { sized = (sound_rack rack).sized; bytes = (sound_rack rack).bytes; count_left = λ sure. omega arith }

-- the names of the images of a volume that is tried
abbrev pub volume_names : List (List ℕ)
volume_names = codes "a" ∷ codes "b" ∷ codes "c" ∷ []

-- the name of the image of a number
abbrev pub name_at : ℕ → List ℕ
name_at slot = if slot == 0 then codes "a" else if slot == 1 then codes "b" else codes "c"

-- an image of this name is the last of the opened ones
abbrev pub IsNextSlot : List ℕ → Bool → List Slot → List Slot → Type 0
IsNextSlot name write old new = (len : ℕ) × (new ≡ old ++ record { name = name; len = len; write = write } ∷ [])

-- the image of a name was spoiled
abbrev pub IsSpoiled : List ℕ → MemoryRack → MemoryRack → Type 0
IsSpoiled name old new = (image : List ℕ) × (named old name ≡ Some image) × Becomes name (spoiled image) old new

-- the images of a volume are open in their order, to be written or only to be read, and hold these bytes
pub record IsOpen (write : Bool) (images : Images) (rack : MemoryRack) : Type 0 where
  pub names : map (λ (slot : Slot). slot.name) (slots_of rack) ≡ volume_names
  pub writable : All (λ (slot : Slot). slot.write ≡ write) (slots_of rack)
  pub held : held_of rack ≡ images

-- some image is open
abbrev pub HasImages : MemoryRack → Type 0
HasImages rack = 0 < length (slots_of rack)

-- the same images are open, with the bytes that they had
pub record KeepsOpen (old new : MemoryRack) : Type 0 where
  pub slots : slots_of new ≡ slots_of old
  pub held : held_of new ≡ held_of old

-- the images, of which that of a slot was spoiled
abbrev pub spoiled_at : Images → ℕ → Images
spoiled_at images slot = slice_set images slot (spoiled (image_of images slot))

-- A step of a trial found a volume on the shelf: where memory sufficed it came to what it comes to over its
-- images, and left these or others on the shelf.
abbrev pub CameTo : {A E : Type 0} → (Images → A) → (Images → Images) → MemoryRack → MemoryRack → Result A E → Type 0
CameTo came left old new (Ok a) = IsShelved new × (a ≡ came (volume_of old)) × (volume_of new ≡ left (volume_of old))
CameTo came left old new (Err e) = Unit {0}
