-- An image that was opened as a file.
use Rattle.std.specs.Prelude.{◌≡◌, ℕ, List, [], map, false, None, slice_index_or}
use Rattle.btr_rack.specs.declared.place.Place.{Place}
use Rattle.btr_rack.specs.Rack.{Slot, Opening, Account, Seen, no_slot}
use Rattle.btr_rack.specs.History.{Event, OnlyOpenedSame}

-- the slot, and what was asked of the file
pub record OpenImage : Type 0 where
  pub slot : Slot
  pub history : List Event

-- the slots of opened images
abbrev pub slots_of : List OpenImage → List Slot
slots_of images = map (λ image. image.slot) images

-- the file that was looked at was opened as was asked, and nothing else was asked of it
pub record IsOpenedAs (opening : Opening) (image : OpenImage) : Type 0 where
  pub name : image.slot.name ≡ opening.name
  pub write : image.slot.write ≡ opening.write
  pub asked : OnlyOpenedSame opening.name opening.write image.history

-- what stands past the last image
abbrev pub no_image : OpenImage
no_image = record { slot = no_slot; history = [] }

-- what was asked of the file in a slot
abbrev pub history_in : List OpenImage → ℕ → List Event
history_in images slot = (slice_index_or images slot no_image).history

-- what is seen of a rack of files
abbrev pub seen_files : List OpenImage → List Place → List Place → Account → Seen
seen_files images unsynced never_synced account = record {
  slots = slots_of images;
  held = None;
  shelf = None;
  unsynced = unsynced;
  never_synced = never_synced;
  sure = false;
  account = account;
}
