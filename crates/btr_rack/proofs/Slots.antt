-- The slots of the files that are open.
use Rattle.std.proofs.Common.{◌≡◌, ℕ, ◌<◌, ◌^◌, Bool, false, None, List, [], ◌∷◌, ◌++◌, length, get_or, slice_set, ap, ◌∙◌}
use Rattle.std.proofs.Math.Seq.{map-set_same}
use Rattle.std.proofs.lemmas.List.{map_push, length-map}
use Rattle.btr_rack.specs.declared.place.Place.{Place}
use Rattle.btr_rack.specs.Rack.{Slot, Account, Seen, Opening, opening_of}
use Rattle.btr_rack.specs.Opened.{OpenImage, slots_of, IsOpenedAs}

-- a file whose slot is as it was is put in its place
pub slots_set : (images : List OpenImage) (i : ℕ) (image image' : OpenImage) → image ≡ get_or images i image → image'.slot ≡ image.slot
    → slots_of (slice_set images i image') ≡ slots_of images
slots_set images i image image' is same = map-set_same (λ (im : OpenImage). im.slot) images i image' image (same ∙ ap (λ (im : OpenImage). im.slot) is)

-- there is a slot for each open file
pub length_slots : (images : List OpenImage) → length (slots_of images) ≡ length images
length_slots images = length-map images (λ (im : OpenImage). im.slot)

-- a file that was opened as was asked
pub slots_push : (opening : Opening) (name : List ℕ) (write : Bool) (images images' : List OpenImage) (image : OpenImage) → IsOpenedAs opening image
    → image.slot.len < 2 ^ 63 → opening ≡ opening_of name write → images' ≡ images ++ image ∷ [] → (len : ℕ) × (len < 2 ^ 63)
    × (slots_of images' ≡ slots_of images ++ record { name = name; len = len; write = write } ∷ [])
slots_push opening name write images images' image is short asked all =
    let named : image.slot.name ≡ name = is.name ∙ ap (λ (o : Opening). o.name) asked in
    let mode : image.slot.write ≡ write = is.write ∙ ap (λ (o : Opening). o.write) asked in
    let slot : image.slot ≡ record { name = name; len = image.slot.len; write = write } =
    ap (λ n. record { name = n; len = image.slot.len; write = image.slot.write }) named
    ∙ ap (λ w. record { name = name; len = image.slot.len; write = w }) mode in
    (image.slot.len, short, ap slots_of all ∙ map_push (λ (im : OpenImage). im.slot) images image ∙ ap (λ (s : Slot). slots_of images ++ s ∷ []) slot)

-- what is seen of a rack of files
abbrev pub seen_files : List Slot → List Place → List Place → Account → Seen
seen_files slots unsynced never_synced account =
    record { slots = slots; held = None; shelf = None; unsynced = unsynced; never_synced = never_synced; sure = false; account = account }

-- a rack of files is seen the same where its slots and what waits for a sync are
pub same_seen : (slots slots' : List Slot) (unsynced unsynced' never never' : List Place) (account : Account) → slots' ≡ slots → unsynced' ≡ unsynced
    → never' ≡ never
    → seen_files slots' unsynced' never' account ≡ seen_files slots unsynced never account
same_seen slots slots' unsynced unsynced' never never' account e u n = λ i. seen_files (e i) (u i) (n i) account
