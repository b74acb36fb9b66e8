-- What holds of every rack of files.
use Rattle.std.specs.Prelude.{false, List, None}
use Rattle.btr_rack.specs.declared.place.Place.{Place}
use Rattle.btr_rack.specs.Rack.{Slot, Account, IsRack}

-- it tells no content, and is never sure
pub sound_files : (slots : List Slot) (unsynced never_synced : List Place) (account : Account)
    → IsRack (record { slots = slots; held = None; shelf = None; unsynced = unsynced; never_synced = never_synced; sure = false; account = account })
sound_files slots unsynced never_synced account = record { sized = tt; bytes = tt; count_left = λ e. cc }
