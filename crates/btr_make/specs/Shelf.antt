-- Racks of images that nobody has opened.
use Rattle.std.specs.Prelude.{◌≡◌, ℕ, ◌-◌, ◌<◌, ◌^◌, Bool, List, [], ◌∷◌, codes, IsSome}
use Rattle.std.specs.Option.{is_some, unwrap_or}
use Rattle.btr_rack.specs.declared.place.Place.{Place}
use Rattle.btr_rack.specs.Rack.{Slot, Account}
use Rattle.btr_rack.specs.Memory.{MemoryRack, Failures, slots_of, shelf_of, named}

-- what writing into images leaves as it is: which images there are and which of them are open, what is to fail, what
-- waits for a sync, and the account of the failed calls
pub record Standing : Type 0 where
  pub slots : List Slot
  pub failing : Failures
  pub unsynced : List Place
  pub never_synced : List Place
  pub account : Account
  pub names : List ℕ → Bool

-- what writing into the images of a rack leaves as it is
unfoldable pub standing : MemoryRack → Standing
standing rack = record {
  slots = slots_of rack;
  failing = rack.failing;
  unsynced = rack.unsynced;
  never_synced = rack.never_synced;
  account = rack.account;
  names = λ name. is_some (named rack name);
}

-- A rack of a volume that can be tried: the images `a`, `b` and `c` stand on the shelf, no slot is open, nothing is to
-- fail, and nothing waits for a sync; the count of faults can still rise.
pub record IsShelved (rack : MemoryRack) : Type 0 where
  pub a : IsSome (shelf_of rack (codes "a"))
  pub b : IsSome (shelf_of rack (codes "b"))
  pub c : IsSome (shelf_of rack (codes "c"))
  pub closed : slots_of rack ≡ []
  pub calls : rack.failing.failing_calls ≡ []
  pub writes : rack.failing.failing_writes ≡ []
  pub ranges : rack.failing.failing_ranges ≡ []
  pub unsynced : rack.unsynced ≡ []
  pub never_synced : rack.never_synced ≡ []
  pub faults : rack.account.faults < 2 ^ 64 - 1

-- the bytes of the image of a name on the shelf
abbrev pub bytes_on_shelf : MemoryRack → List ℕ → List ℕ
bytes_on_shelf rack name = unwrap_or (shelf_of rack name) []

-- the bytes of the images `a`, `b` and `c` on the shelf
abbrev pub volume_of : MemoryRack → List (List ℕ)
volume_of rack = bytes_on_shelf rack (codes "a") ∷ bytes_on_shelf rack (codes "b") ∷ bytes_on_shelf rack (codes "c") ∷ []
