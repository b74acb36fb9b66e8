-- What stands between a rack and a store from call to call.
use Rattle.std.specs.Prelude.{◌≡◌, ℕ, true, List, Option, IfSome, Ok, IsOk}
use Rattle.btr_rack.specs.Rack.{Seen}
use Rattle.btr_read.specs.Want.{passes}
use Rattle.btr_read.specs.Layout.{Layout, AreOpen, HaveOwnSlots}
use Rattle.btr_read.specs.Fate.{sought, fate}
use Rattle.btr_read.specs.Store.{Kept, Blocks, kept_at}

-- a kept block has a position and passes for its want, and is the want's fate, where the images are told
pub record IsKept (layout : Layout) (held : Option (List (List ℕ))) (kept : Kept) : Type 0 where
  pub sought : IsOk (sought layout kept.want)
  pub pass : passes layout.setting kept.want kept.bytes ≡ true
  pub fate : IfSome held (λ images. fate images layout kept.want ≡ Ok kept.bytes)

-- each device is open in a slot of its own, and each kept block is its want's
pub record IsServed (rack : Seen) (store : Blocks) : Type 0 where
  pub are_open : AreOpen rack.slots store.layout.devices
  pub own_slots : HaveOwnSlots store.layout.devices
  pub kept : (slot : ℕ) → IfSome (kept_at store slot) (IsKept store.layout rack.held)

-- a rack serves a store
unfoldable pub Serves : Seen → Blocks → Type 0
Serves rack store = IsServed rack store
