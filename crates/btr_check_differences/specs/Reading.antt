-- What a call that reads blocks has done.
use Rattle.std.specs.Prelude.{◌≤◌}
use Rattle.btr_rack.specs.Rack.{Seen, OnlyReads}
use Rattle.btr_read.specs.Serves.{Serves}
use Rattle.btr_read.specs.Store.{Blocks, SameLoans, free_count}
use Rattle.btr_walk.specs.Reading.{Map, Tells}

-- what is seen of a rack and a store
pub record World : Type 0 where
  pub rack : Seen
  pub store : Blocks

-- what is seen of both
abbrev pub world : Seen → Blocks → World
world rack store = record { rack = rack; store = store }

-- blocks can be read: four slots are free
pub record IsReady (x : World) : Type 0 where
  pub serves : Serves x.rack x.store
  pub room : 4 ≤ free_count x.store

-- a call only read, no loan changed, and so far as reads were steady P holds of the block map of
-- the images
pub record Read (P : Map → Type 0) (x y : World) : Type 0 where
  pub reads : OnlyReads x.rack y.rack
  pub loans : SameLoans x.store y.store
  pub ready : IsReady y
  pub told : Tells x.store.layout x.rack y.rack P
