-- Whether a volume can be read.
use Rattle.std.specs.Prelude.{ℕ, ◌≤◌}
use Rattle.btr_rack.specs.Rack.{Seen}
use Rattle.btr_read.specs.Serves.{Serves}
use Rattle.btr_read.specs.Store.{free_count}
use Rattle.btr_volume.specs.declared.volume.Volume.{Volume}

-- a volume can be read from a rack: its store serves it, and so many slots are free, of which a
-- block wants four
pub record CanRead (slots : ℕ) (rack : Seen) (vol : Volume) : Type 0 where
  pub serves : Serves rack vol.store
  pub room : slots ≤ free_count vol.store
