-- What blocks may come to, where sectors without checksums are read too.
use Rattle.std.specs.Prelude.{ℕ, IfSome}
use Rattle.btr_prog.specs.Calls.{Sure, First, Any, Calls}
use Rattle.btr_rack.specs.Rack.{Seen}
use Rattle.btr_read.specs.Fate.{fate, choices}
use Rattle.btr_read.specs.Layout.{Layout}
use Rattle.btr_read.specs.Reading.{AgreedOn, shown}
use Rattle.btr_walk.specs.Reading.{Map}
use Rattle.btr_volume.specs.Maps.{Maps}
use Rattle.btr_volume.specs.Start.{Images}

-- the maps of some images, by how surely it is known which copies were read: the first
-- that passes, or any where there is no test
abbrev pub maps_by : Sure → Images → ℕ → Maps
maps_by First images n = fate images
maps_by Any images n = choices images n

-- so far as the calls were steady, P holds of the block maps of the images
pub record TellsAll (layout : Layout) (old new : Seen) (P : (ℕ → Map) → Type 0) : Type 0 where
  pub calls : Calls (AgreedOn layout) (shown old) (shown new) (λ sure held. IfSome held (λ images. P (λ n. maps_by sure images n layout)))
