-- What opening the images of a rack in memory answers.
use Rattle.std.specs.Prelude.{◌≡◌, Option, Some, None}
use Rattle.btr_rack.specs.Memory.{MemoryRack, held_of}
use Rattle.btr_scrub.specs.Filesystem.{Filesystem}
use Rattle.btr_volume.specs.Opening.{IsFresh}
use Rattle.btr_volume.specs.declared.volume.Volume.{Volume}
use Rattle.btr_trial.specs.Opened.{filesystem_of}
use Rattle.btr_trial.specs.Sure.{sure_seen}

-- a volume is a filesystem
abbrev pub filesystem_in : Volume → Filesystem
filesystem_in volume = record { layout = volume.store.layout; sup = volume.sup }

-- the open images are those of the filesystem of a volume, which can be read; or they are refused
abbrev pub OpensOrRefuses : MemoryRack → Option Volume → Type 0
OpensOrRefuses rack (Some volume) = IsFresh (sure_seen rack) volume × (filesystem_of (held_of rack) ≡ Some (filesystem_in volume))
OpensOrRefuses rack None = filesystem_of (held_of rack) ≡ None
