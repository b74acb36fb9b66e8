-- Images give data by whole sectors.
use Rattle.std.specs.Prelude.{◌≡◌, ◌<◌, List, All, Ok}
use Rattle.btr_chunk.specs.declared.chunk.Chunk.{Chunk}
use Rattle.btr_prog.specs.Prog.{exec}
use Rattle.btr_read.specs.Fate.{fate}
use Rattle.btr_volume.specs.Maps.{array_layout}
use Rattle.btr_volume.specs.Start.{Images, Start, layout_by, start_of}
use Rattle.btr_volume.specs.Table.{table_scan}
use Rattle.btr_send.specs.Restored.{GivesSectors}

-- images consist of bytes
abbrev pub AreBytes : Images → Type 0
AreBytes images = All (All (λ byte. byte < 256)) images

-- So do images of bytes that have a superblock and a table of chunks, whatever profile a chunk has
-- and which of its devices are given.
abbrev pub ImagesGiveSectors : Type 0
ImagesGiveSectors =
    (images : Images) (start : Start) (table : List Chunk)
    → AreBytes images
    → start_of images ≡ Ok start
    → (exec (fate images (array_layout start)) (table_scan start)).ending ≡ Ok (Ok table)
    → GivesSectors (fate images (layout_by start table))
