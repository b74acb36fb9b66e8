-- The filesystem of images that are whole in memory: what opening them comes to.
use Rattle.std.specs.Prelude.{ℕ, List, Option, Some, None, Result, Ok, Err}
use Rattle.btr_chunk.specs.declared.chunk.Chunk.{Chunk}
use Rattle.btr_prog.specs.Prog.{exec}
use Rattle.btr_read.specs.Fate.{Fault, fate}
use Rattle.btr_scrub.specs.Filesystem.{Filesystem}
use Rattle.btr_volume.specs.Maps.{array_layout, roots_differ}
use Rattle.btr_volume.specs.Start.{Images, Start, start_of, layout_by}
use Rattle.btr_volume.specs.Table.{TableResult, table_scan}
use Rattle.btr_volume.specs.declared.fault.OpenFault.{OpenFault}

-- the filesystem by its chunks, unless the candidates of the root tree's root block don't agree
abbrev pub with_roots : Start → List Chunk → Option ℕ → Option Filesystem
with_roots start chunks None = Some (record { layout = layout_by start chunks; sup = start.sup })
with_roots start chunks (Some slot) = None

-- the same by what the scan of the chunk tree came to
abbrev pub with_table : Images → Start → Result TableResult Fault → Option Filesystem
with_table images start (Ok (Ok chunks)) = with_roots start chunks (roots_differ images start (Ok (Ok chunks)))
with_table images start (Ok (Err refusal)) = None
with_table images start (Err fault) = None

-- the filesystem of images that have a start, or none where they are refused
abbrev pub with_start : Images → Result Start OpenFault → Option Filesystem
with_start images (Ok start) = with_table images start (exec (fate images (array_layout start)) (table_scan start)).ending
with_start images (Err refusal) = None

-- the filesystem of some images; none where they are refused
unfoldable pub filesystem_of : Images → Option Filesystem
filesystem_of images = with_start images (start_of images)
