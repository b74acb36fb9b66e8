-- What becomes of the wants of a volume: those of the chunk tree by the chunks of the
-- system array, and all others by the table.
use Rattle.std.specs.Prelude.{ℕ, List, Option, None, Result, Ok, Err}
use Rattle.btr_chunk.specs.declared.chunk.Chunk.{Chunk}
use Rattle.btr_prog.specs.Prog.{BlockMap, exec}
use Rattle.btr_prog.specs.Stages.{Staged, both}
use Rattle.btr_read.specs.Comparing.{disagreeing}
use Rattle.btr_read.specs.Fate.{Fault, fate}
use Rattle.btr_read.specs.Layout.{Layout}
use Rattle.btr_read.specs.declared.want.Want.{Want}
use Rattle.btr_volume.specs.Start.{Images, Start, layout_by}
use Rattle.btr_volume.specs.Table.{TableResult, table_scan}
use Rattle.btr_volume.specs.Tree.{root_want}

-- for each layout a map
abbrev pub Maps : Type 0
Maps = Layout → BlockMap Want Fault

-- the wants of a volume: those of the chunk tree, and all others with the table that they are looked up in
abbrev pub VolumeWant : Type 0
VolumeWant = Staged (List Chunk) Want

-- how the blocks of the chunk tree are found
abbrev pub array_layout : Start → Layout
array_layout start = layout_by start start.array

-- the map of a volume
abbrev pub volume_map : Start → Maps → BlockMap VolumeWant Fault
volume_map start maps = both (maps (array_layout start)) (λ table. maps (layout_by start table))

-- the table that a scan of the chunk tree came to; where it came to none, other chunks
abbrev pub table_or : List Chunk → Result TableResult Fault → List Chunk
table_or other (Ok (Ok table)) = table
table_or other (Ok (Err refusal)) = other
table_or other (Err fault) = other

-- the table of the images: that of the chunk tree where it comes to one, else the array's
abbrev pub table_of : Images → Start → List Chunk
table_of images start = table_or start.array (exec (fate images (array_layout start)) (table_scan start)).ending

-- Where the candidates of the root tree's root block don't agree, as they are found by what a scan of the chunk tree
-- came to; where that is no table nothing is compared.
abbrev pub roots_differ : Images → Start → Result TableResult Fault → Option ℕ
roots_differ images start (Ok (Ok table)) = disagreeing images (layout_by start table) (root_want start.sup)
roots_differ images start (Ok (Err refusal)) = None
roots_differ images start (Err fault) = None

-- the same of the images
abbrev pub diverged_at : Images → Start → Option ℕ
diverged_at images start = roots_differ images start (exec (fate images (array_layout start)) (table_scan start)).ending
