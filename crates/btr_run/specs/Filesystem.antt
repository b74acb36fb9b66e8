-- The filesystem of the images.
use Rattle.std.specs.Prelude.{◌≡◌, ◌≢◌, ◌⊎◌, ℕ, List, Option, Some, None, Result, Ok, Err, ⊤}
use Rattle.btr_chunk.specs.declared.chunk.Chunk.{Chunk}
use Rattle.btr_prog.specs.Prog.{exec}
use Rattle.btr_read.specs.Fate.{Fault, fate}
use Rattle.btr_read.specs.Fate as fault
use Rattle.btr_read.specs.Layout.{Layout}
use Rattle.btr_super.specs.declared.superblock.Super.{Super}
use Rattle.btr_rack.specs.Rack.{Seen}
use Rattle.btr_volume.specs.Maps.{array_layout, roots_differ}
use Rattle.btr_volume.specs.Opening.{Opens}
use Rattle.btr_volume.specs.Start.{Images, Start, start_of, layout_by}
use Rattle.btr_volume.specs.Table.{TableResult, refusal_of, table_scan}
use Rattle.btr_volume.specs.declared.fault.OpenFault.{OpenFault}
use Rattle.btr_volume.specs.declared.fault.OpenFault.TheVariants as opening
use Rattle.btr_volume.specs.declared.volume.Volume.{Volume}
use Rattle.btr_run.specs.Faults.{open_answer}
use Rattle.btr_run.specs.declared.answer.Answer.{Answer}
use Rattle.btr_run.specs.declared.answer.Answer.TheVariants.{Diverged, Lost, Malformed, Unmapped, Crosses, NoTree, Memory}

-- a filesystem: its newest superblock, and where everything stands
pub record Filesystem : Type 0 where
  pub sup : Super
  pub layout : Layout

-- the answer where a block can't be had, or says nothing
abbrev pub fault_answer : Fault → Answer
fault_answer (fault.Unmapped addr) = Unmapped addr
fault_answer (fault.Crosses addr) = Crosses addr
fault_answer (fault.Lost addr) = Lost addr
fault_answer (fault.Malformed addr) = Malformed addr
fault_answer (fault.NoTree id) = NoTree id

-- the filesystem by its chunks, unless the candidates of the root tree's root block don't agree
abbrev pub with_roots : Start → List Chunk → Option ℕ → Result Filesystem Answer
with_roots start chunks None = Ok (record { sup = start.sup; layout = layout_by start chunks })
with_roots start chunks (Some slot) = Err (Diverged slot)

-- the filesystem by what the scan of the chunk tree came to
abbrev pub with_table : Images → Start → Result TableResult Fault → Result Filesystem Answer
with_table images start (Ok (Ok chunks)) = with_roots start chunks (roots_differ images start (Ok (Ok chunks)))
with_table images start (Ok (Err refusal)) = Err (open_answer (refusal_of refusal))
with_table images start (Err f) = Err (fault_answer f)

-- the filesystem by what is known at the start
abbrev pub with_start : Images → Result Start OpenFault → Result Filesystem Answer
with_start images (Err refusal) = Err (open_answer refusal)
with_start images (Ok start) = with_table images start (exec (fate images (array_layout start)) (table_scan start)).ending

-- the filesystem of some images, or the answer of the first refusal
abbrev pub filesystem_of : Images → Result Filesystem Answer
filesystem_of images = with_start images (start_of images)

-- what a volume is read by
abbrev pub filesystem_in : Volume → Filesystem
filesystem_in volume = record { sup = volume.sup; layout = volume.store.layout }

-- what opening answers, a refusal being its answer
abbrev pub answer_as : Result Volume OpenFault → Result Volume Answer
answer_as (Ok volume) = Ok volume
answer_as (Err refusal) = Err (open_answer refusal)

-- the volume is the filesystem of the images, or its answer is theirs; memory may be wanted
abbrev pub OpensFilesystem : Images → Result Volume Answer → Type 0
OpensFilesystem images (Ok volume) = filesystem_of images ≡ Ok (filesystem_in volume)
OpensFilesystem images (Err answer) = (filesystem_of images ≡ Err answer) ⊎ (answer ≡ Memory)

-- opening the images answered this, and the answer is its
pub record OpensAs (images : Images) (old new : Seen) (result : Result Volume Answer) : Type 0 where
  pub opening : Result Volume OpenFault
  pub opens : Opens images old new opening
  pub same : answer_as opening ≡ result

-- a refusal that the superblocks alone decide; that images diverge may be told by the root tree's root block too
abbrev pub IsBySupers : OpenFault → Type 0
IsBySupers (opening.ImageFault slot) = ⊥
IsBySupers (opening.Diverged slot) = ⊥
IsBySupers (opening.BadChunk start) = ⊥
IsBySupers (opening.Limit which count) = ⊥
IsBySupers (opening.Tree f) = ⊥
IsBySupers opening.Memory = ⊥
IsBySupers refusal = ⊤

-- behind a failed read another copy may have been read: all may be answered but
-- a refusal that the superblocks alone decide
abbrev pub MayMend : Answer → Type 0
MayMend answer = (refusal : OpenFault) → IsBySupers refusal → answer ≢ open_answer refusal

-- the answer of some refusal of opening
pub record IsRefusal (answer : Answer) : Type 0 where
  pub refusal : OpenFault
  pub is : answer ≡ open_answer refusal
