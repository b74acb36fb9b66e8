-- What opening the images of a rack answers.
use Rattle.std.specs.Prelude.{◌≡◌, ◌⊎◌, ℕ, ◌≤◌, false, List, [], replicate, Contains, Option, Some, None, IfSome, Result, Ok, Err, ⊤, Vec}
use Rattle.std.specs.declared.alloc.Global.{Global}
use Rattle.btr_base.specs.Key.{last_key}
use Rattle.btr_base.specs.Sum.{kind_of_type}
use Rattle.btr_chunk.specs.declared.array.ArrayFault.{ArrayFault}
use Rattle.btr_chunk.specs.declared.chunk.Chunk.{Chunk}
use Rattle.btr_prog.specs.Prog.{exec}
use Rattle.btr_prog.specs.Answers.{Halt, Follows, no_part}
use Rattle.btr_rack.specs.Rack.{Seen, Rose, NoneFailed, Steady, range_in}
use Rattle.btr_prog.specs.Calls.{NoReadFailed}
use Rattle.btr_read.specs.Comparing.{Compares, disagreeing}
use Rattle.btr_read.specs.Fate.{Fault, fate, Agreed}
use Rattle.btr_read.specs.Layout.{Layout}
use Rattle.btr_read.specs.Serves.{Serves}
use Rattle.btr_read.specs.Store.{Blocks, none_kept}
use Rattle.btr_read.specs.declared.device.Member.{Member}
use Rattle.btr_super.specs.Newest.{newest}
use Rattle.btr_super.specs.Slot.{places}
use Rattle.btr_super.specs.declared.superblock.Super.{Super}
use Rattle.btr_walk.specs.Reading.{UnreadBlock, Tells, FaultCause, unread_by, halt_of}
use Rattle.btr_walk.specs.Folds.{folded}
use Rattle.btr_volume.specs.Start.{Images, Start, start_of, start_by, supers_from, layout_by, no_array, with_kind}
use Rattle.btr_volume.specs.declared.fault.TableFault.{TableFault}
use Rattle.btr_volume.specs.declared.which.Which.{Which}
use Rattle.btr_volume.specs.declared.which.Which.TheVariants as limit
use Rattle.btr_volume.specs.Table.{TableResult, refusal_of, table_scan, table_step, whole_table, first_key, chunk_root}
use Rattle.btr_volume.specs.Maps.{array_layout}
use Rattle.btr_volume.specs.Tree.{root_want}
use Rattle.btr_volume.specs.declared.fault.OpenFault.{OpenFault}
use Rattle.btr_volume.specs.declared.fault.OpenFault.TheVariants.{ImageFault, Diverged, BadChunk, Limit, Tree, Memory}
use Rattle.btr_volume.specs.declared.volume.Volume.{Volume}

-- a superblock could not be read, of a rack that isn't sure: this was the last failed call
pub record SuperUnread (old new : Seen) (slot : ℕ) : Type 0 where
  pub place : ℕ
  pub of_super : Contains places place
  pub unsure : old.sure ≡ false
  pub last : new.account.last ≡ range_in slot place 4096
  pub faults : Rose old.account.faults new.account.faults
  pub fresh : 1 ≤ new.account.fresh
  pub shut : new.account.shut ≡ old.account.shut

-- what was read is the superblocks of the images, or the refusal of the first without one; what a failed read
-- and want of memory come to hangs on the rack
abbrev pub ReadsSupers : Images → Result (Vec Super Global) OpenFault → Type 0
ReadsSupers images (Ok supers) = supers_from 0 images ≡ Ok supers.items
ReadsSupers images (Err (ImageFault slot)) = ⊤
ReadsSupers images (Err Memory) = ⊤
ReadsSupers images (Err refusal) = supers_from 0 images ≡ Err refusal

-- what opening may find too much of; the images are counted by who opens them
abbrev pub IsLimited : Which → Type 0
IsLimited limit.Images = ⊥
IsLimited limit.Stripes = ⊤
IsLimited limit.Chunks = ⊤

-- what reading the superblocks did to the account
abbrev pub SupersCause : {T : Type 0} → Seen → Seen → Result T OpenFault → Type 0
SupersCause old new (Err (ImageFault slot)) = SuperUnread old new slot
SupersCause old new (Err (Tree fault)) = ⊥
SupersCause old new (Err (Limit which n)) = IsLimited which × NoneFailed old.account new.account
SupersCause old new result = NoneFailed old.account new.account

-- neither an image nor a tree is at fault, nor are the images too many
abbrev pub NoneAtFault : {T : Type 0} → Result T OpenFault → Type 0
NoneAtFault (Err (ImageFault slot)) = ⊥
NoneAtFault (Err (Tree fault)) = ⊥
NoneAtFault (Err (Limit which n)) = IsLimited which
NoneAtFault result = ⊤

-- the chunks of a system array, or why there are none
abbrev pub ReadsArray : Result (List Chunk) ArrayFault → Result (List Chunk) OpenFault → Type 0
ReadsArray array (Ok chunks) = array ≡ Ok chunks
ReadsArray array (Err Memory) = ⊤
ReadsArray array (Err refusal) = (fault : ArrayFault) × (array ≡ Err fault) × (no_array fault ≡ refusal)

-- A store without devices, by a superblock: it makes a start, whatever the devices are. Or why there is none.
abbrev pub MakesStore : Super → Result Blocks OpenFault → Type 0
MakesStore s (Ok store) =
    (store.loans ≡ replicate 24 None) × (store.kept ≡ none_kept) × (store.layout.devices ≡ [])
    × ((devices : List Member) → with_kind s devices (kind_of_type s.csum_type)
    ≡ Ok (record { sup = s; devices = devices; setting = store.layout.setting; array = store.layout.chunks }))
MakesStore s (Err Memory) = ⊤
MakesStore s (Err refusal) = (devices : List Member) → with_kind s devices (kind_of_type s.csum_type) ≡ Err refusal

-- the volume is that of a start: its superblock, devices and setting
pub record IsBy (start : Start) (volume : Volume) : Type 0 where
  pub sup : volume.sup ≡ start.sup
  pub layout : volume.store.layout ≡ layout_by start volume.store.layout.chunks

-- the chunk tree was scanned, its blocks found by the chunks of the array alone
abbrev pub Scans : Start → Seen → Seen → Result TableResult (Halt Fault UnreadBlock) → Type 0
Scans start old new answer =
    Tells (array_layout start) old new (λ B. Follows {S = ⊥} (unread_by (array_layout start) old new) no_part [] (exec B (table_scan start)) [] answer)

-- the images are a start, and its chunk tree was scanned with this answer
pub record Starts (images : Images) (old new : Seen) (answer : Result TableResult (Halt Fault UnreadBlock)) : Type 0 where
  pub start : Start
  pub is : start_of images ≡ Ok start
  pub scans : Scans start old new answer

-- the candidates of the root tree's root block, found by these chunks, were
-- compared, and this is where they don't agree
abbrev pub ComparesRoots : Start → List Chunk → Seen → Seen → Option ℕ → Type 0
ComparesRoots start chunks old new slot = Compares (layout_by start chunks) (root_want start.sup) old new slot

-- a volume is that of the images, its chunks are what scanning the chunk tree came to, and the
-- candidates of the root tree's root block agree
pub record Opened (images : Images) (old new : Seen) (volume : Volume) : Type 0 where
  pub start : Start
  pub is : start_of images ≡ Ok start
  pub by : IsBy start volume
  pub scans : Scans start old new (Ok (Ok volume.store.layout.chunks))
  pub alike : ComparesRoots start volume.store.layout.chunks old new None

-- the images are a start, scanning its chunk tree came to chunks, and by these the
-- candidates of the root tree's root block don't agree
pub record RootsDiffer (images : Images) (old new : Seen) (slot : ℕ) : Type 0 where
  pub start : Start
  pub is : start_of images ≡ Ok start
  pub chunks : List Chunk
  pub scans : Scans start old new (Ok (Ok chunks))
  pub differ : ComparesRoots start chunks old new (Some slot)

-- what a volume begins with, whose chunks are those of the array
abbrev pub start_in : Volume → Start
start_in volume = record { sup = volume.sup; devices = volume.store.layout.devices; setting = volume.store.layout.setting; array = volume.store.layout.chunks }

-- a volume with the chunks of the array, by the superblocks and the lengths of the images; or the first refusal
abbrev pub BeginsVolume : List Super → List ℕ → Result Volume OpenFault → Type 0
BeginsVolume supers lens (Ok volume) = start_by supers lens (newest supers) ≡ Ok (start_in volume)
BeginsVolume supers lens (Err Memory) = ⊤
BeginsVolume supers lens (Err refusal) = start_by supers lens (newest supers) ≡ Err refusal

-- the same over the images
abbrev pub Prepares : Images → Result Volume OpenFault → Type 0
Prepares images (Ok volume) = start_of images ≡ Ok (start_in volume)
Prepares images (Err (ImageFault slot)) = ⊤
Prepares images (Err (Tree fault)) = ⊥
Prepares images (Err Memory) = ⊤
Prepares images (Err refusal) = start_of images ≡ Err refusal

-- the scan of the chunk tree from the chunks of a layout on
abbrev pub ScansTable : Super → Layout → Seen → Seen → Result TableResult (Halt Fault UnreadBlock) → Type 0
ScansTable s layout old new answer =
    Tells layout old new (λ B. Follows {S = ⊥} (unread_by layout old new) no_part []
    (exec B (folded table_step whole_table layout.chunks (chunk_root s) first_key last_key)) [] answer)

-- the chunks of the chunk tree, or why there are none
abbrev pub ReadsTable : Super → Layout → Seen → Seen → Result (List Chunk) OpenFault → Type 0
ReadsTable s layout old new (Ok chunks) = ScansTable s layout old new (Ok (Ok chunks))
ReadsTable s layout old new (Err (Tree fault)) = ScansTable s layout old new (Err (halt_of fault))
ReadsTable s layout old new (Err Memory) = ⊤
ReadsTable s layout old new (Err refusal) = (fault : TableFault) × (refusal_of fault ≡ refusal) × ScansTable s layout old new (Ok (Err fault))

-- a fault of the chunk tree has its cause; what it has no chunks for is one of these
abbrev pub TableCause : {T : Type 0} → Layout → Seen → Seen → Result T OpenFault → Type 0
TableCause layout old new (Ok chunks) = ⊤
TableCause layout old new (Err (Tree fault)) = FaultCause layout old new fault
TableCause layout old new (Err (BadChunk start)) = ⊤
TableCause layout old new (Err (Limit which n)) = IsLimited which
TableCause layout old new (Err Memory) = ⊤
TableCause layout old new (Err refusal) = ⊥

-- what is answered over the images: the volume; or the first refusal, by the superblocks, by the
-- chunk tree or by the root tree's root block
abbrev pub Opens : Images → Seen → Seen → Result Volume OpenFault → Type 0
Opens images old new (Ok volume) = Opened images old new volume
Opens images old new (Err (ImageFault slot)) = ⊤
Opens images old new (Err Memory) = ⊤
Opens images old new (Err (Tree fault)) = Starts images old new (Err (halt_of fault))
Opens images old new (Err (Diverged slot)) = (start_of images ≡ Err (Diverged slot)) ⊎ RootsDiffer images old new slot
Opens images old new (Err refusal) =
    (start_of images ≡ Err refusal) ⊎ ((fault : TableFault) × (refusal_of fault ≡ refusal) × Starts images old new (Ok (Err fault)))

-- what the images of a rack begin with, where the rack tells them
pub record StartOf (rack : Seen) : Type 0 where
  pub start : Start
  pub is : IfSome rack.held (λ images. start_of images ≡ Ok start)

-- What lies behind a refusal: a superblock that could not be read; a block that could not be had of
-- the layout of the images' array; candidates of the root tree's root block that don't agree, found
-- by some chunks behind the images' start; for the refusals by the superblocks no call failed. There
-- are never too many images.
abbrev pub OpenCause : {T : Type 0} → Seen → Seen → Result T OpenFault → Type 0
OpenCause old new (Ok volume) = ⊤
OpenCause old new (Err (ImageFault slot)) = SuperUnread old new slot
OpenCause old new (Err (Tree fault)) = (begun : StartOf old) × FaultCause (array_layout begun.start) old new fault
OpenCause old new (Err (BadChunk start)) = ⊤
OpenCause old new (Err (Limit which n)) = IsLimited which
OpenCause old new (Err Memory) = ⊤
OpenCause old new (Err (Diverged slot)) =
    NoneFailed old.account new.account
    ⊎ ((begun : StartOf old) × (chunks : List Chunk) × ComparesRoots begun.start chunks old new (Some slot))
OpenCause old new (Err refusal) = NoneFailed old.account new.account

-- a volume can be read from a rack, no loan is live, and its nodes are as long as its superblock says
pub record IsFresh (rack : Seen) (volume : Volume) : Type 0 where
  pub serves : Serves rack volume.store
  pub loans : volume.store.loans ≡ replicate 24 None
  pub nodesize : volume.sup.nodesize ≡ volume.store.layout.setting.nodesize

-- A volume is the one of these images: its superblock is the newest, its devices are the images,
-- and its chunks are those of the chunk tree.
pub record IsVolumeOf (images : Images) (volume : Volume) : Type 0 where
  pub start : Start
  pub is : start_of images ≡ Ok start
  pub by : IsBy start volume
  pub table : (exec (fate images (array_layout start)) (table_scan start)).ending ≡ Ok (Ok volume.store.layout.chunks)

-- A volume that was opened is the one of the images, where the rack tells them and no read failed, or all copies agree.
abbrev pub OpenedIsOfImages : Type 0
OpenedIsOfImages =
    (images : Images) (old new : Seen) (volume : Volume)
    → old.held ≡ Some images
    → (opened : Opened images old new volume)
    → NoReadFailed old.account.faults new.account.faults ⊎ Agreed images (array_layout opened.start)
    → IsVolumeOf images volume

-- In a volume that was opened the candidates of the root tree's root block agree, where
-- the rack tells the images and no read failed.
abbrev pub OpenedIsAlike : Type 0
OpenedIsAlike =
    (images : Images) (old new : Seen) (volume : Volume)
    → old.held ≡ Some images
    → (opened : Opened images old new volume)
    → Steady old.account.faults new.account.faults
    → disagreeing images volume.store.layout (root_want volume.sup) ≡ None
