-- The scan of the chunk tree, as a program whose value is the table of chunks, or its first refusal.
use Rattle.std.specs.Prelude.{◌≡◌, ℕ, Bool, ◌&&◌, ◌==◌, if◌then◌else◌, List, Option, Some, None, Result, Ok, Err}
use Rattle.btr_base.specs.Key.{last_key}
use Rattle.btr_base.specs.declared.key.Key.{Key}
use Rattle.btr_base.specs.declared.memory.Memory.{Memory}
use Rattle.btr_chunk.specs.Item.{chunk_of}
use Rattle.btr_chunk.specs.Table.{added}
use Rattle.btr_chunk.specs.declared.chunk.Chunk.{Chunk}
use Rattle.btr_chunk.specs.declared.fault.ChunkFault.{ChunkFault}
use Rattle.btr_chunk.specs.declared.fault.ChunkFault.TheVariants as chunk_fault
use Rattle.btr_chunk.specs.declared.add.AddFault.{AddFault}
use Rattle.btr_chunk.specs.declared.add.AddFault.TheVariants as add_fault
use Rattle.btr_items.specs.Types.{chunk_item}
use Rattle.btr_super.specs.declared.superblock.Super.{Super}
use Rattle.btr_walk.specs.declared.place.RootPlace.{RootPlace}
use Rattle.btr_walk.specs.Le.{TreeItem}
use Rattle.btr_walk.specs.Folds.{Next, Go, End, folded}
use Rattle.btr_volume.specs.declared.which.Which.TheVariants as limit
use Rattle.btr_volume.specs.declared.fault.TableFault.{TableFault}
use Rattle.btr_volume.specs.declared.fault.TableFault.TheVariants.{Stripes, BadChunk, Chunks}
use Rattle.btr_volume.specs.declared.fault.OpenFault.{OpenFault}
use Rattle.btr_volume.specs.declared.fault.OpenFault.TheVariants as refuse
use Rattle.btr_volume.specs.Lookup.{Lookup}
use Rattle.btr_volume.specs.Start.{Start}

-- a table of chunks, or why there is none
abbrev pub TableResult : Type 0
TableResult = Result (List Chunk) TableFault

-- the same as a refusal of opening
abbrev pub refusal_of : TableFault → OpenFault
refusal_of (Stripes n) = refuse.Limit limit.Stripes n
refusal_of (BadChunk start) = refuse.BadChunk start
refusal_of Chunks = refuse.Limit limit.Chunks 65537

-- the key below all others
abbrev pub first_key : Key
first_key = record { objectid = 0; kind = 0; offset = 0 }

-- the root block of the chunk tree
abbrev pub chunk_root : Super → RootPlace
chunk_root s = record { addr = s.chunk_root; generation = s.chunk_root_generation; level = s.chunk_root_level }

-- the item describes a chunk; other items are passed over
abbrev pub is_chunk : Key → Bool
is_chunk key = (key.objectid == 256) && (key.kind == chunk_item)

-- the chunks with one more, or why it can't be added; a definition wants no memory
abbrev pub if_added : ℕ → Result (List Chunk) AddFault → TableResult
if_added start (Ok chunks) = Ok chunks
if_added start (Err add_fault.Overlap) = Err (BadChunk start)
if_added start (Err add_fault.Chunks) = Err Chunks
if_added start (Err add_fault.Memory) = Err (BadChunk start)

-- the table with the chunk of one more item, or the fault of that item
abbrev pub with_chunk : List Chunk → ℕ → Result Chunk ChunkFault → TableResult
with_chunk chunks start (Ok chunk) = if_added start (added chunks chunk)
with_chunk chunks start (Err (chunk_fault.Stripes n)) = Err (Stripes n)
with_chunk chunks start (Err chunk_fault.Bad) = Err (BadChunk start)
with_chunk chunks start (Err chunk_fault.Memory) = Err (BadChunk start)

-- the chunks after an item of the chunk tree
abbrev pub with_item : List Chunk → TreeItem → TableResult
with_item chunks item = if is_chunk item.key then with_chunk chunks item.key.offset (chunk_of item.key.offset item.body) else Ok chunks

-- on with the chunks, or the end by a refusal
abbrev pub table_next : TableResult → Next (List Chunk) TableResult
table_next (Ok chunks) = Go chunks
table_next (Err fault) = End (Err fault)

-- the table with one more item, or the refusal of that item
abbrev pub table_step : List Chunk → TreeItem → Next (List Chunk) TableResult
table_step chunks item = table_next (with_item chunks item)

-- the table that is answered when the scan came to its end
abbrev pub whole_table : List Chunk → TableResult
whole_table chunks = Ok chunks

-- the chunks of the array and those of the whole chunk tree in key order, or the first refusal
abbrev pub table_scan : Start → Lookup TableResult
table_scan start = folded table_step whole_table start.array (chunk_root start.sup) first_key last_key

-- a chunk was added, or this is why it can't be; of want of memory nothing is said
abbrev pub IsAdded : TableResult → List Chunk → Result (Option TableFault) Memory → Type 0
IsAdded chunks new (Ok None) = chunks ≡ Ok new
IsAdded chunks new (Ok (Some fault)) = chunks ≡ Err fault
IsAdded chunks new (Err memory) = Unit {0}
