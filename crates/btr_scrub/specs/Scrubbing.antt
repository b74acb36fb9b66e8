-- Mending block by block and chunk by chunk: what was done, and what is counted.
use Rattle.std.specs.Prelude.{◌≡◌, ℕ, ◌+◌, ◌<◌, ◌≤◌, Bool, List, [], ◌∷◌, ◌++◌, length, Option, Some, None, is_none, false, IsSome, IsSomeAnd, IsTrue}
use Rattle.std.specs.Prelude.{IfSome, OnOk, Result, slice_get, if◌then◌else◌}
use Rattle.std.specs.List.{filter, flat_map, fold}
use Rattle.btr_chunk.specs.Chunk.{mirrors}
use Rattle.btr_chunk.specs.Table.{IsTable}
use Rattle.btr_chunk.specs.declared.chunk.Chunk.{Chunk}
use Rattle.btr_rack.specs.Rack.{OnlyReads, Seen}
use Rattle.btr_read.specs.Candidates.{Target}
use Rattle.btr_read.specs.Layout.{Layout}
use Rattle.btr_read.specs.Serves.{Serves}
use Rattle.btr_read.specs.Store.{Blocks, free_count}
use Rattle.btr_read.specs.Want.{addr_of}
use Rattle.btr_read.specs.declared.want.Want.{Want}
use Rattle.btr_scrub_copies.specs.Mending.{Repairs, mended_of}
use Rattle.btr_scrub_copies.specs.Syncing.{AreMarked, IsSyncOr, Strands, plain}
use Rattle.btr_scrub_copies.specs.Turns.{WaitsAt}
use Rattle.btr_scrub_copies.specs.Writes.{AreWritable, DoesWrites, Images, Write, writes_if}
use Rattle.btr_scrub_copies.specs.declared.mended.MendFault.{MendFault}
use Rattle.btr_scrub_copies.specs.declared.mended.Mended.{Mended}
use Rattle.btr_rack.specs.declared.place.Place.{Place as Range}
use Rattle.btr_scrub_row.specs.Mending.{HasRoom, mended_row}
use Rattle.btr_scrub_row.specs.declared.buffer.RowBuffer.{RowBuffer}
use Rattle.btr_scrub_row.specs.Rows.{Row, row_writes}
use Rattle.btr_scrub_row.specs.declared.mended.MendedRow.{MendedRow}
use Rattle.btr_scrub.specs.BlocksInRows.{In}
use Rattle.btr_scrub.specs.WrittenRanges.{LiesInStripe, WaitsInOne, alone}
use Rattle.btr_scrub.specs.Order.{AreApart, targets}
use Rattle.btr_scrub_copies.specs.Fresh.{Failing, freshened}
use Rattle.btr_scrub_row.specs.Wanted.{mending_writes}
use Rattle.btr_scrub.specs.Repair.{first_missing, is_in_chunk, rows_in, stood}
use Rattle.btr_read.specs.Fate.{is_plain}
use Rattle.btr_scrub.specs.declared.progress.ScrubState.{ScrubState}
use Rattle.btr_scrub.specs.declared.tally.Tally.{Tally}
use Rattle.btr_scrub.specs.declared.task.ChunkTask.{ChunkTask}

-- the first of some blocks, if there is one, begins at or behind an address
abbrev pub BeginsBehind : ℕ → List Want → Type 0
BeginsBehind end [] = Unit {0}
BeginsBehind end (want ∷ wants) = end ≤ addr_of want

-- the next block, if it lies before an address; else the reader stays where it is
abbrev pub GivesBelow : List Want → ℕ → Option Want → List Want → Type 0
GivesBelow old end None new = (new ≡ old) × BeginsBehind end old
GivesBelow old end (Some want) new = (old ≡ want ∷ new) × (addr_of want < end)

-- counts with those of one more block
abbrev pub counted : Tally → Mended → Tally
counted tally mended = record {
  blocks = stood (tally.blocks + 1);
  bad = stood (tally.bad + mended.bad);
  repaired = stood (tally.repaired + mended.repaired);
  lost = stood (tally.lost + (if mended.lost then 1 else 0));
  parity = tally.parity;
  unchecked = tally.unchecked;
}

-- counts with those of one more plain sector
abbrev pub counted_plain : Tally → Mended → Tally
counted_plain tally mended = record {
  blocks = tally.blocks;
  bad = stood (tally.bad + mended.bad);
  repaired = stood (tally.repaired + mended.repaired);
  lost = tally.lost;
  parity = tally.parity;
  unchecked = tally.unchecked;
}

-- counts with those of a plain sector or a block
abbrev pub counted_site : Bool → Tally → Mended → Tally
counted_site is_plain tally mended = if is_plain then counted_plain tally mended else counted tally mended

-- a block was mended by its copies, or a plain sector brought up to date by them
abbrev pub RepairsSite : Failing → Target → Bool → List Bool → List Bool → Seen → Seen → Result Mended MendFault → Type 0
RepairsSite failing t write = Repairs t write (λ images. mending_writes images failing t)
    (λ images. if is_plain t.want then freshened images failing t write else mended_of images t write)

-- the counts with those of one more block or plain sector
abbrev pub count_site : Failing → Images → Bool → Tally → Target → Tally
count_site failing images write tally t =
    if is_plain t.want then counted_plain tally (freshened images failing t write) else counted tally (mended_of images t write)

-- all blocks can be mended: devices are open and given, and where it is to be written each image was opened for writing
pub record CanMend (write : Bool) (rack : Seen) (store : Blocks) (marks : List Bool) : Type 0 where
  pub serves : Serves rack store
  pub room : 2 ≤ free_count store
  pub writable : IsTrue write → AreWritable rack.slots
  pub slots : length marks ≡ length rack.slots
  pub table : IsTable store.layout.chunks
  pub given : first_missing store.layout ≡ None

-- a call is one of scrub's own: a sync, or one in a stripe of a chunk
abbrev pub IsOfScrub : Layout → Range → Type 0
IsOfScrub layout = IsSyncOr (LiesInStripe layout)

-- Images were read and written, and synced within a full stripe: exactly the writes that follow from
-- what they held, or those up to a call that failed. What follows from what they held was counted. What
-- waits for a sync then waited before, or lies in a stripe; where all that waited was marked, it is.
pub record Scrubs {A : Type 0} (layout : Layout) (write : Bool) (writes : Images → List Write) (count : Images → Tally → Tally) (marks marks' : List Bool)
    (old new : Seen) (tally tally' : Tally) (result : Result A MendFault) : Type 0 where
  pub does : DoesWrites (IsOfScrub layout) (λ images. writes_if write (writes images)) [] [] (plain old) (plain new) result
  pub waits : WaitsAt (LiesInStripe layout) old new
  pub marked : AreMarked marks old.unsynced → AreMarked marks' new.unsynced
  pub stranded : Strands old.never_synced new.never_synced result
  pub counts : OnOk result (IfSome old.held (λ images. tally' ≡ count images tally))
  pub unwritten : write ≡ false → OnlyReads old new

-- the writes for blocks and plain sectors, in their order
abbrev pub sites_writes : Failing → List Target → Images → List Write
sites_writes failing ts images = flat_map (mending_writes images failing) ts

-- the counts with those of some blocks and plain sectors
abbrev pub sites_count : Failing → Bool → List Target → Images → Tally → Tally
sites_count failing write ts images tally = fold (count_site failing images write) tally ts

-- those of some blocks and plain sectors that lie in a chunk
abbrev pub sites_in : Layout → Chunk → List Want → List Target
sites_in layout chunk wants = filter (is_in_chunk chunk) (targets layout wants)

-- the blocks of a chunk are past, and those that come next lie behind it
pub record IsPastChunk (layout : Layout) (chunk : Chunk) (old new : List Want) : Type 0 where
  pub past : List Want
  pub split : old ≡ past ++ new
  pub inside : (t : Target) → In t (targets layout past) → t.chunk ≡ chunk
  pub behind : AreApart layout (chunk.start + chunk.length) new

-- ---- the chunk of a number

-- the blocks that come next lie in it, or behind it
abbrev pub ComesNext : Layout → ℕ → List Want → Type 0
ComesNext layout number blocks = IsSomeAnd (slice_get layout.chunks number) (λ chunk. AreApart layout chunk.start blocks)

-- the blocks that come next lie in a chunk or after it, and it has copies
abbrev pub CopiesComeNext : Layout → ℕ → List Want → Type 0
CopiesComeNext layout number blocks = IsSomeAnd (slice_get layout.chunks number) (λ chunk. IsSome (mirrors chunk) × AreApart layout chunk.start blocks)

-- the blocks that come next lie in a chunk or after it, and it has parity
abbrev pub RowsComeNext : Layout → ℕ → List Want → Type 0
RowsComeNext layout number blocks = IsSomeAnd (slice_get layout.chunks number) (λ chunk. (mirrors chunk ≡ None) × AreApart layout chunk.start blocks)

-- its blocks are past
abbrev pub PassesChunk : Layout → ℕ → List Want → List Want → Type 0
PassesChunk layout number old new = (chunk : Chunk) → slice_get layout.chunks number ≡ Some chunk → IsPastChunk layout chunk old new

-- exactly the writes that are its own were made, or those up to one that failed, and what it counts was counted
abbrev pub ScrubsChunk : {A : Type 0} → Layout → ChunkTask → (Chunk → Images → List Write) → (Chunk → Images → Tally → Tally) → ScrubState → ScrubState → Seen
    → Seen → Result A MendFault → Type 0
ScrubsChunk layout task writes count from to old new result = (chunk : Chunk) → slice_get layout.chunks task.number ≡ Some chunk
    → Scrubs (alone layout chunk) task.how.write (writes chunk) (count chunk) from.marks.items to.marks.items old new from.tally to.tally result

-- ---- chunks with parity

-- counts with those of a full stripe
abbrev pub counted_row : Tally → MendedRow → Tally
counted_row tally mended = record {
  blocks = stood (tally.blocks + mended.blocks);
  bad = stood (tally.bad + mended.bad);
  repaired = stood (tally.repaired + mended.repaired);
  lost = stood (tally.lost + mended.lost);
  parity = stood (tally.parity + mended.parity);
  unchecked = tally.unchecked;
}

-- a full stripe without blocks isn't looked at
abbrev pub count_row_of : List Target → Tally → MendedRow → Tally
count_row_of [] tally mended = tally
count_row_of (t ∷ ts) tally mended = counted_row tally mended

-- the counts with those of one more full stripe
abbrev pub count_row : Images → Layout → Bool → Tally → Row → Tally
count_row images layout write tally row = count_row_of row.blocks tally (mended_row images layout row write)

-- the writes for full stripes, in their order
abbrev pub rows_writes : Layout → List Row → Images → List Write
rows_writes layout rs images = flat_map (row_writes images layout) rs

-- the counts with those of some full stripes
abbrev pub rows_count : Layout → Bool → List Row → Images → Tally → Tally
rows_count layout write rs images tally = fold (count_row images layout write) tally rs

-- ---- one chunk

-- the writes in a chunk for those of some blocks and plain sectors that lie in it: one after another where there are
-- copies, and full stripe by full stripe where there is parity
abbrev pub chunk_writes_for : Failing → Layout → Chunk → List Want → Images → List Write
chunk_writes_for fails layout chunk wants images =
    if is_none (mirrors chunk)
    then rows_writes layout (rows_in fails (targets layout wants) chunk) images
    else sites_writes fails (sites_in layout chunk wants) images

-- the counts with those of some blocks that lie in a chunk
abbrev pub chunk_count_for : Failing → Layout → Bool → Chunk → List Want → Images → Tally → Tally
chunk_count_for fails layout write chunk wants images tally =
    if is_none (mirrors chunk)
    then rows_count layout write (rows_in fails (targets layout wants) chunk) images tally
    else sites_count fails write (sites_in layout chunk wants) images tally

-- the writes for those of some blocks that lie in some chunks, chunk by chunk
abbrev pub all_writes_for : Failing → Layout → List Chunk → List Want → Images → List Write
all_writes_for fails layout chunks wants images = flat_map (λ chunk. chunk_writes_for fails layout chunk wants images) chunks

-- the counts with those of some blocks that lie in some chunks, chunk by chunk
abbrev pub all_count_for : Failing → Layout → Bool → List Chunk → List Want → Images → Tally → Tally
all_count_for fails layout write chunks wants images tally = fold (λ tally chunk. chunk_count_for fails layout write chunk wants images tally) tally chunks

-- ---- with syncs

-- Images were read, written and synced: exactly the writes that follow from what they held, or those up to a call that
-- failed. Where nothing waited for a sync nothing does at the end, and at a halt what lies in stripes of one chunk.
pub record Works {A : Type 0} (layout : Layout) (write : Bool) (writes : Images → List Write) (count : Images → Tally → Tally) (old new : Seen)
    (tally tally' : Tally) (result : Result A MendFault) : Type 0 where
  pub does : DoesWrites (IsOfScrub layout) (λ images. writes_if write (writes images)) [] [] (plain old) (plain new) result
  pub counts : OnOk result (IfSome old.held (λ images. tally' ≡ count images tally))
  pub synced : OnOk result (old.unsynced ≡ [] → new.unsynced ≡ [])
  pub waits : old.unsynced ≡ [] → WaitsInOne layout old new
  pub stranded : Strands old.never_synced new.never_synced result
  pub unwritten : write ≡ false → OnlyReads old new

-- the same for the chunk of a number
abbrev pub WorksChunk : {A : Type 0} → Layout → ChunkTask → (Chunk → Images → List Write) → (Chunk → Images → Tally → Tally) → ScrubState → ScrubState → Seen
    → Seen → Result A MendFault → Type 0
WorksChunk layout task writes count from to old new result = (chunk : Chunk) → slice_get layout.chunks task.number ≡ Some chunk
    → Works (alone layout chunk) task.how.write (writes chunk) (count chunk) old new from.tally to.tally result

-- a buffer has room for each full stripe of the table
abbrev pub HasRooms : Layout → RowBuffer → Type 0
HasRooms layout buffer = (i : ℕ) (chunk : Chunk) → slice_get layout.chunks i ≡ Some chunk → mirrors chunk ≡ None → HasRoom buffer (length chunk.stripes)

-- no chunk with parity has more stripes than these
abbrev pub NoneIsWider : Layout → ℕ → Type 0
NoneIsWider layout most = (i : ℕ) (chunk : Chunk) → slice_get layout.chunks i ≡ Some chunk → mirrors chunk ≡ None → length chunk.stripes ≤ most
