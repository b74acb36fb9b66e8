-- The blocks of one full stripe.
use Rattle.std.specs.List.{All}
use Rattle.std.specs.Option.{option_map_or}
use Rattle.std.specs.Prelude.{◌≡◌, ◌≢◌, ℕ, ◌+◌, ◌-◌, ◌*◌, ◌^◌, ◌<◌, ◌≤◌, Bool, true, false, List, [], ◌∷◌, ◌++◌, Option, Some, None, if◌then◌else◌}
use Rattle.btr_chunk.specs.Mapping.{elements_of, holds, position}
use Rattle.btr_chunk.specs.declared.chunk.Chunk.{Chunk}
use Rattle.btr_read.specs.Fate.{is_plain}
use Rattle.btr_read.specs.Layout.{Layout}
use Rattle.btr_read.specs.Want.{addr_of}
use Rattle.btr_read.specs.declared.want.Want.{Want}
use Rattle.btr_scrub_row.specs.Rows.{Row, has_doubtful}
use Rattle.btr_scrub_row.specs.declared.mended.MendedRow.{MendedRow}
use Rattle.btr_scrub.specs.BlocksInRows.{In}
use Rattle.btr_scrub.specs.Listed.{AddsAll, KeptBlocks, plains_from}
use Rattle.btr_scrub.specs.Repair.{ok_or_none}
use Rattle.btr_scrub.specs.declared.rowed.PlainRun.{PlainRun}

-- the row of a chunk in which an address lies, if it lies in the chunk
abbrev pub row_in : Chunk → ℕ → Option ℕ
row_in chunk addr = if holds chunk addr then Some (position chunk addr).row else None

-- the first of some blocks, if there is one, doesn't lie in a row
abbrev pub BeginsElse : Chunk → ℕ → List Want → Type 0
BeginsElse chunk row [] = Unit {0}
BeginsElse chunk row (want ∷ wants) = row_in chunk (addr_of want) ≢ Some row

-- the next block, if it lies in a row; else the reader stays where it is
abbrev pub GivesInRow : Chunk → ℕ → List Want → Option Want → List Want → Type 0
GivesInRow chunk row old None new = (new ≡ old) × BeginsElse chunk row old
GivesInRow chunk row old (Some want) new = (old ≡ want ∷ new) × (row_in chunk (addr_of want) ≡ Some row)

-- the blocks of a row were collected: a first one, and those that a reader had next
pub record Collects (chunk : Chunk) (row : ℕ) (first : Want) (old new wants : List Want) : Type 0 where
  pub more : List Want
  pub are : wants ≡ first ∷ more
  pub split : old ≡ more ++ new
  pub inside : (want : Want) → In want more → row_in chunk (addr_of want) ≡ Some row
  pub next : BeginsElse chunk row new

-- the same for the row of a chunk in which the first block lies
abbrev pub CollectsRow : Chunk → Want → List Want → List Want → List Want → ℕ → Type 0
CollectsRow chunk first old new wants row = (row_in chunk (addr_of first) ≡ Some row) × Collects chunk row first old new wants

-- a row holds nothing but plain sectors, in a chunk no image of which is in doubt
pub record IsInert (layout : Layout) (row : Row) : Type 0 where
  pub plain : All (λ t. is_plain t.want ≡ true) row.blocks
  pub sure : has_doubtful layout.devices row.failing row.chunk ≡ false

-- what comes of a row of which nothing does
abbrev pub untouched : MendedRow
untouched = record { blocks = 0; bad = 0; repaired = 0; lost = 0; parity = 0 }

-- the start of the row of a chunk in which an address lies
abbrev pub row_start : Chunk → ℕ → ℕ
row_start chunk addr = option_map_or (λ at. addr - at.rest - at.index * 65536) (ok_or_none (elements_of chunk addr 1)) addr

-- a row of a chunk starts at an address, behind an earlier one
pub record StartsRow (chunk : Chunk) (addr row : ℕ) : Type 0 where
  pub here : row_in chunk addr ≡ Some row
  pub last : ℕ
  pub before : row_in chunk (addr - 1) ≡ Some last
  pub rises : last < row

-- a reader passes over plain sectors one behind another, which reach just to the start of a row
pub record PassesTo (chunk : Chunk) (old : List Want) (run : PlainRun) (new : List Want) : Type 0 where
  pub some : 1 ≤ run.count
  pub split : old ≡ plains_from run.addr run.count ++ new
  pub range : run.addr + run.count * 4096 < 2 ^ 64
  pub start : ℕ
  pub below : (i : ℕ) → i < run.count → run.addr + i * 4096 < start
  pub reaches : start ≤ run.addr + run.count * 4096
  pub row : ℕ
  pub starts : StartsRow chunk start row

-- a reader passes over plain sectors up to the start of a row, which come out, or stays where it is
abbrev pub PassesRows : Chunk → List Want → Option PlainRun → List Want → Type 0
PassesRows chunk old None new = new ≡ old
PassesRows chunk old (Some run) new = PassesTo chunk old run new

-- the same unless some image of the chunk is in doubt; then it stays where it is
abbrev pub PassesUnless : Bool → Chunk → List Want → List Want → Type 0
PassesUnless true chunk old new = new ≡ old
PassesUnless false chunk old new = (run : Option PlainRun) × PassesRows chunk old run new

-- plain sectors were put behind a list, if there are some
abbrev pub AddsRun : KeptBlocks → KeptBlocks → Option PlainRun → Type 0
AddsRun before after None = after ≡ before
AddsRun before after (Some run) = AddsAll before after (plains_from run.addr run.count)

-- a reader passes over plain sectors up to the start of a row, and they were put behind a list, or none
abbrev pub KeepsRows : Chunk → List Want → List Want → KeptBlocks → KeptBlocks → Type 0
KeepsRows chunk old new before after = (run : Option PlainRun) × PassesRows chunk old run new × AddsRun before after run
