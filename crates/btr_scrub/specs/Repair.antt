-- All of it: the writes in order, the images that they make, the ranges, and the counts.
use Rattle.std.specs.Prelude.{ℕ, ◌+◌, ◌/◌, ◌-◌, ◌^◌, min, Bool, true, false, ◌&&◌, ◌==◌, nat_le, nat_lt, List, [], length, map, Option, Some, None}
use Rattle.std.specs.Prelude.{Result, Ok, Err, is_none, slice_get, slice_index, if◌then◌else◌, count_by}
use Rattle.std.specs.List.{filter, filter_map, flat_map, fold, range_with_len, sum_by}
use Rattle.btr_chunk.specs.Chunk.{stripe_length, mirrors}
use Rattle.btr_chunk.specs.declared.chunk.Chunk.{Chunk}
use Rattle.btr_chunk.specs.declared.stripe.Stripe.{Stripe}
use Rattle.btr_prog.specs.Prog.{Run, exec, steps_of}
use Rattle.btr_rack.specs.Rack.{image_of}
use Rattle.btr_rack.specs.declared.place.Place.{Place as Range}
use Rattle.btr_read.specs.Candidates.{Target, range_on}
use Rattle.btr_read.specs.Fate as fate
use Rattle.btr_read.specs.Fate.{Fault, fate, sought}
use Rattle.btr_read.specs.Layout.{Layout, device_in}
use Rattle.btr_read.specs.declared.device.Member.{Member}
use Rattle.btr_read.specs.declared.want.Want.{Want}
use Rattle.btr_read.specs.declared.want.Want.TheVariants.{Plain}
use Rattle.btr_walk.specs.declared.fault.TreeFault.TheVariants as tree
use Rattle.btr_volume.specs.declared.stop.Stop.{Stop}
use Rattle.btr_volume.specs.declared.stop.Stop.TheVariants as stop
use Rattle.btr_scrub.specs.declared.tally.Tally.{Tally}
use Rattle.btr_scrub.specs.Filesystem.{Filesystem}
use Rattle.btr_scrub.specs.Doubts.{failing}
use Rattle.btr_scrub_copies.specs.Fresh.{Failing}
use Rattle.btr_scrub.specs.Units.{Met, Checked, Unchecked, units}
use Rattle.btr_scrub_copies.specs.Blocks.{is_lost}
pub use Rattle.btr_scrub_row.specs.Wanted.{is_checked}
use Rattle.btr_scrub_row.specs.Wanted.{mending_writes, wrong_parts}
use Rattle.btr_scrub_row.specs.Rows.{Row, parities, parity_writes, row_writes}
use Rattle.btr_scrub_copies.specs.Writes.{Write, write_on, writes_if}

-- a stripe has no place of its length on a device that is given
abbrev pub is_missing : List Member → ℕ → Stripe → Bool
is_missing devices len stripe = is_none (range_on stripe.offset len (device_in devices stripe.devid))

-- those of a chunk that have none
abbrev pub missing_stripes : List Member → Chunk → List Stripe
missing_stripes devices chunk = filter (is_missing devices (stripe_length chunk)) chunk.stripes

-- the first of all stripes, by chunk and then by its number there, that has none
abbrev pub first_missing : Layout → Option Stripe
first_missing layout = slice_get (flat_map (missing_stripes layout.devices) layout.chunks) 0

-- the device of a stripe
abbrev pub devid_of : Stripe → ℕ
devid_of stripe = stripe.devid

-- the value of an answer, if it is one
abbrev pub ok_or_none : {T E : Type 0} → Result T E → Option T
ok_or_none (Ok x) = Some x
ok_or_none (Err e) = None

-- where what was met lies, if it has a position
abbrev pub target_met : Layout → Met → Option Target
target_met layout (Checked want) = ok_or_none (sought layout want)
target_met layout (Unchecked addr) = ok_or_none (sought layout (Plain addr))

-- what was met is a sector without a checksum
abbrev pub is_unchecked : Met → Bool
is_unchecked (Checked want) = false
is_unchecked (Unchecked addr) = true

-- a block lies in a chunk
abbrev pub is_in_chunk : Chunk → Target → Bool
is_in_chunk chunk t = t.chunk.start == chunk.start

-- a block lies in a chunk, in the row of a number
abbrev pub is_in_row : Chunk → ℕ → Target → Bool
is_in_row chunk number t = is_in_chunk chunk t && (t.at.row == number)

-- the row of a number, with those of the blocks that lie in it
abbrev pub row_of : Failing → List Target → Chunk → ℕ → Row
row_of fails blocks chunk number = record { chunk = chunk; number = number; blocks = filter (is_in_row chunk number) blocks; failing = fails }

-- the full stripes of a chunk; with copies there are none
abbrev pub rows_in : Failing → List Target → Chunk → List Row
rows_in fails blocks chunk = if is_none (mirrors chunk) then map (row_of fails blocks chunk) (range_with_len 0 (stripe_length chunk / 65536)) else []

-- the byte at a place of a slot
abbrev pub byte_at : List (List ℕ) → ℕ → ℕ → ℕ
byte_at images slot off = slice_index (image_of images slot) off

-- a range has a byte
abbrev pub covers : ℕ → ℕ → Range → Bool
covers slot off range = (range.slot == slot) && nat_le range.off off && nat_lt off (range.off + range.len)

module _ (images : List (List ℕ)) (fs : Filesystem) where
  -- what is met on the way through a filesystem, and how it ends
  abbrev pub meeting : Run Want Fault Met (Unit {0})
  meeting = exec (fate images fs.layout) (units fs)

  -- what is met on the way through a filesystem, in order
  abbrev pub met : List Met
  met = steps_of meeting.marks

  -- the checked blocks and the plain sectors, in order, each with its position
  abbrev pub sites : List Target
  sites = filter_map (target_met fs.layout) met

  -- the checked blocks, each with its position
  abbrev pub blocks : List Target
  blocks = filter is_checked sites

  -- the images on which some checked block doesn't pass as scrub begins
  abbrev pub failed : Failing
  failed = failing images sites

  -- the full stripes that scrub looks at, chunk by chunk
  abbrev pub rows : List Row
  rows = flat_map (rows_in failed sites) fs.layout.chunks

  -- the writes in a chunk: one block or plain sector after another where there are copies, and full stripe by full stripe
  -- where there is parity
  abbrev pub chunk_writes : Chunk → List Write
  chunk_writes chunk =
      if is_none (mirrors chunk)
      then flat_map (row_writes images fs.layout) (rows_in failed sites chunk)
      else flat_map (mending_writes images failed) (filter (is_in_chunk chunk) sites)

  -- the writes in their order
  abbrev pub writes : List Write
  writes = flat_map chunk_writes fs.layout.chunks

  -- the images after all writes
  abbrev pub repaired : List (List ℕ)
  repaired = fold write_on images writes

  -- the ranges of all writes
  abbrev pub ranges : List Range
  ranges = map (λ (write : Write). write.range) writes

  -- the counts of scrub, which writes or only reads
  abbrev pub tally : Bool → Tally
  tally write = record {
    blocks = length blocks;
    bad = sum_by (λ t. length (wrong_parts images failed t)) sites;
    repaired = if write then sum_by (λ t. length (mending_writes images failed t)) sites else 0;
    lost = count_by (is_lost images) blocks;
    parity = sum_by (λ (row : Row). sum_by (λ part. length (parity_writes images fs.layout row part)) (parities row.chunk.profile)) rows;
    unchecked = count_by is_unchecked met;
  }

-- what a fault of the lookups is answered as
abbrev pub stop_of : Fault → Stop
stop_of (fate.NoTree id) = stop.NoTree id
stop_of (fate.Lost addr) = stop.Tree (tree.Lost addr)
stop_of (fate.Unmapped addr) = stop.Tree (tree.Unmapped addr)
stop_of (fate.Crosses addr) = stop.Tree (tree.Crosses addr)
stop_of (fate.Malformed addr) = stop.Tree (tree.Malformed addr)

-- a count, which stands still at its type's end
abbrev pub stood : ℕ → ℕ
stood n = min n (2 ^ 64 - 1)

-- counts each of which does
abbrev pub stood_tally : Tally → Tally
stood_tally t = record {
  blocks = stood t.blocks;
  bad = stood t.bad;
  repaired = stood t.repaired;
  lost = stood t.lost;
  parity = stood t.parity;
  unchecked = stood t.unchecked;
}

-- what scrub comes to: its answer, the writes that are made, and the images behind it
pub record Effect : Type 0 where
  pub answer : Result Tally Stop
  pub writes : List Write
  pub images : List (List ℕ)

-- the effect of a stop: nothing is written
abbrev pub refused_as : List (List ℕ) → Stop → Effect
refused_as images stop = record { answer = Err stop; writes = []; images = images }

-- the effect by how the way through a filesystem ended: the writes and their images, or a stop
abbrev pub effect_of_ending : Bool → List (List ℕ) → Filesystem → Result (Unit {0}) Fault → Effect
effect_of_ending write images fs (Ok _) =
    record {
      answer = Ok (stood_tally (tally images fs write));
      writes = writes_if write (writes images fs);
      images = if write then repaired images fs else images;
    }
effect_of_ending write images fs (Err fault) = refused_as images (stop_of fault)

-- the effect, unless a stripe has no device that is given
abbrev pub effect_unless : Bool → List (List ℕ) → Filesystem → Option Stripe → Effect
effect_unless write images fs (Some stripe) = refused_as images (stop.Missing stripe.devid)
effect_unless write images fs None = effect_of_ending write images fs (meeting images fs).ending

-- the effect of a scrub of a filesystem
abbrev pub effect : Bool → List (List ℕ) → Filesystem → Effect
effect write images fs = effect_unless write images fs (first_missing fs.layout)
