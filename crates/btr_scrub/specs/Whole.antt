-- What a call of scrub did, whatever failed.
use Rattle.std.specs.Prelude.{◌≡◌, ℕ, Bool, List, [], fold, map, Some, None, Result, Ok, Err}
use Rattle.btr_prog.specs.Answers.{Follows, no_part}
use Rattle.btr_prog.specs.Prog.{exec}
use Rattle.btr_rack.specs.Rack.{OnlyReads, Seen}
use Rattle.btr_read.specs.Layout.{HaveOwnSlots, Layout}
use Rattle.btr_read.specs.declared.want.Want.{Want}
use Rattle.btr_super.specs.declared.superblock.Super.{Super}
use Rattle.btr_walk.specs.Reading.{Tells, unread_by}
use Rattle.btr_walk.specs.declared.fault.TreeFault.{TreeFault}
use Rattle.btr_volume.specs.declared.stop.Stop.{Stop}
use Rattle.btr_volume.specs.declared.stop.Stop.TheVariants as stop
use Rattle.btr_scrub_copies.specs.declared.mended.MendFault.{MendFault}
use Rattle.btr_scrub_copies.specs.declared.mended.MendFault.TheVariants.{Image, Memory}
use Rattle.btr_scrub.specs.Gathering.{StopCause, wants_among, count_met}
use Rattle.btr_scrub_copies.specs.Writes.{FailsAt, Images, Write}
use Rattle.btr_scrub.specs.Filesystem.{Filesystem}
use Rattle.btr_scrub.specs.Judging.{IsFirstRefused}
use Rattle.btr_chunk.specs.Table.{IsTable}
use Rattle.btr_chunk.specs.declared.stripe.Stripe.{Stripe}
use Rattle.btr_scrub.specs.Devices.{HaveLengths}
use Rattle.btr_scrub.specs.WrittenRanges.{KeepsOutside, LiesInStripe}
use Rattle.btr_scrub.specs.Doubts.{failing}
use Rattle.btr_scrub.specs.Order.{targets}
use Rattle.btr_scrub_copies.specs.Fresh.{Failing}
use Rattle.btr_scrub.specs.Repair.{first_missing, met, stood_tally, tally, writes}
use Rattle.btr_scrub.specs.Scrubbing.{Works, all_count_for, all_writes_for}
use Rattle.btr_scrub.specs.Units.{Met, units_in}
use Rattle.btr_scrub.specs.declared.tally.Tally.{Tally}
use Rattle.btr_volume.specs.Stops.{stop_halt}

-- the counts before the first block
abbrev pub first_tally : ℕ → Tally
first_tally unchecked = record { blocks = 0; bad = 0; repaired = 0; lost = 0; parity = 0; unchecked = unchecked }

-- what the end of all work is answered as
abbrev pub answer_of : Result (Unit {0}) MendFault → Tally → Result Tally Stop
answer_of (Ok u) tally = Ok tally
answer_of (Err (Image slot)) tally = Err (stop.Image slot)
answer_of (Err Memory) tally = Err stop.Memory

-- the images on which some listed block doesn't pass
abbrev pub listed_failing : Layout → List Want → Images → Failing
listed_failing layout wants images = failing images (targets layout wants)

-- the writes for listed blocks
abbrev pub listed_writes_for : Layout → List Want → Images → List Write
listed_writes_for layout wants images = all_writes_for (listed_failing layout wants images) layout layout.chunks wants images

-- the counts of the mending of listed blocks, with writes or without
abbrev pub listed_count_for : Layout → Bool → List Want → Images → Tally → Tally
listed_count_for layout write wants images tally = all_count_for (listed_failing layout wants images) layout write layout.chunks wants images tally

-- a stripe has no place on a device that is given: its device is the answer, and nothing was done
abbrev pub Refuses : Seen → Seen → Result Tally Stop → Stripe → Type 0
Refuses old new result stripe = (result ≡ Err (stop.Missing stripe.devid)) × (new ≡ old)

-- the blocks of a list were mended, chunk by chunk, and counted from some counts on: exactly the writes that follow from
-- what the images held, or those up to a call that failed
pub record WorksFrom (layout : Layout) (write : Bool) (wants : List Want) (start : Tally) (old new : Seen) (result : Result Tally Stop) : Type 0 where
  pub tally : Tally
  pub ended : Result (Unit {0}) MendFault
  pub works : Works layout write (listed_writes_for layout wants) (listed_count_for layout write wants) old new start tally ended
  pub says : result ≡ answer_of ended tally

-- the same from no counts but that of the sectors without a checksum
abbrev pub WorksOn : Layout → Bool → List Want → ℕ → Seen → Seen → Result Tally Stop → Type 0
WorksOn layout write wants unchecked old new result = WorksFrom layout write wants (first_tally unchecked) old new result

-- what became of the list of the checked blocks: it came to a stop, it was made, it was refused as
-- blocks in it have no position or overlap, or an image failed as those listed so far were looked at
pub data Listing : Type 0 where
  Stopped : Stop → Listing
  Listed : Listing
  Refused : TreeFault → Listing
  Failed : ℕ → Listing

-- what the call comes to by its list: one that isn't made or is refused is the answer, and so is an image that failed
-- before; nothing is written then. It is never refused so far as its reads were steady.
abbrev pub Goes : Super → Layout → Bool → Seen → Seen → Seen → List Met → Result Tally Stop → Listing → Type 0
Goes s layout write old mid new done result (Stopped why) =
    (result ≡ Err why) × (new ≡ mid) × Tells layout old mid (λ B. Follows (unread_by layout old mid) no_part [] (exec B (units_in s layout.chunks)) done
    (Err (stop_halt why))) × StopCause {A = Tally} layout old mid (Err why)
Goes s layout write old mid new done result Listed =
    Tells layout old mid (λ B. Follows (unread_by layout old mid) no_part [] (exec B (units_in s layout.chunks)) done (Ok tt))
    × WorksOn layout write (wants_among done) (fold count_met 0 done) mid new result
Goes s layout write old mid new done result (Failed slot) = (result ≡ Err (stop.Image slot)) × OnlyReads mid new × FailsAt (LiesInStripe layout) slot mid new
Goes s layout write old mid new done result (Refused fault) =
    (result ≡ Err (stop.Tree fault)) × (new ≡ mid) × IsFirstRefused layout 0 (wants_among done) fault × Tells layout old mid (λ B. ⊥)

-- The checked blocks were listed, and then mended.
pub record ScrubsAll (s : Super) (layout : Layout) (write : Bool) (old new : Seen) (result : Result Tally Stop) : Type 0 where
  pub mid : Seen
  pub reads : OnlyReads old mid
  pub done : List Met
  pub listing : Listing
  pub goes : Goes s layout write old mid new done result listing

-- the writes for a list of all blocks that are met are those that mend the filesystem
abbrev pub ListedWrites : Type 0
ListedWrites = (images : Images) (fs : Filesystem)
    → listed_writes_for fs.layout (wants_among (met images fs)) images ≡ writes images fs

-- the counts for a list of all blocks that are met are the tally of the repair,
-- but that each stands still at its type's end
abbrev pub ListedCounts : Type 0
ListedCounts = (images : Images) (fs : Filesystem) (write : Bool) → IsTable fs.layout.chunks
    → listed_count_for fs.layout write (wants_among (met images fs)) images (first_tally (fold count_met 0 (met images fs)))
    ≡ stood_tally (tally images fs write)

-- whatever failed, all that lies outside the ranges of those writes is as before
abbrev pub WorksKeepTheRest : Type 0
WorksKeepTheRest = (layout : Layout) (write : Bool) (wants : List Want) (count : Images → Tally → Tally) (old new : Seen) (t u : Tally)
    (result : Result (Unit {0}) MendFault) (images left : Images)
    → IsTable layout.chunks → HaveOwnSlots layout.devices → first_missing layout ≡ None → HaveLengths images layout
    → old.held ≡ Some images → new.held ≡ Some left
    → Works layout write (listed_writes_for layout wants) count old new t u result
    → KeepsOutside (map (λ (write : Write). write.range) (listed_writes_for layout wants images)) images left
