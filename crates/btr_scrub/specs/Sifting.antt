-- What is kept of the listed blocks: those for which something may have to be written, and of a full stripe all or none. The others have nothing to
-- write, whatever images fail, and fail on none; of them only their number is kept.
use Rattle.std.specs.Prelude.{◌≡◌, ◌≢◌, ℕ, ◌+◌, ◌≤◌, Bool, true, false, not, ◌&&◌, ◌||◌, List, [], ◌∷◌, ◌++◌, length, fold, nat_le, nat_lt, Option, Some}
use Rattle.std.specs.Prelude.{None, is_none, IfSome, IsSome, Result, Ok, Err, count_by, if◌then◌else◌}
use Rattle.std.specs.List.{filter, list_any}
use Rattle.std.specs.Option.{option_map_or}
use Rattle.btr_chunk.specs.Chunk.{mirrors}
use Rattle.btr_chunk.specs.Table.{IsTable}
use Rattle.btr_read.specs.Candidates.{Target}
use Rattle.btr_read.specs.Fate.{is_plain, sought}
use Rattle.btr_read.specs.Layout.{Layout}
use Rattle.btr_read.specs.declared.want.Want.{Want}
use Rattle.btr_scrub_copies.specs.Blocks.{bad_parts, is_lost}
use Rattle.btr_scrub_copies.specs.Fresh.{flagged}
use Rattle.btr_scrub_copies.specs.Writes.{Images, FailsAt}
use Rattle.btr_scrub_row.specs.Mending.{mended_row}
use Rattle.btr_scrub_row.specs.Rows.{Row}
use Rattle.btr_scrub_row.specs.Wanted.{is_checked}
use Rattle.btr_scrub_row.specs.declared.mended.MendedRow.{MendedRow}
use Rattle.btr_read.specs.Want.{addr_of}
use Rattle.btr_scrub.specs.BlocksInRows.{In}
use Rattle.btr_scrub.specs.Judged.{has_older}
use Rattle.btr_scrub.specs.Order.{AreBetween, AreUpTo, targets}
use Rattle.btr_scrub.specs.Repair.{ok_or_none, row_of, stood}
use Rattle.btr_scrub.specs.Scrubbing.{HasRooms}
use Rattle.btr_scrub.specs.Whole.{first_tally, listed_count_for, listed_writes_for}
use Rattle.btr_rack.specs.Rack.{OnlyReads, Seen}
use Rattle.btr_read.specs.Serves.{Serves}
use Rattle.btr_volume.specs.Looking.{SameVolume}
use Rattle.btr_volume.specs.declared.stop.Stop.{Stop}
use Rattle.btr_volume.specs.declared.stop.Stop.TheVariants as stop
use Rattle.btr_volume.specs.declared.volume.Volume.{Volume}
use Rattle.btr_walk.specs.declared.fault.TreeFault.{TreeFault}
use Rattle.btr_prog.specs.Answers.{Follows, no_part}
use Rattle.btr_prog.specs.Prog.{exec}
use Rattle.btr_walk.specs.Reading.{Tells, unread_by}
use Rattle.btr_scrub.specs.Gathering.{Gathers, Scene, StopCause, count_met, scene, wants_among}
use Rattle.btr_scrub.specs.Judging.{IsFirstRefused}
use Rattle.btr_scrub.specs.WrittenRanges.{LiesInStripe}
use Rattle.btr_scrub.specs.Listed.{IsList, kept_wants}
use Rattle.btr_scrub.specs.Units.{Meeting, Met}
use Rattle.btr_scrub.specs.declared.extent.Span.{Span}
use Rattle.btr_scrub.specs.declared.gathered.Gathered.{Gathered}
use Rattle.btr_scrub.specs.declared.sieve.Sieve.{Sieve}
use Rattle.btr_scrub.specs.declared.sifted.Sifted.{Sifted}
use Rattle.btr_scrub.specs.declared.tally.Tally.{Tally}
use Rattle.btr_volume.specs.Stops.{stop_halt}

-- a block isn't sound: one of its copies is bad, or all are lost
abbrev pub is_unsound : Images → Target → Bool
is_unsound images t = nat_lt 0 (length (bad_parts images t)) || is_lost images t

-- something may have to be written for a block of a chunk with copies: it isn't sound, or is a plain sector and an image of the chunk is older
abbrev pub is_copy_needed : Images → Layout → Target → Bool
is_copy_needed images layout t = if is_plain t.want then has_older layout.devices t.chunk else is_unsound images t

-- something in a full stripe is wrong: a block is bad or lost, or a sector of a parity differs
abbrev pub is_troubled : MendedRow → Bool
is_troubled mended = (nat_lt 0 mended.bad || nat_lt 0 mended.lost) || nat_lt 0 mended.parity

-- something may have to be written in a full stripe: a plain sector lies in it, or something in it is wrong
abbrev pub is_row_needed : Images → Layout → Row → Bool
is_row_needed images layout row = list_any (λ t. is_plain t.want) row.blocks || is_troubled (mended_row images layout row false)

-- how many checked blocks it has, if nothing may have to be written in it
abbrev pub sound_in : Images → Layout → Row → Option ℕ
sound_in images layout row = if is_row_needed images layout row then None else Some (count_by is_checked row.blocks)

-- the full stripe of a block, with those of some blocks that lie in it, beside no image that fails
abbrev pub row_among : List Target → Target → Row
row_among ts t = row_of (flagged []) ts t.chunk t.at.row

-- something may have to be written for a block that is listed with others; with parity that hangs on the whole full stripe
abbrev pub is_needed : Images → Layout → List Target → Target → Bool
is_needed images layout ts t = if is_none (mirrors t.chunk) then is_row_needed images layout (row_among ts t) else is_copy_needed images layout t

-- the same of a want; without a position it is kept
abbrev pub needs : Images → Layout → List Target → Want → Bool
needs images layout ts want = option_map_or (is_needed images layout ts) (ok_or_none (sought layout want)) true

-- those that are kept of some wants
abbrev pub kept_of : Images → Layout → List Want → List Want
kept_of images layout wants = filter (needs images layout (targets layout wants)) wants

-- a block is checked, and isn't kept
abbrev pub is_left_out : Images → Layout → List Target → Target → Bool
is_left_out images layout ts t = is_checked t && not (is_needed images layout ts t)

-- how many are so
abbrev pub left_out : Images → Layout → List Want → ℕ
left_out images layout wants = count_by (is_left_out images layout (targets layout wants)) (targets layout wants)

-- no block of one list lies in a full stripe in which one of another lies
abbrev pub ShareNoRow : Layout → List Want → List Want → Type 0
ShareNoRow layout xs ys = (t u : Target) → In t (targets layout xs) → In u (targets layout ys) → t.chunk ≡ u.chunk → mirrors t.chunk ≡ None
    → t.at.row ≢ u.at.row

-- the counts of so many checked blocks that are sound, and so many sectors without a checksum
abbrev pub begun : ℕ → ℕ → Tally
begun sound unchecked = record { blocks = sound; bad = 0; repaired = 0; lost = 0; parity = 0; unchecked = unchecked }

-- the writes for those that are kept are the writes for all
abbrev pub KeptWrites : Type 0
KeptWrites = (images : Images) (layout : Layout) (wants : List Want) → IsTable layout.chunks
    → listed_writes_for layout (kept_of images layout wants) images ≡ listed_writes_for layout wants images

-- the counts of those that are kept, begun with the others, are the counts of all
abbrev pub KeptCounts : Type 0
KeptCounts = (images : Images) (layout : Layout) (write : Bool) (wants : List Want) (unchecked : ℕ) → IsTable layout.chunks
    → listed_count_for layout write (kept_of images layout wants) images (begun (stood (left_out images layout wants)) (stood unchecked))
    ≡ listed_count_for layout write wants images (first_tally (stood unchecked))

-- blocks can be sifted: there is a list to put them into, the size of a tree block, and memory for each full stripe
pub record CanSift (layout : Layout) (sifted : Sifted) : Type 0 where
  pub is_list : IsList sifted.kept
  pub nodesize : sifted.nodesize ≡ layout.setting.nodesize
  pub large : 4096 ≤ sifted.nodesize
  pub rooms : HasRooms layout sifted.room.buffer

-- blocks were sifted: some of them were put behind those that were kept before. They lie as far apart as all do; where
-- the images are told they are those that are needed, and the others were counted.
pub record Sifts (layout : Layout) (held : Option Images) (wants : List Want) (old new : Sifted) : Type 0 where
  pub can : CanSift layout new
  pub kind : new.kept.kind ≡ old.kept.kind
  pub more : List Want
  pub wants_are : kept_wants new.kept ≡ kept_wants old.kept ++ more
  pub within : (from to : ℕ) → AreBetween layout from to wants → AreBetween layout from to more
  pub needed : IfSome held (λ images. more ≡ kept_of images layout wants)
  pub sound : IfSome held (λ images. (n : ℕ) → old.sound ≡ stood n → new.sound ≡ stood (n + left_out images layout wants))

-- a reader passes over plain sectors behind a block, all of which lie in chunks with copies and without an older image
pub record PassesInert (layout : Layout) (want : Want) (old new : List Want) : Type 0 where
  pub past : List Want
  pub split : old ≡ past ++ new
  pub plain : (w : Want) → In w past → is_plain w ≡ true
  pub inert : (w : Want) (t : Target) → In w past → addr_of want ≤ addr_of w → sought layout w ≡ Ok t → IsSome (mirrors t.chunk) ×
      (has_older layout.devices t.chunk ≡ false)

-- a block was sifted, with those that a reader had next and that are judged with it; none of those left lies in a full stripe of them
pub record SiftsNext (layout : Layout) (held : Option Images) (want : Want) (old new : List Want) (before after : Sifted) : Type 0 where
  pub more : List Want
  pub split : old ≡ more ++ new
  pub sifts : Sifts layout held (want ∷ more) before after
  pub rows : ShareNoRow layout (want ∷ more) new

-- blocks that were listed were sifted, all of them, from the first one on; they lie one behind another up to an address
pub record AreSifted (layout : Layout) (held : Option Images) (wants : List Want) (sieve : Sieve) : Type 0 where
  pub apart : AreUpTo layout 0 sieve.end wants
  pub kept_apart : AreBetween layout 0 sieve.end (kept_wants sieve.sifted.kept)
  pub needed : IfSome held (λ images. kept_wants sieve.sifted.kept ≡ kept_of images layout wants)
  pub sound : IfSome held (λ images. sieve.sifted.sound ≡ stood (left_out images layout wants))

-- what became of the blocks so far: all were sifted, or one was refused
abbrev pub Judges : Layout → Option Images → List Want → Sieve → Option TreeFault → Type 0
Judges layout held wants sieve None = AreSifted layout held wants sieve
Judges layout held wants sieve (Some fault) = IsFirstRefused layout 0 wants fault

-- a list has the blocks of one, and behind them those of another, which counted on
pub record ContinuesList (whole more after : Gathered) : Type 0 where
  pub is_list : IsList after.list
  pub kind : after.list.kind ≡ whole.list.kind
  pub wants : kept_wants after.list ≡ kept_wants whole.list ++ kept_wants more.list
  pub unchecked : after.unchecked ≡ more.unchecked

-- a sieve has what is kept of a list
pub record HasKeptOf (layout : Layout) (held : Option Images) (whole : Gathered) (sieve : Sieve) : Type 0 where
  pub is_whole : IsList whole.list
  pub can : CanSift layout sieve.sifted
  pub kind : sieve.sifted.kept.kind ≡ whole.list.kind
  pub unchecked : sieve.unchecked ≡ whole.unchecked
  pub judged : Judges layout held (kept_wants whole.list) sieve sieve.refused

-- The blocks of a list, the last of which ends at an address, lie in a span: the first doesn't begin before it, and the last
-- ends in it. That is enough where each begins at or behind the end of the one before.
abbrev pub lies_in : List Want → Span → ℕ → Bool
lies_in [] span end = true
lies_in (want ∷ wants) span end = nat_le span.start (addr_of want) && nat_le end (span.start + span.length)

-- a list was sifted behind those before, whatever these are; or it doesn't lie in a span
abbrev pub WentIn : Layout → Option Images → Gathered → Span → Sieve → Sieve → Bool → Type 0
WentIn layout held more span old new true =
    (whole after : Gathered) → HasKeptOf layout held whole old → ContinuesList whole more after → HasKeptOf layout held after new
WentIn layout held more span old new false = AreBetween layout span.start (span.start + span.length) (kept_wants more.list) → ⊥

-- behind some reads one in a stripe of a chunk failed, and it was the last call
pub record ImageFails (layout : Layout) (slot : ℕ) (old new : Seen) : Type 0 where
  pub mid : Seen
  pub before : OnlyReads old mid
  pub reads : OnlyReads mid new
  pub failed : FailsAt (LiesInStripe layout) slot mid new

-- what a program met was listed and sifted, and it ended with this answer; or an image failed
abbrev pub Went : {A : Type 0} → Meeting A → Scene → Seen → Volume → Sieve → Result A Stop → Type 0
Went p x rack vol sieve (Ok a) = (whole : Gathered) × Gathers p x (scene rack vol whole) (Ok a) × HasKeptOf x.vol.store.layout rack.held whole sieve
Went p x rack vol sieve (Err (stop.Image slot)) = ImageFails x.vol.store.layout slot x.rack rack
Went p x rack vol sieve (Err why) = (whole : Gathered) × Gathers p x (scene rack vol whole) (Err why)

-- The blocks that a program meets were listed and sifted, behind a list. It was only read.
pub record Sieves {A : Type 0} (p : Meeting A) (x : Scene) (rack : Seen) (vol : Volume) (sieve : Sieve) (answer : Result A Stop) : Type 0 where
  pub reads : OnlyReads x.rack rack
  pub volume : SameVolume x.vol vol
  pub serves : Serves rack vol.store
  pub went : Went p x rack vol sieve answer

-- what is kept of blocks that were met, and how many sectors without a checksum were among them
pub record HasSifted (layout : Layout) (held : Option Images) (sieve : Sieve) (done : List Met) : Type 0 where
  pub can : CanSift layout sieve.sifted
  pub unchecked : sieve.unchecked ≡ fold count_met 0 done
  pub judged : Judges layout held (wants_among done) sieve sieve.refused

-- what a program met was listed and sifted, and it ended with this answer; or an image failed
abbrev pub SiftsUnits : Meeting (Unit {0}) → Layout → Seen → Seen → Result Sieve Stop → Type 0
SiftsUnits p layout old new (Ok sieve) = (done : List Met) × HasSifted layout new.held sieve done
    × Tells layout old new (λ B. Follows (unread_by layout old new) no_part [] (exec B p) done (Ok tt))
SiftsUnits p layout old new (Err (stop.Image slot)) = ImageFails layout slot old new
SiftsUnits p layout old new (Err why) = (done : List Met)
    × Tells layout old new (λ B. Follows (unread_by layout old new) no_part [] (exec B p) done (Err (stop_halt why))) × StopCause {A = Tally} layout old new
    (Err why)
