-- What a scrub that writes leaves of the images.
use Rattle.std.specs.Prelude.{◌≡◌, ◌≢◌, ◌⊎◌, ℕ, ◌≤◌, Bool, true, List, [], drop, length, map, All}
use Rattle.std.specs.Prelude.{Option, Some, IfErr, IfSome, Result, Ok, Err}
use Rattle.btr_scrub_copies.specs.Turns.{WaitsAt}
use Rattle.btr_scrub_copies.specs.Writes.{IsStopped}
use Rattle.btr_rack.specs.Rack.{OnlyReads, Rose, Seen, Shelf, Slot, Steady}
use Rattle.btr_read.specs.Layout.{Layout}
use Rattle.btr_scrub.specs.WrittenRanges.{WaitsInOne}
use Rattle.btr_scrub.specs.Right.{Committed, IsCommitted, SparedStand}
use Rattle.btr_scrub.specs.declared.tally.Tally.{Tally}
use Rattle.btr_volume.specs.Start.{Images}
use Rattle.btr_run.specs.Unopened.{AreAgreed}
use Rattle.btr_run.specs.Answers.{error_line}
use Rattle.btr_run.specs.Behind.{IfSteady, IsFault, IsLayoutOf}
use Rattle.btr_run.specs.Checked.{found}
use Rattle.btr_run.specs.Commands.{IsBehindCommand, opens_to_write}
use Rattle.btr_run.specs.Filesystem.{Filesystem, filesystem_of}
use Rattle.btr_run.specs.Images.{most_images, taken}
use Rattle.btr_run.specs.Opening.{IsOpened}
use Rattle.btr_run.specs.Outcomes.{IsNoFault, refused, showing}
use Rattle.btr_run.specs.Scrubbed.{filesystem_as, mending_writes, scrub_outcome, scrubbed_images}
use Rattle.btr_run.specs.Scrubbed.{tally_shown}
use Rattle.btr_run.specs.Words.{Words, IsSentence, images_of}
use Rattle.btr_run.specs.declared.answer.Answer.{Answer}
use Rattle.btr_run.specs.declared.answer.Answer.TheVariants.{ImageFault, Memory}
use Rattle.btr_run.specs.declared.plan.Command.TheVariants.{Scrub}
use Rattle.btr_run.specs.declared.plan.Plan.{Plan}

-- the words ask for a command that writes into the images
abbrev pub AsksToWrite : Words → Type 0
AsksToWrite words = (plan : Plan) × IsSentence plan words × (opens_to_write plan.command ≡ true)

-- the words ask for a scrub that writes of these images of a shelf
pub record ScrubsFrom (words : Words) (shelf : Shelf) (images : Images) : Type 0 where
  pub first : ℕ
  pub sentence : IsSentence (record { command = Scrub true; images = first }) words
  pub few : length (drop first words) ≤ most_images
  pub from : taken (drop first words) shelf ≡ Some images

-- of such a scrub the images are those with the writes done that mend their filesystem
abbrev pub KeepsRepair : Words → Shelf → Option Images → Type 0
KeepsRepair words shelf held =
    (images : Images) → ScrubsFrom words shelf images → held ≡ Some (scrubbed_images images)

-- an answer behind which images may have been written: all was done, or an image, the sink
-- or the output failed, or memory was wanted
abbrev pub MayWrite : Answer → Type 0
MayWrite answer = IsFault answer ⊎ ((lost : ℕ) × (answer ≡ found lost))

-- of what was committed each checked block that can be spared can be had from what is left
abbrev pub KeepsBlocks : Images → Images → Type 0
KeepsBlocks images left =
    (fs : Filesystem) (C : Committed) → filesystem_of images ≡ Ok fs
    → IsCommitted images (filesystem_as fs) C
    → SparedStand images left (filesystem_as fs) C

-- What stands in the images, by the answer. Where no call failed, or where the copies agree,
-- whatever failed: the writes that mend the filesystem up to one of them, which stands perhaps in
-- part; all of them behind a scrub that was finished; and, wherever it stopped, each checked block
-- that can be spared can be had. Any answer but those of `MayWrite` leaves each byte.
pub record LeavesImages (unfailing : Type 0) (images left : Images) (answer : Answer) : Type 0 where
  pub stopped : unfailing ⊎ AreAgreed images → IsStopped (mending_writes images) images left
  pub finished : (lost : ℕ) → answer ≡ found lost → unfailing ⊎ AreAgreed images
      → left ≡ scrubbed_images images
  pub unchanged : (left ≡ images) ⊎ MayWrite answer
  pub safe : unfailing ⊎ AreAgreed images → (left ≡ images) ⊎ KeepsBlocks images left

-- the open images were opened to be written, and so they stand, where the rack tells it
abbrev pub AreLeft : Type 0 → Option Shelf → List Slot → Option Images → Answer → Type 0
AreLeft unfailing shelf slots held answer =
    All (λ (s : Slot). s.write ≡ true) slots
    × IfSome shelf (λ at. IfSome held (λ left. (images : Images)
    × (taken (map (λ s. s.name) slots) at ≡ Some images) × LeavesImages unfailing images left answer))

-- what waits for a sync waited before
abbrev pub WaitedBefore : Seen → Seen → Type 0
WaitedBefore old new = WaitsAt (λ range. ⊥) old new

-- What waits for a sync waited before, or all that didn't lies in stripes of one chunk, by a layout
-- of these images that was read before anything was written; where an image failed, before that
-- call.
pub record WaitsInChunk (old new : Seen) (answer : Answer) : Type 0 where
  pub mid : Seen
  pub reads : OnlyReads old mid
  pub later : mid.account.faults ≤ new.account.faults
  pub since : (slot : ℕ) → answer ≡ ImageFault slot → Rose mid.account.faults new.account.faults
  pub layout : Layout
  pub is : IsLayoutOf old mid layout
  pub waits : WaitsInOne layout mid new

-- what a scrub that writes leaves over opened images: the writes that mend them, or a first part of
-- these; nothing waits for a sync behind one that was finished, and else what lies in one chunk
pub record LeavesScrubbed (old new : Seen) (answer : Answer) : Type 0 where
  pub repaired : IfSteady old.held old.account new.account (λ images.
      answer ≢ Memory → new.held ≡ Some (scrubbed_images images))
  pub left : IfSome old.held (λ images. IfSome new.held (λ left.
      LeavesImages (Steady old.account.faults new.account.faults) images left answer))
  pub synced : (lost : ℕ) → answer ≡ found lost → old.unsynced ≡ [] → new.unsynced ≡ []
  pub waits : old.unsynced ≡ [] → WaitedBefore old new ⊎ WaitsInChunk old new answer

-- the words are a sentence, and what waits for a sync behind it waited before, or lies in one chunk
-- of the images that they name
pub record NamesChunk (words : Words) (old new : Seen) (answer : Answer) : Type 0 where
  pub plan : Plan
  pub sentence : IsSentence plan words
  pub opened : Seen
  pub is : IsOpened (images_of plan words) old opened
  pub waits : WaitsInChunk opened new answer

-- what a scrub came to over the images: its counts; or its refusal, which changes no byte; or want
-- of memory
abbrev pub ScrubsTo : Bool → Images → Result Tally Answer → Type 0
ScrubsTo write images (Ok tally) = scrub_outcome write images ≡ showing (tally_shown tally)
ScrubsTo write images (Err answer) =
    ((scrub_outcome write images ≡ refused answer) × (scrubbed_images images ≡ images))
    ⊎ (answer ≡ Memory)

-- a refusal is no fault of the output or of the sink, and has a line
pub record IsBare (answer : Answer) : Type 0 where
  pub no_fault : IsNoFault answer
  pub line : (error_line answer ≡ []) → ⊥

-- the answer by the counts of a scrub, or by its refusal
abbrev pub tally_answer : Result Tally Answer → Answer
tally_answer (Ok tally) = found tally.lost
tally_answer (Err answer) = answer

-- a scrub was done, up to its line
pub record Scrubs (write : Bool) (old new : Seen) (result : Result Tally Answer) : Type 0 where
  pub content : IfSteady old.held old.account new.account (λ images. ScrubsTo write images result)
  pub bare : IfErr result IsBare
  pub behind : IsBehindCommand (Scrub write) old new (tally_answer result)
  pub leaves : write ≡ true → LeavesScrubbed old new (tally_answer result)
