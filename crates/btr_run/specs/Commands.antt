-- The commands: one case each.
use Rattle.std.specs.Prelude.{◌≡◌, ◌≢◌, ◌⊎◌, ℕ, ◌≤◌, Bool, false, List, Option, Some, None}
use Rattle.btr_rack.specs.Out.{CallAccount}
use Rattle.btr_rack.specs.Rack.{NoneFailed, OnlyReads, Rose, Seen}
use Rattle.btr_rack.specs.declared.place.Place.{Place as Range}
use Rattle.btr_read.specs.Layout.{Layout}
use Rattle.btr_scrub.specs.Scrubbing.{IsOfScrub}
use Rattle.btr_volume.specs.Opening.{SuperUnread}
use Rattle.btr_volume.specs.declared.which.Which.TheVariants.{Images as images_limit}
use Rattle.btr_walk.specs.Reading.{FaultCause}
use Rattle.btr_walk.specs.declared.fault.TreeFault.{TreeFault}
use Rattle.btr_run.specs.Behind.{AnyFault, IsFault, IsLayoutOf, IsNoCrossing, IsUnread}
use Rattle.btr_run.specs.Checked.{check_outcome, IsCheckOutcome}
use Rattle.btr_run.specs.Filesystem.{MayMend}
use Rattle.btr_run.specs.Newest.{super_outcome, IsSuperOutcome}
use Rattle.btr_run.specs.Outcomes.{Outcome}
use Rattle.btr_run.specs.Queries.{IsQueryFit, query_row}
use Rattle.btr_run.specs.Rows.{row_outcome}
use Rattle.btr_run.specs.Faults.{tree_answer}
use Rattle.btr_run.specs.Scrubbed.{scrub_outcome, IsScrubOutcome}
use Rattle.btr_run.specs.SelfTested.{IsTrialOutcome}
use Rattle.btr_run.specs.Words.{Words}
use Rattle.btr_run.specs.declared.answer.Answer.{Answer}
use Rattle.btr_run.specs.declared.answer.Answer.TheVariants.{Usage, Limit, ImageFault}
use Rattle.btr_run.specs.declared.plan.Command.{Command}
use Rattle.btr_run.specs.declared.plan.Command.TheVariants.{Super, Ask, Check, Scrub, SelfTest}

-- what a command of some words comes to over the bytes of its images; a self-test has none
abbrev pub command_outcome : Command → Words → List (List ℕ) → Option Outcome
command_outcome Super words images = super_outcome images
command_outcome (Ask query) words images = Some (row_outcome (query_row query words) images)
command_outcome (Check read_data) words images = Some (check_outcome read_data images)
command_outcome (Scrub write) words images = Some (scrub_outcome write images)
command_outcome (SelfTest number) words images = None

-- what a command may come to whatever its images hold, and whatever fails, beside refusals before
-- anything else
abbrev pub MayCome : Command → Words → Outcome → Type 0
MayCome Super words outcome = IsSuperOutcome outcome
MayCome (Ask query) words outcome = (query_row query words).MayBe outcome
MayCome (Check read_data) words outcome = IsCheckOutcome outcome
MayCome (Scrub write) words outcome = IsScrubOutcome outcome
MayCome (SelfTest number) words outcome = IsTrialOutcome number outcome

-- what a command may answer behind a failed call on an image, beside a fault
abbrev pub MayFail : Command → Answer → Type 0
MayFail Super answer = ⊥
MayFail (Ask query) answer = MayMend answer
MayFail (Check read_data) answer = MayMend answer
MayFail (Scrub write) answer = MayMend answer
MayFail (SelfTest number) answer = ⊥

-- the faults of trees whose cause a command tells: a check goes on behind all but a block that
-- could not be read, and keeps only where they were; a scrub also answers an extent that crosses
abbrev pub TellsCause : Command → TreeFault → Type 0
TellsCause Super fault = AnyFault fault
TellsCause (Ask query) fault = AnyFault fault
TellsCause (Check read_data) fault = IsUnread fault
TellsCause (Scrub write) fault = IsNoCrossing fault
TellsCause (SelfTest number) fault = AnyFault fault

-- a command may want memory on its way: where the output does, or as a query says, or for a volume
abbrev pub MayWant : Command → Words → CallAccount → Type 0
MayWant Super words out = out.ample ≡ false
MayWant (Ask query) words out = (query_row query words).MayWant out
MayWant (Check read_data) words out = out.ample ≡ false
MayWant (Scrub write) words out = out.ample ≡ false
MayWant (SelfTest number) words out = Unit {0}

-- a command that calls the sink: a query that does
abbrev pub CallsSink : Command → Words → Type 0
CallsSink Super words = ⊥
CallsSink (Ask query) words = (query_row query words).CallsSink
CallsSink (Check read_data) words = ⊥
CallsSink (Scrub write) words = ⊥
CallsSink (SelfTest number) words = ⊥

-- what a command asks for of its words: what a query does, and that a volume can be made
abbrev pub IsFit : Command → Words → Type 0
IsFit Super words = Unit {0}
IsFit (Ask query) words = IsQueryFit query words
IsFit (Check read_data) words = Unit {0}
IsFit (Scrub write) words = Unit {0}
IsFit (SelfTest number) words = (1 ≤ number) × (number ≤ 1000)

-- whether a command writes into the images, which are opened for it then
abbrev pub opens_to_write : Command → Bool
opens_to_write Super = false
opens_to_write (Ask query) = false
opens_to_write (Check read_data) = false
opens_to_write (Scrub write) = write
opens_to_write (SelfTest number) = false

-- the command that scrubs
abbrev pub IsScrub : Command → Type 0
IsScrub Super = ⊥
IsScrub (Ask query) = ⊥
IsScrub (Check read_data) = ⊥
IsScrub (Scrub write) = Unit {0}
IsScrub (SelfTest number) = ⊥

-- a read, a write or a sync of a scrub failed on an image, of a rack that isn't sure: this was the
-- last failed call
pub record IsUnmended (layout : Layout) (old new : Seen) (slot : ℕ) : Type 0 where
  pub place : Range
  pub of_scrub : IsOfScrub layout place
  pub on_slot : place.slot ≡ slot
  pub unsure : old.sure ≡ false
  pub last : new.account.last ≡ place
  pub no_opening : new.account.opening ≡ None
  pub faults : Rose old.account.faults new.account.faults
  pub fresh : 1 ≤ new.account.fresh
  pub shut : new.account.shut ≡ old.account.shut

-- a call of a scrub failed so, after the images were only read, and by a layout of these images
-- that was read by then
pub record ScrubFails (old new : Seen) (slot : ℕ) : Type 0 where
  pub mid : Seen
  pub reads : OnlyReads old mid
  pub layout : Layout
  pub is : IsLayoutOf old mid layout
  pub failed : IsUnmended layout mid new slot

-- why a command answers that an image failed: a read of its superblock did, or a call of a scrub
abbrev pub ImageFails : Command → Seen → Seen → ℕ → Type 0
ImageFails command old new slot =
    SuperUnread old new slot ⊎ (IsScrub command × ScrubFails old new slot)

-- The slots and the shelf of a rack are as before: the images may have been written. No opening
-- failed, and the count of faults never falls.
pub record KeepsRack (old new : Seen) : Type 0 where
  pub same : new ≡ record old {
    held = new.held;
    unsynced = new.unsynced;
    never_synced = new.never_synced;
    account = new.account;
  }
  pub later : old.account.faults ≤ new.account.faults
  pub same_shut : new.account.shut ≡ old.account.shut

-- What lies behind the answer of a command over opened images. Only a scrub may do more than read,
-- and no byte changes where it isn't to write, or where a tree can't be read on. An answer that is
-- no fault comes behind a failed call only if it is of some kind. What the words alone decide is
-- not answered.
pub record IsBehindCommand (command : Command) (old new : Seen) (answer : Answer) : Type 0 where
  pub keeps : KeepsRack old new
  pub reads : (IsScrub command → ⊥) → OnlyReads old new
  pub held : opens_to_write command ≡ false → new.held ≡ old.held
  pub image : (slot : ℕ) → answer ≡ ImageFault slot → ImageFails command old new slot
  pub tree : (fault : TreeFault) → answer ≡ tree_answer fault → OnlyReads old new
      × (TellsCause command fault
      → (layout : Layout) × IsLayoutOf old new layout × FaultCause layout old new fault)
  pub hidden : NoneFailed old.account new.account ⊎ IsFault answer ⊎ MayFail command answer
  pub no_usage : (at : ℕ) → answer ≢ Usage at
  pub no_limit : (n : ℕ) → answer ≢ Limit images_limit n
