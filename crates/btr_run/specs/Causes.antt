-- What lies behind an answer: which call on an image failed.
use Rattle.std.specs.Prelude.{◌≡◌, ◌⊎◌, ℕ, ◌<◌, true, Option}
use Rattle.btr_rack.specs.Rack.{Account, Seen, Shelf, NoneFailed}
use Rattle.btr_read.specs.Layout.{Layout}
use Rattle.btr_walk.specs.Reading.{FaultCause}
use Rattle.btr_walk.specs.declared.fault.TreeFault.{TreeFault}
use Rattle.btr_run.specs.Behind.{IsFault, IsLayoutOf}
use Rattle.btr_run.specs.Commands.{ImageFails, MayFail, TellsCause, opens_to_write}
use Rattle.btr_run.specs.Faults.{tree_answer}
use Rattle.btr_run.specs.Images.{IsMissing}
use Rattle.btr_run.specs.Opening.{IsOpened, OpeningFailed}
use Rattle.btr_run.specs.Words.{Words, IsSentence, images_of}
use Rattle.btr_run.specs.declared.plan.Plan.{Plan}
use Rattle.btr_run.specs.declared.answer.Answer.{Answer}
use Rattle.btr_run.specs.declared.answer.Answer.TheVariants.{ImageFault, OutFault, Memory}

-- the words are a sentence, and an opening of one of its images failed last
pub record IsUnopened (words : Words) (old new : Seen) (slot : ℕ) : Type 0 where
  pub plan : Plan
  pub sentence : IsSentence plan words
  pub failed : OpeningFailed (opens_to_write plan.command) (images_of plan words) new.slots
      old.account new.account slot

-- the words are a sentence, and an opening of one of its images failed last; or they were opened,
-- and a read of one's superblock, or a call of a scrub on one, failed last
pub record ImageCause (words : Words) (old new : Seen) (slot : ℕ) : Type 0 where
  pub plan : Plan
  pub sentence : IsSentence plan words
  pub failed : OpeningFailed (opens_to_write plan.command) (images_of plan words) new.slots
      old.account new.account slot
      ⊎ ((opened : Seen) × IsOpened (images_of plan words) old opened
      × ImageFails plan.command opened new slot)

-- the image that couldn't be opened is answered, or a failure of the output, or want of memory for
-- the line
abbrev pub IsShut : Words → Seen → Seen → Answer → Type 0
IsShut words old new answer =
    ((slot : ℕ) × (answer ≡ ImageFault slot) × IsUnopened words old new slot)
    ⊎ (answer ≡ OutFault) ⊎ (answer ≡ Memory)

-- nothing is answered in place of a failed call on an image: none failed, also if the count of
-- faults rose elsewhere before, or a fault is answered, or what else the command may answer then
abbrev pub HidesNone : Words → Account → Account → Answer → Type 0
HidesNone words old new answer =
    NoneFailed old new ⊎ IsFault answer
    ⊎ ((plan : Plan) × IsSentence plan words × MayFail plan.command answer)

-- a rack as it is with its images open, and the account from before
abbrev pub opened_with : Account → Seen → Seen
opened_with account seen = record seen { account = account }

-- the words are a sentence, and the cause of a fault of a tree is in the images
-- that are open, where its command tells it
pub record CauseTold (words : Words) (old new : Seen) (fault : TreeFault) : Type 0 where
  pub plan : Plan
  pub sentence : IsSentence plan words
  pub cause : TellsCause plan.command fault
      → (layout : Layout) × IsLayoutOf (opened_with old.account new) new layout
      × FaultCause layout (opened_with old.account new) new fault

-- a fault of a tree has its cause, where the command that the words ask for tells it
abbrev pub TreeCause : Words → Seen → Seen → Answer → Type 0
TreeCause words old new answer =
    (fault : TreeFault) → answer ≡ tree_answer fault → CauseTold words old new fault

-- the words are a sentence, and one of its images isn't on the shelf
pub record IsMissingImage (words : Words) (shelf : Option Shelf) (slot : ℕ) : Type 0 where
  pub plan : Plan
  pub sentence : IsSentence plan words
  pub missing : IsMissing (images_of plan words) shelf slot

-- all that lies behind an answer before its line is put
pub record IsBehindWords (words : Words) (old new : Seen) (answer : Answer) : Type 0 where
  pub image : (slot : ℕ) → answer ≡ ImageFault slot → ImageCause words old new slot
  pub shut : old.account.shut < new.account.shut
      → (slot : ℕ) × (answer ≡ ImageFault slot) × IsUnopened words old new slot
  pub hidden : HidesNone words old.account new.account answer
  pub sure : (slot : ℕ) → answer ≡ ImageFault slot → old.sure ≡ true
      → IsMissingImage words old.shelf slot
  pub tree : TreeCause words old new answer
