-- A run, and what is promised of it: five things, and a sixth of a self-test.
use Rattle.std.specs.Prelude.{◌≡◌, ◌≢◌, ◌⊎◌, ℕ, ◌<◌, true, Bool, List, [], String, get_or, map}
use Rattle.std.specs.Prelude.{Option, Some, IfSome}
use Rattle.std.specs.String.{string_bytes}
use Rattle.std.specs.declared.alloc.Global.{Global}
use Rattle.btr_files.specs.declared.plan.RestorePlan.{RestorePlan}
use Rattle.btr_rack.specs.Out.{CallAccount}
use Rattle.btr_rack.specs.Rack.{Seen, Shelf, Steady}
use Rattle.btr_rack.specs.Sink.{Sink}
use Rattle.btr_restore.specs.Running.{Outside, outside}
use Rattle.btr_run.specs.Agreeing.{ComesAgreed, FollowsAgreed, KeepsAgreed}
use Rattle.btr_run.specs.Behind.{IfSteady}
use Rattle.btr_run.specs.Checked.{found}
use Rattle.btr_run.specs.Causes.{HidesNone, ImageCause, IsBehindWords, IsMissingImage, IsShut}
use Rattle.btr_run.specs.Causes.{TreeCause, opened_with}
use Rattle.btr_run.specs.Commands.{CallsSink, IsBehindCommand, MayCome, MayWant, command_outcome}
use Rattle.btr_run.specs.Effects.{AsksForSink, FollowsWords, HasEffect, HasPart, IsDecided}
use Rattle.btr_run.specs.Effects.{IsOutcome, IsTold, MayFollow, MayWantBy}
use Rattle.btr_run.specs.Images.{AreUnchanged}
use Rattle.btr_run.specs.Order.{FollowsOrder, InOrder, KeepsCommittedOrder, KeepsOrder}
use Rattle.btr_run.specs.Outcomes.{CallFailed, HasOneOutcome, IsPrinted, Outcome, OrBare, OrMemory}
use Rattle.btr_run.specs.Promise.{KeepsHeadline, KeepsOutcome}
use Rattle.btr_run.specs.Queries.{query_row}
use Rattle.btr_run.specs.Repaired.{AreLeft, AsksToWrite, KeepsRepair, LeavesScrubbed, NamesChunk}
use Rattle.btr_run.specs.Repaired.{WaitedBefore}
use Rattle.btr_run.specs.Rows.{IsRowDone}
use Rattle.btr_run.specs.SelfTested.{AsksToTry, IsTrialOf}
use Rattle.btr_run.specs.Stored.{IsStored, IsStoredOrTold}
use Rattle.btr_run.specs.Unopened.{AreAgreed}
use Rattle.btr_run.specs.Words.{Words}
use Rattle.btr_volume.specs.Start.{Images}
use Rattle.btr_run.specs.declared.answer.Answer.{Answer}
use Rattle.btr_run.specs.declared.answer.Answer.TheVariants.{ImageFault, SinkFault, OutFault}
use Rattle.btr_run.specs.declared.answer.Answer.TheVariants.{Memory}
use Rattle.btr_run.specs.declared.plan.Command.{Command}
use Rattle.btr_run.specs.declared.plan.Command.TheVariants.{Ask, Scrub}
use Rattle.btr_run.specs.declared.query.Query.{Query}
use Rattle.btr_run.specs.declared.query.Query.TheVariants.{Restore}

-- what a rack, a sink and an output show of themselves
pub record Eyes (R T O : Type 0) : Type 0 where
  pub seen : R → Seen
  pub sink : T → Sink
  pub sink_calls : T → CallAccount
  pub waits : T → Bool
  pub text : O → Option (List ℕ)
  pub out_calls : O → CallAccount

-- what is shown of a rack, a sink and an output, made of what each shows
abbrev pub eyes : {R T O : Type 0} → (R → Seen) → (T → Sink) → (T → CallAccount) → (T → Bool)
    → (O → Option (List ℕ)) → (O → CallAccount)
    → Eyes R T O
eyes seen sink sink_calls waits text out_calls =
    record {
      seen = seen;
      sink = sink;
      sink_calls = sink_calls;
      waits = waits;
      text = text;
      out_calls = out_calls;
    }

-- what a run is given: the rack of images, the sink and the output
pub record Given (R T O : Type 0) : Type 0 where
  pub rack : R
  pub tree : T
  pub out : O

-- a run: its words, what it was given as it began and as it ended, and its answer
pub record Run (R T O : Type 0) : Type 0 where
  pub eyes : Eyes R T O
  pub words : Words
  pub old : Given R T O
  pub new : Given R T O
  pub answer : Answer

-- a run, made of its parts
abbrev pub ran : {R T O : Type 0} → Eyes R T O → List (String Global) → R → T → O → R → T → O
    → Answer → Run R T O
ran seen words rack tree out rack' tree' out' answer = record {
  eyes = seen;
  words = map string_bytes words;
  old = record { rack = rack; tree = tree; out = out };
  new = record { rack = rack'; tree = tree'; out = out' };
  answer = answer;
}

-- the sink and the output that are given, as they are seen
abbrev pub outside_in : {R T O : Type 0} → Eyes R T O → Given R T O → Outside
outside_in e given =
    outside (e.sink given.tree) (e.sink_calls given.tree) (e.text given.out) (e.out_calls given.out)

module _ {R T O : Type 0} (run : Run R T O) where
  -- the rack before the run
  abbrev pub before : Seen
  before = run.eyes.seen run.old.rack

  -- the rack after the run
  abbrev pub behind : Seen
  behind = run.eyes.seen run.new.rack

  -- the sink and the output before it
  abbrev pub outside_before : Outside
  outside_before = outside_in run.eyes run.old

  -- the sink and the output after it
  abbrev pub outside_behind : Outside
  outside_behind = outside_in run.eyes run.new

  -- no call on an image failed
  abbrev pub AreImagesSteady : Type 0
  AreImagesSteady = Steady before.account.faults behind.account.faults

  -- nor did one of the output, and memory sufficed
  pub record IsPutWell : Type 0 where
    pub images : AreImagesSteady
    pub out : Steady outside_before.out_calls.faults outside_behind.out_calls.faults
    pub enough : run.answer ≢ Memory

  -- nor one of the sink: nothing failed
  pub record NothingFailed : Type 0 where
    pub put : IsPutWell
    pub sink : Steady outside_before.sink_calls.faults outside_behind.sink_calls.faults

  -- where the rack tells the shelf that its images are taken from, and P holds
  abbrev pub OfShelf : Type 0 → (Shelf → Type 0) → Type 0
  OfShelf P Q = IfSome before.shelf (λ shelf. P → Q shelf)

  -- ---- 1. The answer has its cause, and what stands in the sink and in the output is what it
  -- says.

  -- what the words alone decide is answered before any call on the rack and on the sink, unless
  -- the output refuses the line, and only then
  pub record FollowsItsWords : Type 0 where
    pub decided : (answer : Answer) → IsDecided run.words answer
        → (run.new.rack ≡ run.old.rack) × (run.new.tree ≡ run.old.tree)
        × ((run.answer ≡ answer) ⊎ (run.answer ≡ OutFault) ⊎ (run.answer ≡ Memory))
    pub stated : FollowsWords run.words run.answer

  -- a fault of an image, of a tree, of the sink or of the output is answered only with its cause,
  -- and nothing in place of a failed call on an image
  pub record HasCause : Type 0 where
    pub image : (slot : ℕ) → run.answer ≡ ImageFault slot → ImageCause run.words before behind slot
    pub shut : before.account.shut < behind.account.shut → IsShut run.words before behind run.answer
    pub sure : (slot : ℕ) → run.answer ≡ ImageFault slot → before.sure ≡ true
        → IsMissingImage run.words before.shelf slot
    pub tree : TreeCause run.words before behind run.answer
    pub sink : run.answer ≡ SinkFault
        → CallFailed outside_before.sink_calls outside_behind.sink_calls
    pub out : run.answer ≡ OutFault → CallFailed outside_before.out_calls outside_behind.out_calls
    pub hidden : HidesNone run.words before.account behind.account run.answer

  -- all that the answer means: what was put and done by then, that nothing of it waits to be
  -- stored, and that no other words than those of a restore that isn't dry make a call of the sink,
  -- whatever it and the rack tell
  pub record IsAnswered : Type 0 where
    pub words : FollowsItsWords
    pub cause : HasCause
    pub told : IsTold run.words outside_before outside_behind run.answer
    pub stored : IsStoredOrTold
        (run.eyes.waits run.new.tree) outside_before.sink_calls outside_behind.sink_calls run.answer
    pub alone : (AsksForSink run.words → ⊥) → run.new.tree ≡ run.old.tree

  -- ---- 2. Where nothing failed, the answer and all that was done are what the
  -- words and the bytes of the images come to.

  -- all that was done and answered is what they come to, for a restore also in rows and files
  pub record ComesTo (shelf : Shelf) : Type 0 where
    pub effect : HasEffect run.words shelf outside_before outside_behind run.answer
    pub outcome : KeepsOutcome run.words shelf outside_before outside_behind run.answer

  -- where no call failed, all that was done and answered is what the words and the images come to
  abbrev pub HasWholeEffect : Type 0
  HasWholeEffect = OfShelf NothingFailed ComesTo

  -- ---- 3. The headline: over honest images a restore is what was committed, whole, or
  -- up to exactly the first block that is lost.
  abbrev pub RestoresCommitted : Type 0
  RestoresCommitted =
      OfShelf NothingFailed
      (λ shelf. KeepsHeadline run.words shelf outside_before outside_behind run.answer)

  -- ---- 4. Whatever failed, a first part of that was done, where no call on an
  -- image failed or the images' copies agree.
  pub record KeepsFirstPart : Type 0 where
    pub steady : OfShelf AreImagesSteady
        (λ shelf. HasPart run.words shelf outside_before outside_behind)
    pub agreed : IfSome before.shelf
        (λ shelf. KeepsAgreed run.words shelf outside_before outside_behind run.answer)
    pub order : IfSome before.shelf
        (λ shelf. KeepsOrder run.words shelf
        (opened_with before.account behind) behind outside_before outside_behind run.answer)
    pub committed : IfSome before.shelf (λ shelf.
        KeepsCommittedOrder run.words shelf
        (opened_with before.account behind) behind outside_before outside_behind run.answer)

  -- ---- 5. The images are only read, but by a scrub that writes: this leaves
  -- exactly what mends them, or a first part of it.

  -- behind a scrub that was finished nothing waits for a sync, where nothing did before
  abbrev pub IsSynced : Type 0
  IsSynced = (lost : ℕ) → run.answer ≡ found lost → before.unsynced ≡ [] → behind.unsynced ≡ []

  -- wherever a scrub was stopped, what waits for a sync, where nothing did before, lies in stripes
  -- of one chunk of its images
  abbrev pub IsInChunk : Type 0
  IsInChunk =
      before.unsynced ≡ []
      → WaitedBefore before behind ⊎ NamesChunk run.words before behind run.answer

  -- a run leaves its images as they were, but for a scrub that writes, which leaves what mends them
  -- or a first part of it
  pub record LeavesItsImages : Type 0 where
    pub unchanged : (AsksToWrite run.words → ⊥) → AreUnchanged before.shelf behind.slots behind.held
    pub repaired : OfShelf IsPutWell (λ shelf. KeepsRepair run.words shelf behind.held)
    pub left : AsksToWrite run.words
        → AreLeft AreImagesSteady before.shelf behind.slots behind.held run.answer
    pub synced : AsksToWrite run.words → IsSynced
    pub waits : AsksToWrite run.words → IsInChunk

  -- ---- 6. A self-test makes no call of the rack and of the sink, and shows the trial of the
  -- volume that is made.

  -- where the maker tells its volume it is this one's: whole, or a first part of it where the
  -- output failed or memory was wanted
  abbrev pub ShowsTrial : Option Images → Type 0
  ShowsTrial volume =
      (number : ℕ) → AsksToTry run.words number
      → (run.new.rack ≡ run.old.rack) × (run.new.tree ≡ run.old.tree)
      × ((outcome : Outcome) × IsTrialOf volume number outcome
      × IsPrinted (Unit {0}) outside_before outside_behind outcome run.answer)

  -- ---- before its last line is put

  -- a self-test was done, but for the line of a refusal
  abbrev pub HasTried : Option Images → Type 0
  HasTried volume =
      (number : ℕ) → AsksToTry run.words number
      → (run.new.rack ≡ run.old.rack) × (run.new.tree ≡ run.old.tree)
      × HasOneOutcome (Unit {0}) (IsTrialOf volume number) outside_before outside_behind run.answer

  -- the words were obeyed: all of the five, but for the line of a refusal, whose answer is due
  pub record IsObeyed : Type 0 where
    pub effect : OfShelf AreImagesSteady (λ shelf.
        HasOneOutcome (MayWantBy run.words outside_before.out_calls)
        (OrMemory (IsOutcome run.words shelf)) outside_before outside_behind run.answer)
    pub told : HasOneOutcome (MayWantBy run.words outside_before.out_calls)
        (OrBare (MayFollow run.words)) outside_before outside_behind run.answer
    pub order : IfSome before.shelf
        (λ shelf. FollowsOrder run.words shelf
        (opened_with before.account behind) behind outside_before outside_behind run.answer)
    pub agreed : IfSome before.shelf
        (λ shelf. FollowsAgreed run.words shelf outside_before outside_behind run.answer)
    pub decided : (answer : Answer) → IsDecided run.words answer
        → (run.new.rack ≡ run.old.rack) × (run.new.tree ≡ run.old.tree) × (run.answer ≡ answer)
    pub stated : FollowsWords run.words run.answer
    pub stored : IsStored (run.eyes.waits run.new.tree) run.answer
    pub alone : (AsksForSink run.words → ⊥) → run.new.tree ≡ run.old.tree
    pub cause : IsBehindWords run.words before behind run.answer
    pub unchanged : (AsksToWrite run.words → ⊥) → AreUnchanged before.shelf behind.slots behind.held
    pub repaired : OfShelf AreImagesSteady
        (λ shelf. run.answer ≢ Memory → KeepsRepair run.words shelf behind.held)
    pub left : AsksToWrite run.words
        → AreLeft AreImagesSteady before.shelf behind.slots behind.held run.answer
    pub synced : AsksToWrite run.words → IsSynced
    pub waits : AsksToWrite run.words → IsInChunk

  -- a query was done over the images that were opened before: its row, a restore in its order;
  -- nothing of it waits behind a refusal, and one that calls no sink leaves it
  pub record IsAsked (query : Query) : Type 0 where
    pub done : IsRowDone (query_row query run.words) before behind outside_before outside_behind
        run.answer
    pub order : (number : ℕ) (plan : RestorePlan) → query ≡ Restore number plan
        → IfSome before.held (λ images. InOrder plan (get_or run.words number []) images
        before behind outside_before outside_behind run.answer)
    pub stored : IsStored (run.eyes.waits run.new.tree) run.answer
    pub alone : ((query_row query run.words).CallsSink → ⊥) → run.new.tree ≡ run.old.tree

  -- a command was done over them: what the words say, but for the line of a refusal
  pub record IsPerformed (command : Command) : Type 0 where
    pub effect : IfSteady before.held before.account behind.account (λ images.
        HasOneOutcome (MayWant command run.words outside_before.out_calls)
        (OrMemory (λ outcome. command_outcome command run.words images ≡ Some outcome))
        outside_before outside_behind run.answer)
    pub told : HasOneOutcome (MayWant command run.words outside_before.out_calls)
        (OrBare (MayCome command run.words))
        outside_before outside_behind run.answer
    pub order : (number : ℕ) (plan : RestorePlan) → command ≡ Ask (Restore number plan)
        → IfSome before.held (λ images. InOrder plan (get_or run.words number []) images
        before behind outside_before outside_behind run.answer)
    pub agreed : IfSome before.held (λ images. AreAgreed images
        → HasOneOutcome (MayWant command run.words outside_before.out_calls)
        (ComesAgreed command run.words images)
        outside_before outside_behind run.answer)
    pub stored : IsStored (run.eyes.waits run.new.tree) run.answer
    pub alone : (CallsSink command run.words → ⊥) → run.new.tree ≡ run.old.tree
    pub cause : IsBehindCommand command before behind run.answer
    pub leaves : command ≡ Scrub true → LeavesScrubbed before behind run.answer
