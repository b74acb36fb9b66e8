-- What the words and the images come to.
use Rattle.std.specs.Prelude.{◌≡◌, ◌⊎◌, ℕ, ◌<◌, false, nat_lt, if◌then◌else◌, length, Option, Some}
use Rattle.std.specs.Option.{option_and_then}
use Rattle.btr_rack.specs.Rack.{Shelf}
use Rattle.btr_rack.specs.Out.{CallAccount}
use Rattle.btr_restore.specs.Running.{Outside}
use Rattle.btr_run.specs.Answers.{error_line}
use Rattle.btr_run.specs.Commands.{command_outcome, CallsSink, MayCome, MayWant}
use Rattle.btr_run.specs.Images.{taken, most_images}
use Rattle.btr_run.specs.Outcomes.{Outcome, refused, DidAndTold, OrBare, OrMemory, HasFirstPart}
use Rattle.btr_run.specs.Outcomes.{IsPrinted}
use Rattle.btr_run.specs.SelfTested.{AsksToTry, IsTrialOutcome}
use Rattle.btr_run.specs.Words.{Words, IsSentence, IsUsageAt, images_of}
use Rattle.btr_run.specs.declared.plan.Command.{Command}
use Rattle.btr_run.specs.declared.plan.Plan.{Plan}
use Rattle.btr_volume.specs.declared.which.Which.TheVariants.{Images}
use Rattle.btr_run.specs.declared.answer.Answer.{Answer}
use Rattle.btr_run.specs.declared.answer.Answer.TheVariants.{Usage, Limit}

-- what a command of some words comes to over named images of a shelf; None where an image can't be
-- taken from it
abbrev pub images_outcome : Command → Words → Words → Shelf → Option Outcome
images_outcome command words names shelf =
    if nat_lt most_images (length names) then Some (refused (Limit Images (length names)))
    else option_and_then (command_outcome command words) (taken names shelf)

-- what the words come to over a shelf: a self-test to some trial, and any other command to what it
-- does over their images
abbrev pub IsOutcome : Words → Shelf → Outcome → Type 0
IsOutcome words shelf outcome =
    ((at : ℕ) × IsUsageAt words at × (outcome ≡ refused (Usage at)))
    ⊎ ((plan : Plan) × IsSentence plan words
    × (images_outcome plan.command words (images_of plan words) shelf ≡ Some outcome))
    ⊎ ((number : ℕ) × AsksToTry words number × IsTrialOutcome number outcome)

-- this answer, what was done in the sink and what was added to the text are what the words come to
-- over the shelf
pub record HasEffect (words : Words) (shelf : Shelf) (x y : Outside)
    (answer : Answer) : Type 0 where
  pub outcome : Outcome
  pub is : IsOutcome words shelf outcome
  pub answered : answer ≡ outcome.answer
  pub stands : DidAndTold x y outcome.steps (error_line outcome.answer)

-- a first part of what the words come to over the shelf was done and put, and of the line of its
-- answer, or for want of memory, or for a fault of the sink
abbrev pub HasPart : Words → Shelf → Outside → Outside → Type 0
HasPart words shelf x y =
    (outcome : Outcome) × OrMemory (IsOutcome words shelf) outcome × HasFirstPart x y outcome

-- the words alone decide this answer: they are no sentence, or name too many images
abbrev pub IsDecided : Words → Answer → Type 0
IsDecided words answer =
    ((at : ℕ) × IsUsageAt words at × (answer ≡ Usage at))
    ⊎ ((plan : Plan) × IsSentence plan words × (most_images < length (images_of plan words))
    × (answer ≡ Limit Images (length (images_of plan words))))

-- an answer of those that the words alone decide comes only where they decide it
pub record FollowsWords (words : Words) (answer : Answer) : Type 0 where
  pub usage : (at : ℕ) → answer ≡ Usage at → IsDecided words answer
  pub limit : (n : ℕ) → answer ≡ Limit Images n → IsDecided words answer

-- what the command of a sentence may come to
abbrev pub MayFollow : Words → Outcome → Type 0
MayFollow words outcome = (plan : Plan) × IsSentence plan words × MayCome plan.command words outcome

-- memory may be wanted after a first part of the text: where the output does, or the command
abbrev pub MayWantBy : Words → CallAccount → Type 0
MayWantBy words out =
    (out.ample ≡ false) ⊎ ((plan : Plan) × IsSentence plan words × MayWant plan.command words out)

-- the words ask for calls of the sink
abbrev pub AsksForSink : Words → Type 0
AsksForSink words = (plan : Plan) × IsSentence plan words × CallsSink plan.command words

-- What was done by the time of this answer, whatever the images hold: the steps of the command and
-- the line of its answer, or the line of a refusal; or the sink or the output failed, or memory
-- was wanted, and a first part stands there.
abbrev pub IsTold : Words → Outside → Outside → Answer → Type 0
IsTold words x y answer =
    (outcome : Outcome) × OrBare (MayFollow words) outcome
    × IsPrinted (MayWantBy words x.out_calls) x y outcome answer
