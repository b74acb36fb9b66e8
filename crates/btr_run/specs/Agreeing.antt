-- What a command comes to where calls on images failed, but the copies of each block agree.
use Rattle.std.specs.Prelude.{◌≡◌, ◌⊎◌, ◌≤◌, Bool, length, Some, Result, Ok, Err}
use Rattle.btr_prog.specs.Answers.{Names}
use Rattle.btr_prog.specs.Prog.{wants_of}
use Rattle.btr_rack.specs.Rack.{Shelf}
use Rattle.btr_check.specs.Wanted.{OfCheck}
use Rattle.btr_read.specs.Want.{addr_of}
use Rattle.btr_read.specs.declared.want.Want.{Want}
use Rattle.btr_restore.specs.Running.{Outside}
use Rattle.btr_scrub.specs.Repair.{meeting}
use Rattle.btr_scrub.specs.declared.tally.Tally.{Tally}
use Rattle.btr_volume.specs.Start.{Images}
use Rattle.btr_walk.specs.Reading.{UnreadBlock}
use Rattle.btr_run.specs.Checked.{check_outcome, filesystem_by}
use Rattle.btr_run.specs.Commands.{MayCome}
use Rattle.btr_run.specs.Effects.{MayWantBy}
use Rattle.btr_run.specs.Filesystem.{Filesystem, filesystem_of}
use Rattle.btr_run.specs.Images.{most_images, taken}
use Rattle.btr_run.specs.Outcomes.{Outcome, HasOneOutcome, IsPrinted, OrBare, refused, showing}
use Rattle.btr_run.specs.Queries.{query_row}
use Rattle.btr_run.specs.Rows.{IsRowOrUnread}
use Rattle.btr_run.specs.Scrubbed.{filesystem_as, scrub_outcome, tally_shown}
use Rattle.btr_run.specs.Unopened.{AreAgreed, IsOrUnopened}
use Rattle.btr_run.specs.Words.{Words, IsSentence, images_of}
use Rattle.btr_run.specs.declared.answer.Answer.{Answer}
use Rattle.btr_run.specs.declared.answer.Answer.TheVariants.{Unread}
use Rattle.btr_run.specs.declared.plan.Command.{Command}
use Rattle.btr_run.specs.declared.plan.Command.TheVariants.{Super, Ask, Check, Scrub, SelfTest}
use Rattle.btr_run.specs.declared.plan.Plan.{Plan}

-- a block could not be read that the check wants, and nothing is put but its line
pub record LacksBlock (read_data : Bool) (images : Images) (outcome : Outcome) : Type 0 where
  pub fs : Filesystem
  pub opened : filesystem_of images ≡ Ok fs
  pub unread : UnreadBlock
  pub want : Want
  pub wanted : OfCheck read_data (filesystem_by images fs) want
  pub named : unread.addr ≡ addr_of want
  pub bare : outcome ≡ refused (Unread unread.addr unread.slot)

-- a check comes to what the images hold, or to a block that could not be read, before anything is
-- put
abbrev pub IsCheckedOrUnread : Bool → Images → Outcome → Type 0
IsCheckedOrUnread read_data images outcome =
    IsOrUnopened images (check_outcome read_data images) outcome
    ⊎ LacksBlock read_data images outcome

-- a block could not be read that is wanted where the checked blocks are listed, and nothing is put
-- but its line
pub record LacksUnits (images : Images) (outcome : Outcome) : Type 0 where
  pub fs : Filesystem
  pub opened : filesystem_of images ≡ Ok fs
  pub unread : UnreadBlock
  pub wanted : Names (λ u want. u.addr ≡ addr_of want) unread
      (wants_of (meeting images (filesystem_as fs)).marks)
  pub bare : outcome ≡ refused (Unread unread.addr unread.slot)

-- a scrub comes to what the images hold, or to a block that could not be read, before anything is
-- put
abbrev pub IsScrubbedOrUnread : Bool → Images → Outcome → Type 0
IsScrubbedOrUnread write images outcome =
    IsOrUnopened images (scrub_outcome write images) outcome ⊎ LacksUnits images outcome

-- what each command comes to so; of those that have clauses of their own, what they may come to at
-- all
abbrev pub ComesAgreed : Command → Words → Images → Outcome → Type 0
ComesAgreed Super words images outcome = OrBare (MayCome Super words) outcome
ComesAgreed (Ask query) words images outcome = IsRowOrUnread (query_row query words) images outcome
ComesAgreed (Check read_data) words images outcome = IsCheckedOrUnread read_data images outcome
ComesAgreed (Scrub write) words images outcome = IsScrubbedOrUnread write images outcome
ComesAgreed (SelfTest number) words images outcome =
    OrBare (MayCome (SelfTest number) words) outcome

-- the words ask for a command over these images of a shelf
pub record AsksOf (words : Words) (shelf : Shelf) (plan : Plan) (images : Images) : Type 0 where
  pub sentence : IsSentence plan words
  pub few : length (images_of plan words) ≤ most_images
  pub from : taken (images_of plan words) shelf ≡ Some images

-- a command over images that agree did and answered what it comes to
abbrev pub FollowsAgreed : Words → Shelf → Outside → Outside → Answer → Type 0
FollowsAgreed words shelf x y result =
    (plan : Plan) (images : Images)
    → AsksOf words shelf plan images
    → AreAgreed images
    → HasOneOutcome (MayWantBy words x.out_calls) (ComesAgreed plan.command words images) x y result

-- a command over images that agree did what it comes to, and behind it the line of the answer was
-- put
abbrev pub KeepsAgreed : Words → Shelf → Outside → Outside → Answer → Type 0
KeepsAgreed words shelf x y result =
    (plan : Plan) (images : Images)
    → AsksOf words shelf plan images
    → AreAgreed images
    → (outcome : Outcome) × ComesAgreed plan.command words images outcome
    × IsPrinted (MayWantBy words x.out_calls) x y outcome result

-- what a scrub of images that agree is done with: its counts, or its refusal
abbrev pub ScrubsAgreed : Bool → Images → Result Tally Answer → Type 0
ScrubsAgreed write images (Ok tally) = scrub_outcome write images ≡ showing (tally_shown tally)
ScrubsAgreed write images (Err answer) = IsScrubbedOrUnread write images (refused answer)
