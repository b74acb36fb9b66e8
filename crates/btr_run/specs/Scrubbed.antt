-- The command that scrubs a filesystem.
use Rattle.std.specs.Prelude.{◌≡◌, ℕ, Bool, true, List, [], ◌++◌, codes, Option, Some, None, Result, Ok, Err}
use Rattle.std.specs.Fmt.{decimal}
use Rattle.btr_chunk.specs.declared.stripe.Stripe.{Stripe}
use Rattle.btr_scrub_copies.specs.Writes.{Write}
use Rattle.btr_read.specs.Fate.{Fault}
use Rattle.btr_scrub.specs.Filesystem as scrubbed
use Rattle.btr_scrub.specs.Repair.{effect, first_missing, meeting, stood_tally, tally}
use Rattle.btr_scrub.specs.declared.tally.Tally.{Tally}
use Rattle.btr_volume.specs.Start.{Images}
use Rattle.btr_run.specs.Checked.{found}
use Rattle.btr_run.specs.Filesystem.{Filesystem, fault_answer, filesystem_of}
use Rattle.btr_run.specs.Outcomes.{Outcome, Shown, refused, showing}
use Rattle.btr_run.specs.declared.answer.Answer.{Answer}
use Rattle.btr_run.specs.declared.answer.Answer.TheVariants.{MissingDevice}

-- a filesystem as it is scrubbed
abbrev pub filesystem_as : Filesystem → scrubbed.Filesystem
filesystem_as fs = record { layout = fs.layout; sup = fs.sup }

-- the line of the counts
abbrev pub tally_text : Tally → List ℕ
tally_text t =
    codes "blocks " ++ decimal t.blocks ++ codes " bad " ++ decimal t.bad ++ codes " repaired " ++ decimal t.repaired ++ codes " lost " ++ decimal t.lost
    ++ codes " parity " ++ decimal t.parity ++ codes " unchecked " ++ decimal t.unchecked ++ codes "\n"

-- what counts come to: their line, and how many blocks are lost
abbrev pub tally_shown : Tally → Shown
tally_shown t = record { answer = found t.lost; text = tally_text t }

-- the counts of a scrub, which writes or only reads: the tally of the repair,
-- each of which stands still at its type's end
abbrev pub counts : Bool → Images → scrubbed.Filesystem → Tally
counts write images fs = stood_tally (tally images fs write)

-- what a scrub comes to by how the listing of the checked blocks ends
abbrev pub scrub_ended : Bool → Images → scrubbed.Filesystem → Result (Unit {0}) Fault → Outcome
scrub_ended write images fs (Ok _) = showing (tally_shown (counts write images fs))
scrub_ended write images fs (Err fault) = refused (fault_answer fault)

-- what it comes to, if each device is given
abbrev pub scrub_unless : Bool → Images → scrubbed.Filesystem → Option Stripe → Outcome
scrub_unless write images fs (Some stripe) = refused (MissingDevice stripe.devid)
scrub_unless write images fs None = scrub_ended write images fs (meeting images fs).ending

-- what scrubbing the filesystem of some images comes to, or its answer where there is none
abbrev pub scrub_in : Bool → Images → Result Filesystem Answer → Outcome
scrub_in write images (Ok fs) = scrub_unless write images (filesystem_as fs) (first_missing fs.layout)
scrub_in write images (Err answer) = refused answer

-- what scrubbing the filesystem of some images comes to, where it writes or only reads
unfoldable pub scrub_outcome : Bool → Images → Outcome
scrub_outcome write images = scrub_in write images (filesystem_of images)

-- what scrubbing may come to, whatever the blocks are, beside refusals before anything else: some counts
pub record IsScrubOutcome (outcome : Outcome) : Type 0 where
  pub tally : Tally
  pub is : outcome ≡ showing (tally_shown tally)

-- the images after the writes that mend their filesystem, or as they are where there is none
abbrev pub scrubbed_in : Images → Result Filesystem Answer → Images
scrubbed_in images (Ok fs) = (effect true images (filesystem_as fs)).images
scrubbed_in images (Err answer) = images

-- the images behind a scrub that writes: those with the writes done that mend the filesystem
unfoldable pub scrubbed_images : Images → Images
scrubbed_images images = scrubbed_in images (filesystem_of images)

-- the writes that mend the filesystem of some images, or none where there is none
abbrev pub writes_in : Images → Result Filesystem Answer → List Write
writes_in images (Ok fs) = (effect true images (filesystem_as fs)).writes
writes_in images (Err answer) = []

-- the writes that mend the filesystem of some images, in their order: none where a device isn't
-- given, or the checked blocks can't be listed
unfoldable pub mending_writes : Images → List Write
mending_writes images = writes_in images (filesystem_of images)
